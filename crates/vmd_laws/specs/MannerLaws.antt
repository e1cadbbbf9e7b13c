-- The two manners of reading a file, side by side: 02 i), "The Rust's reading is what the lenient manner gives; a strict answer
-- that is no refusal equals it."
use Rattle.std.specs.Prelude.{ℕ, ◌*◌, ◌≡◌, refl, Bool, true, false, List, [], ◌∷◌, length, drop, leb}
use Rattle.std.proofs.Common.{arith}
use Rattle.vmd_format.specs.Bytes.{u32}
use Rattle.vmd_format.specs.Refusal.{Refusal, bytes_over, count_oversized}
use Rattle.vmd_format.specs.Answer.{Answer, declined, given}
use Rattle.vmd_format.specs.Read.{Step, refused, got, Reader, bind, Codec, many, Section, no_section, refuse, emptied, ignored, turned_down, strict, lenient, over_count, records_if, counted_if, counted, optional}
use Rattle.vmd_format.specs.Take.{Take, File, header, ended, sections, read_file, answer, read_take}
use Rattle.vmd_format.specs.Opening.{opened, open_file, scratch_of, scratch_after}

-- ---- definitions

-- What the strict manner reads in a file, beside what the lenient one does: the same, a refusal as well; or 16 or 17 where the
-- lenient one accepts the file.
pub data Readings {A : Type 0} : Answer A → Answer A → Type 0 where
  alike : (x : Answer A) → Readings x x
  over : (a : A) → Readings (declined bytes_over) (given a)
  oversized : (a : A) → Readings (declined count_oversized) (given a)

-- What a strict call answers and leaves in what it was lent, beside the answer of the lenient call and what that leaves: all
-- the same; or 16 or 17, and all that was lent is as it was.
pub data Stricter {A L : Type 0} (lent : L) : Answer A → L → Answer A → L → Type 0 where
  same : (x : Answer A) (l : L) → Stricter lent x l x l
  over : (y : Answer A) (r : L) → Stricter lent (declined bytes_over) lent y r
  oversized : (y : Answer A) (r : L) → Stricter lent (declined count_oversized) lent y r

-- ---- reading from the front

-- the same of a step
data Steps {A : Type 0} : Step A → Step A → Type 0 where
  alike : (x : Step A) → Steps x x
  over : (a : A) (s : List ℕ) → Steps (refused bytes_over) (got a s)
  oversized : (a : A) (s : List ℕ) → Steps (refused count_oversized) (got a s)

steps_bind : {A B : Type 0} (x : Step A) (f g : A → Reader B) → ((a : A) (s : List ℕ) → Steps (f a s) (g a s)) → Steps (bind x f) (bind x g)
unfolding bind
steps_bind (refused k) f g h = alike (refused k)
steps_bind (got a s) f g h = h a s

abbrev Accepts : {A : Type 0} → Step A → Type 0
Accepts (refused k) = ⊥
Accepts (got a s) = Unit {0}

steps_oversized : {A : Type 0} (y : Step A) → Accepts y → Steps (refused count_oversized) y
steps_oversized (refused k) h = absurd h
steps_oversized (got a s) h = oversized a s

-- with no bytes left a section is missing, and so are all after it
accepts_optional : {A B : Type 0} (r : Reader (Section A)) (g : Section A → Reader B) → Accepts (g no_section []) → Accepts (bind (optional r []) g)
unfolding optional bind
accepts_optional r g h = h

accepts_ended : (f : File) (s : List ℕ) → Accepts (ended ignored f s)
unfolding ended
accepts_ended f s = tt

-- a section whose count may be oversized; where it is emptied the lenient manner reads to the end
steps_section : {A B : Type 0} (C : Codec A) (f g : Section A → Reader B) → ((x : Section A) (s : List ℕ) → Steps (f x s) (g x s))
    → Accepts (g no_section [])
    → (s : List ℕ) → Steps (bind (optional (counted (refuse count_oversized) C) s) f) (bind (optional (counted emptied C) s) g)
unfolding optional counted counted_if records_if over_count bind
steps_section C f g h e [] = h no_section []
steps_section {A} {B} C f g h e (c ∷ t) = one (leb 4 (length s))
  where
    s : List ℕ
    s = c ∷ t

    two : (x : Bool)
        → Steps (bind (records_if x (refuse count_oversized) C (u32 s) (drop 4 s)) f) (bind (records_if x emptied C (u32 s) (drop 4 s)) g)
    two true = three (many C.read (u32 s) (drop 4 s))
      where
        three : (y : Step (List A))
            → Steps (bind (bind y (λ l u. got (record { start = drop 4 s; items = l }) u)) f)
            (bind (bind y (λ l u. got (record { start = drop 4 s; items = l }) u)) g)
        three (refused k) = alike (refused k)
        three (got l u) = h _ u
    two false = steps_oversized (g no_section []) e

    one : (x : Bool) → Steps (bind (counted_if x (refuse count_oversized) C s) f) (bind (counted_if x emptied C s) g)
    one true = two (leb (u32 s * C.least) (length (drop 4 s)))
    one false = alike _

steps_ended : (f : File) (s : List ℕ) → Steps (ended (turned_down bytes_over) f s) (ended ignored f s)
unfolding ended
steps_ended f [] = alike (got f [])
steps_ended f (b ∷ s) = over f (b ∷ s)

steps_sections : (name s : List ℕ) → Steps (sections strict name s) (sections lenient name s)
unfolding sections strict lenient
steps_sections name s₀ =
    steps_bind _ _ _ (λ b s₁.
    steps_bind _ _ _ (λ f s₂.
    steps_section _ _ _ (λ c s₃.
    steps_section _ _ _ (λ l s₄.
    steps_section _ _ _ (λ d s₅.
    steps_bind _ _ _ (λ p s₆. steps_ended _ s₆))
    (accepts_optional _ _ (accepts_ended _ [])) s₄)
    (accepts_optional _ _ (accepts_optional _ _ (accepts_ended _ []))) s₃)
    (accepts_optional _ _ (accepts_optional _ _ (accepts_optional _ _ (accepts_ended _ [])))) s₂))

steps_file : (s : List ℕ) → Steps (read_file strict s) (read_file lenient s)
unfolding read_file
steps_file s = steps_bind (header s) (sections strict) (sections lenient) steps_sections

-- ---- reading

-- the two manners read every file alike, but for 16 and 17
pub readings : (s : List ℕ) → Readings (read_take strict s) (read_take lenient s)
unfolding read_take answer
readings s = go (steps_file s)
  where
    go : {x y : Step File} → Steps x y → Readings (answer x) (answer y)
    go (alike x) = alike (answer x)
    go (over f r) = over _
    go (oversized f r) = oversized _

-- "a strict answer that is no refusal equals it"
pub strict_given : (s : List ℕ) (t : Take) → read_take strict s ≡ given t → read_take lenient s ≡ given t
strict_given s t = go (readings s)
  where
    go : {x y : Answer Take} → Readings x y → x ≡ given t → y ≡ given t
    go (alike x) e = e
    go (over a) e = let z : ◌≡◌ {A = ℕ} 0 1 = cc in absurd (omega arith)
    go (oversized a) e = let z : ◌≡◌ {A = ℕ} 0 1 = cc in absurd (omega arith)

-- a file that the lenient manner refuses is refused by the strict one with the same number
pub lenient_refused : (s : List ℕ) (k : Refusal) → read_take lenient s ≡ declined k → read_take strict s ≡ declined k
lenient_refused s k = go (readings s)
  where
    go : {x y : Answer Take} → Readings x y → y ≡ declined k → x ≡ declined k
    go (alike x) e = e
    go (over a) e = let z : ◌≡◌ {A = ℕ} 0 1 = cc in absurd (omega arith)
    go (oversized a) e = let z : ◌≡◌ {A = ℕ} 0 1 = cc in absurd (omega arith)

-- and one that it accepts is accepted, or refused with 16 or 17
pub lenient_given : (s : List ℕ) (t : Take) → read_take lenient s ≡ given t → Readings (read_take strict s) (given t)
lenient_given s t e = rw e at (readings s)

-- ---- the calls

-- a call that reads a file and then answers by F of what was read, and leaves G of it, of what it was lent
module _ {A L : Type 0} (lent : L) (F : Answer Take → Answer A) (G : Answer Take → L) where
  pub of_reading : ((k : Refusal) → F (declined k) ≡ declined k) → ((k : Refusal) → G (declined k) ≡ lent)
      → (s : List ℕ) → Stricter lent (F (read_take strict s)) (G (read_take strict s)) (F (read_take lenient s)) (G (read_take lenient s))
  of_reading f g s = go (readings s)
    where
      go : {x y : Answer Take} → Readings x y → Stricter lent (F x) (G x) (F y) (G y)
      go (alike x) = same (F x) (G x)
      go (over a) = rw (f bytes_over, g bytes_over) (over (F (given a)) (G (given a)))
      go (oversized a) = rw (f count_oversized, g count_oversized) (oversized (F (given a)) (G (given a)))

-- the same of two files, the first one's refusal first
module _ {A L : Type 0} (lent : L) (F : Answer Take → Answer Take → Answer A) (G : Answer Take → Answer Take → L) where
  pub of_readings : ((k : Refusal) (y : Answer Take) → F (declined k) y ≡ declined k) → ((t : Take) (k : Refusal) → F (given t) (declined k) ≡ declined k)
      → ((k : Refusal) (y : Answer Take) → G (declined k) y ≡ lent) → ((t : Take) (k : Refusal) → G (given t) (declined k) ≡ lent)
      → (a b : List ℕ) → Stricter lent (F (read_take strict a) (read_take strict b)) (G (read_take strict a) (read_take strict b))
      (F (read_take lenient a) (read_take lenient b)) (G (read_take lenient a) (read_take lenient b))
  of_readings f₁ f₂ g₁ g₂ a b = go (readings a) (readings b)
    where
      second : (t : Take) {x y : Answer Take} → Readings x y → Stricter lent (F (given t) x) (G (given t) x) (F (given t) y) (G (given t) y)
      second t (alike x) = same (F (given t) x) (G (given t) x)
      second t (over u) = rw (f₂ t bytes_over, g₂ t bytes_over) (over (F (given t) (given u)) (G (given t) (given u)))
      second t (oversized u) = rw (f₂ t count_oversized, g₂ t count_oversized) (oversized (F (given t) (given u)) (G (given t) (given u)))

      go : {x y x' y' : Answer Take} → Readings x y → Readings x' y' → Stricter lent (F x x') (G x x') (F y y') (G y y')
      go {x' = x'} {y' = y'} (alike (declined k)) r = rw (f₁ k x', g₁ k x', f₁ k y', g₁ k y') (same (declined k) lent)
      go (alike (given t)) r = second t r
      go {x' = x'} {y' = y'} (over t) r = rw (f₁ bytes_over x', g₁ bytes_over x') (over (F (given t) y') (G (given t) y'))
      go {x' = x'} {y' = y'} (oversized t) r = rw (f₁ count_oversized x', g₁ count_oversized x') (oversized (F (given t) y') (G (given t) y'))

-- opening: its answer and the scratch
pub stricter_opening : (s scratch : List ℕ)
    → Stricter scratch (open_file strict s (length scratch)) (scratch_after strict s scratch) (open_file lenient s (length scratch)) (scratch_after lenient s scratch)
unfolding open_file opened scratch_after scratch_of
stricter_opening s scratch = go (steps_file s)
  where
    go : {x y : Step File} → Steps x y → Stricter scratch (opened s (length scratch) x) (scratch_of s scratch x) (opened s (length scratch) y) (scratch_of s scratch y)
    go (alike x) = same (opened s (length scratch) x) (scratch_of s scratch x)
    go (over f r) = over (opened s (length scratch) (got f r)) (scratch_of s scratch (got f r))
    go (oversized f r) = oversized (opened s (length scratch) (got f r)) (scratch_of s scratch (got f r))

-- what such a call gives that is no refusal, the lenient one gives and leaves
pub stricter_given : {A L : Type 0} {lent l r : L} {x y : Answer A} → Stricter lent x l y r → (a : A) → x ≡ given a → (y ≡ given a) × (l ≡ r)
stricter_given (same x l) a e = (e, refl)
stricter_given (over y r) a e = let z : ◌≡◌ {A = ℕ} 0 1 = cc in absurd (omega arith)
stricter_given (oversized y r) a e = let z : ◌≡◌ {A = ℕ} 0 1 = cc in absurd (omega arith)
