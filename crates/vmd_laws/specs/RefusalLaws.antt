-- Which refusals reading and opening give, and in which order: document 01, "Opening: 1 and 2 as met, then 3."
use Prim.Native.Nat.{ℕ, zero, suc, ◌*◌, ◌<◌}
use Rattle.std.proofs.Math.Path.{◌≡◌, subst}
use Rattle.std.specs.Prelude.{refl, Bool, length, take, drop, leb}
use Rattle.std.proofs.Common.{sym, arith}
use Rattle.std.proofs.Math.Bool.{true, false}
use mathlib.Core.List.{List, [], ◌∷◌, ◌++◌}
use Rattle.std.proofs.lemmas.Bool.{lt-leb}
use Rattle.vmd_format.specs.Bytes.{u32}
use Rattle.vmd_format.specs.Layout.{Layout}
use Rattle.vmd_format.specs.Refusal.{Refusal, number, file_ends_early, magic_differs, scratch_too_short}
use Rattle.vmd_format.specs.Answer.{Answer, declined, given, and_then, unless}
use Rattle.vmd_format.specs.Records.{ik_state, property_head}
use Rattle.vmd_format.specs.Read.{Step, refused, got, Reader, bind, Codec, whole_if, whole, fixed, many, Section, Oversized, refuse, emptied, BytesOver, ignored, turned_down, Manner, strict, lenient, over_count, records_if, counted_if, counted, optional}
use Rattle.vmd_format.specs.Take.{Take, File, take_of, property, magic, older_magic, same, edition_if, edition, model_if, magic_if, header_if, header, ended, sections, read_file, answer, read_take}
use Rattle.vmd_format.specs.Opening.{places_needed, Opening, opening_of, opened, open_file}
use Rattle.vmd_laws.specs.OpeningLaws.{take_opens, ScratchEnough}

-- ---- definitions

-- a number that is one of these
pub data Among (n : ℕ) : List ℕ → Type 0 where
  here : {l : List ℕ} → Among n (n ∷ l)
  there : {a : ℕ} {l : List ℕ} → Among n l → Among n (a ∷ l)

-- the numbers that a manner of reading gives an oversized count and bytes over
abbrev pub oversized_number : Oversized → List ℕ
oversized_number (refuse k) = number k ∷ []
oversized_number emptied = []

abbrev pub over_number : BytesOver → List ℕ
over_number ignored = []
over_number (turned_down k) = number k ∷ []

-- what reading refuses a file with: 1, 2, and what the manner names
abbrev pub reading_numbers : Manner → List ℕ
reading_numbers m = 1 ∷ 2 ∷ oversized_number m.oversized ++ over_number m.over

-- an answer that is a refusal has one of these numbers
abbrev pub Refuses : {A : Type 0} → List ℕ → Answer A → Type 0
Refuses l (declined k) = Among (number k) l
Refuses l (given a) = Unit {0}

-- ---- a fact of the refusal of a step, if it is one

abbrev Refused : {A : Type 0} → (Refusal → Type 0) → Step A → Type 0
Refused P (refused k) = P k
Refused P (got a s) = Unit {0}

abbrev OverRefused : (Refusal → Type 0) → Oversized → Type 0
OverRefused P (refuse k) = P k
OverRefused P emptied = Unit {0}

module _ (P : Refusal → Type 0) where
  bind_refused : {A B : Type 0} (x : Step A) (f : A → Reader B) → Refused P x → ((a : A) (s : List ℕ) → Refused P (f a s)) → Refused P (bind x f)
  unfolding bind
  bind_refused (refused k) f h g = h
  bind_refused (got a s) f h g = g a s

  module _ (early : P file_ends_early) where
    whole_refused : {A : Type 0} (K : Layout A) (s : List ℕ) → Refused P (whole K s)
    unfolding whole whole_if
    whole_refused K s = go (leb K.size (length s))
      where
        go : (b : Bool) → Refused P (whole_if b K s)
        go true = tt
        go false = early

    many_refused : {A : Type 0} (r : Reader A) → ((s : List ℕ) → Refused P (r s)) → (n : ℕ) (s : List ℕ) → Refused P (many r n s)
    unfolding many
    many_refused r h zero s = tt
    many_refused r h (suc n) s = bind_refused (r s) _ (h s) λ a t. bind_refused (many r n t) _ (many_refused r h n t) λ l u. tt

    over_refused : (A : Type 0) (o : Oversized) → OverRefused P o → Refused P (over_count {A = A} o)
    unfolding over_count
    over_refused A (refuse k) h = h
    over_refused A emptied h = tt

    counted_refused : {A : Type 0} (o : Oversized) (C : Codec A) → OverRefused P o → ((s : List ℕ) → Refused P (C.read s))
        → (s : List ℕ) → Refused P (counted o C s)
    unfolding counted counted_if records_if
    counted_refused {A} o C h r s = one (leb 4 (length s))
      where
        two : (b : Bool) → Refused P (records_if b o C (u32 s) (drop 4 s))
        two true = bind_refused (many C.read (u32 s) (drop 4 s)) _ (many_refused C.read r (u32 s) (drop 4 s)) λ l t. tt
        two false = over_refused A o h

        one : (b : Bool) → Refused P (counted_if b o C s)
        one true = two (leb (u32 s * C.least) (length (drop 4 s)))
        one false = early

    fixed_refused : {A : Type 0} (o : Oversized) (K : Layout A) → OverRefused P o → (s : List ℕ) → Refused P (counted o (fixed K) s)
    unfolding fixed
    fixed_refused o K h s = counted_refused o (fixed K) h (whole_refused K) s

    optional_refused : {A : Type 0} (r : Reader (Section A)) → ((s : List ℕ) → Refused P (r s)) → (s : List ℕ) → Refused P (optional r s)
    unfolding optional
    optional_refused r h [] = tt
    optional_refused r h (b ∷ s) = h (b ∷ s)

    property_refused : (s : List ℕ) → Refused P (property.read s)
    unfolding property
    property_refused s =
        bind_refused (whole property_head s) _ (whole_refused property_head s) λ h t.
        bind_refused (counted (refuse file_ends_early) (fixed ik_state) t) _ (fixed_refused (refuse file_ends_early) ik_state early t) λ k u. tt

    header_refused : P magic_differs → (s : List ℕ) → Refused P (header s)
    unfolding header header_if magic_if model_if edition edition_if
    header_refused differs s = one (leb 30 (length s))
      where
        three : (width : ℕ) (b : Bool) → Refused P (model_if b width s)
        three width true = tt
        three width false = early

        two : (x y : Bool) → Refused P (magic_if (edition_if x y) s)
        two true y = three 20 (leb 50 (length s))
        two false true = three 10 (leb 40 (length s))
        two false false = differs

        one : (b : Bool) → Refused P (header_if b s)
        one true = two (same (take 26 s) magic) (same (take 26 s) older_magic)
        one false = early

    -- each section, then the bytes over
    sections_refused : (m : Manner) → OverRefused P m.oversized → ((f : File) (s : List ℕ) → Refused P (ended m.over f s))
        → (name s : List ℕ) → Refused P (sections m name s)
    unfolding sections
    sections_refused m o e name s₀ =
        bind_refused _ _ (fixed_refused (refuse file_ends_early) _ early s₀) λ b s₁.
        bind_refused _ _ (optional_refused _ (fixed_refused (refuse file_ends_early) _ early) s₁) λ f s₂.
        bind_refused _ _ (optional_refused _ (fixed_refused m.oversized _ o) s₂) λ c s₃.
        bind_refused _ _ (optional_refused _ (fixed_refused m.oversized _ o) s₃) λ l s₄.
        bind_refused _ _ (optional_refused _ (fixed_refused m.oversized _ o) s₄) λ d s₅.
        bind_refused _ _ (optional_refused _ (counted_refused (refuse file_ends_early) property early property_refused) s₅) λ p s₆.
        e _ s₆

-- ---- numbers that are among others

pub among_front : {n : ℕ} (l r : List ℕ) → Among n l → Among n (l ++ r)
among_front {n = n} [] r x = elim x [ ]
among_front (a ∷ l) r here = here
among_front (a ∷ l) r (there h) = there (among_front l r h)

pub among_back : {n : ℕ} (l r : List ℕ) → Among n r → Among n (l ++ r)
among_back [] r h = h
among_back (a ∷ l) r h = there (among_back l r h)

-- an answer's refusals, among more of them; and one answer after another
pub refuses_more : {A : Type 0} (l r : List ℕ) (x : Answer A) → Refuses l x → Refuses (l ++ r) x
refuses_more l r (declined k) h = among_front l r h
refuses_more l r (given a) h = tt

pub refuses_then : {A B : Type 0} (l : List ℕ) (x : Answer A) (f : A → Answer B) → Refuses l x → ((a : A) → Refuses l (f a)) → Refuses l (and_then x f)
unfolding and_then
refuses_then l (declined k) f h g = h
refuses_then l (given a) f h g = g a

pub refuses_unless : {A : Type 0} (l : List ℕ) (b : Bool) (k : Refusal) (x : Answer A) → Among (number k) l → Refuses l x → Refuses l (unless b k x)
unfolding unless
refuses_unless l true k x h g = g
refuses_unless l false k x h g = h

-- ---- reading and opening

-- what a manner names is among its numbers
oversized_named : (o : Oversized) (r : List ℕ) → OverRefused (λ k. Among (number k) (1 ∷ 2 ∷ oversized_number o ++ r)) o
oversized_named (refuse k) r = there (there here)
oversized_named emptied r = tt

over_named : (o : BytesOver) (l : List ℕ) (f : File) (s : List ℕ) → Refused (λ k. Among (number k) (1 ∷ 2 ∷ l ++ over_number o)) (ended o f s)
unfolding ended
over_named ignored l f s = tt
over_named (turned_down k) l f [] = tt
over_named (turned_down k) l f (b ∷ s) = there (there (among_back l (number k ∷ []) here))

module _ (m : Manner) where
  abbrev OfReading : Refusal → Type 0
  OfReading k = Among (number k) (reading_numbers m)

  file_refuses : (s : List ℕ) → Refused OfReading (read_file m s)
  unfolding read_file
  file_refuses s =
      bind_refused OfReading (header s) _ (header_refused OfReading here (there here) s) λ name t.
      sections_refused OfReading here m (oversized_named m.oversized (over_number m.over))
      (over_named m.over (oversized_number m.oversized)) name t

  -- "1 and 2 as met", or what the manner names
  pub reading_refuses : (s : List ℕ) → Refuses (reading_numbers m) (read_take m s)
  unfolding read_take answer
  reading_refuses s = go (read_file m s) (file_refuses s)
    where
      go : (x : Step File) → Refused OfReading x → Refuses (reading_numbers m) (answer x)
      go (refused k) h = h
      go (got f r) h = tt

  -- "Opening: 1 and 2 as met, then 3."
  pub opening_refuses : (s : List ℕ) (places : ℕ) → Refuses (reading_numbers m ++ (3 ∷ [])) (open_file m s places)
  unfolding open_file opened unless
  opening_refuses s places = go (read_file m s) (file_refuses s)
    where
      short : (b : Bool) (o : Opening) → Refuses (reading_numbers m ++ (3 ∷ [])) (unless b scratch_too_short (given o))
      short true o = tt
      short false o = among_back (reading_numbers m) (3 ∷ []) here

      go : (x : Step File) → Refused OfReading x → Refuses (reading_numbers m ++ (3 ∷ [])) (opened s places x)
      go (refused k) h = among_front (reading_numbers m) (3 ∷ []) h
      go (got f r) h = short (leb (places_needed (length f.properties.items)) places) (opening_of s f)

  -- a file that is not read is refused with that number, whatever the scratch
  pub opening_reads_first : (s : List ℕ) (places : ℕ) (k : Refusal) → read_take m s ≡ declined k → open_file m s places ≡ declined k
  unfolding read_take answer open_file opened
  opening_reads_first s places k e = go (read_file m s) e
    where
      go : (x : Step File) → answer x ≡ declined k → opened s places x ≡ declined k
      go (refused j) e = cc
      go (got f r) e = let z : ◌≡◌ {A = ℕ} 0 1 = cc in absurd (omega arith)

  -- one that is read is refused only for its scratch: "fewer than a sixteenth of the frames, rounded up"
  pub opening_then_scratch : (s : List ℕ) (places : ℕ) (t : Take) → read_take m s ≡ given t → places < places_needed (length t.properties)
      → open_file m s places ≡ declined scratch_too_short
  unfolding read_take answer take_of open_file opened unless
  opening_then_scratch s places t e h = go (read_file m s) e
    where
      go : (x : Step File) → answer x ≡ given t → opened s places x ≡ declined scratch_too_short
      go (refused j) e = let z : ◌≡◌ {A = ℕ} 0 1 = cc in absurd (omega arith)
      go (got f r) e =
          let q : take_of f ≡ t = cc in
          let n : places < places_needed (length f.properties.items) = subst (λ u. places < places_needed (length u.properties)) (sym q) h in
          rw (lt-leb (places_needed (length f.properties.items)) places n)

  -- with scratch enough, only as reading refuses
  pub enough_refuses : (s : List ℕ) (places : ℕ) → ScratchEnough m s places → Refuses (reading_numbers m) (open_file m s places)
  enough_refuses s places h = go (read_take m s) refl (reading_refuses s)
    where
      go : (x : Answer Take) → read_take m s ≡ x → Refuses (reading_numbers m) x → Refuses (reading_numbers m) (open_file m s places)
      go (declined k) e r = rw (opening_reads_first s places k e) r
      go (given t) e r = rw (take_opens m s t places e (h t e)).1 tt

-- "Opening: 1, 2, 3", in the lenient manner, as document 01 reads; and 02 i), 17 and 16 in the strict one
pub opening_numbers : (s : List ℕ) (places : ℕ) → Refuses (1 ∷ 2 ∷ 3 ∷ []) (open_file lenient s places)
unfolding lenient
opening_numbers s places = opening_refuses lenient s places

pub strict_opening_numbers : (s : List ℕ) (places : ℕ) → Refuses (1 ∷ 2 ∷ 17 ∷ 16 ∷ 3 ∷ []) (open_file strict s places)
unfolding strict
strict_opening_numbers s places = opening_refuses strict s places
