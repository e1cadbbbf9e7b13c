-- Laws of the smallest and the largest frame (02 c), in every manner of reading.
use Rattle.std.specs.Prelude.{ℕ, suc, ◌+◌, ◌≤◌, ◌<◌, min, max, ◌≡◌, refl, ◌⊎◌, List, [], ◌∷◌, ◌++◌, map, length, get_or, replicate}
use Rattle.std.proofs.Common.{ap, ap₂, sym, ◌∙◌, inl, inr, arith, length-append}
use Rattle.std.proofs.lemmas.List.{map-append, length-map, length-replicate}
use Rattle.std.proofs.Math.Decide.{dec_le}
use Rattle.vmd_laws.specs.BytesLaws.{Bytes}
use Rattle.vmd_format.specs.Answer.{given}
use Rattle.vmd_format.specs.Read.{Manner}
use Rattle.vmd_laws.specs.ReadLaws.{All}
use Rattle.vmd_format.specs.Take.{Take, read_take}
use Rattle.vmd_format.specs.Opening.{take_frames, least, smallest, largest, smallest_frame, largest_frame, record_count, Opening, open_file, smaller_of, joined_smallest}
use Rattle.vmd_laws.specs.FetchLaws.{Figures, own_records}
use Rattle.vmd_laws.specs.OpeningLaws.{opened_reads}
use Rattle.vmd_format.specs.Join.{join, join_files}
use Rattle.vmd_laws.specs.SavingLaws.{join_given}

-- ---- of numbers

least_min : (n k : ℕ) (l : List ℕ) → least (min n k) l ≡ min n (least k l)
unfolding least
least_min n k [] = refl
least_min n k (x ∷ l) = let e : min (min n k) x ≡ min n (min k x) = omega arith in rw e (least_min n (min k x) l)

least_self : (n : ℕ) (l : List ℕ) → least n l ≡ min n (least n l)
least_self n l = let e : min n n ≡ n = omega arith in ap (λ k. least k l) (sym e) ∙ least_min n n l

least_append : (n : ℕ) (l m : List ℕ) → least n (l ++ m) ≡ min (least n l) (least n m)
unfolding least
least_append n [] m = least_self n m
least_append n (x ∷ l) m =
    let e : min n x ≡ min x n = omega arith in
    let p : least (min n x) m ≡ min x (least n m) = ap (λ k. least k m) e ∙ least_min x n m in
    let q : least (min n x) l ≡ min x (least n l) = ap (λ k. least k l) e ∙ least_min x n l in
    least_append (min n x) l m ∙ rw p (rw q (omega arith))

pub largest_append : (l m : List ℕ) → largest (l ++ m) ≡ max (largest l) (largest m)
unfolding largest
largest_append [] m = omega arith
largest_append (x ∷ l) m = rw (largest_append l m) (omega arith)

-- of a number and those of a list
least_of : (n k : ℕ) (l : List ℕ) → least n (k ∷ l) ≡ min n (smallest (k ∷ l))
unfolding least smallest
least_of n k l = least_min n k l

-- "Joining gives the smaller of two, a take without records not counting": of a list with the numbers of two others
smallest_both : (x y z : List ℕ) → length x ≡ length y + length z → ((n : ℕ) → least n x ≡ min (least n y) (least n z))
    → smallest x ≡ smaller_of (length y) (length z) (smallest y) (smallest z)
unfolding least smallest smaller_of
smallest_both [] [] [] e h = refl
smallest_both [] [] (b ∷ m) e h = absurd (omega arith)
smallest_both [] (a ∷ l) z e h = absurd (omega arith)
smallest_both (c ∷ k) [] [] e h = absurd (omega arith)
smallest_both (c ∷ k) [] (b ∷ m) e h =
    let n = least c k + least b m in
    let q = h n in
    omega (arith, least_of n c k, least_of n b m, q)
smallest_both (c ∷ k) (a ∷ l) [] e h =
    let n = least c k + least a l in
    let q = h n in
    omega (arith, least_of n c k, least_of n a l, q)
smallest_both (c ∷ k) (a ∷ l) (b ∷ m) e h =
    let n = least c k + least a l + least b m in
    let q = h n in
    omega (arith, least_of n c k, least_of n a l, least_of n b m, q)

-- n is one of the numbers of a list, and R n k for each number k of it
pub record Extreme (R : ℕ → ℕ → Type 0) (l : List ℕ) (n : ℕ) : Type 0 where
  pub place : ℕ
  pub inside : place < length l
  pub there : get_or l place 0 ≡ n
  pub bounds : All (R n) l

-- what picks the first of two numbers in an order picks the first of a list, number by number
module _ (R : ℕ → ℕ → Type 0) (either : (n k : ℕ) → R n k ⊎ R k n) (through : (n k j : ℕ) → R n k → R k j → R n j)
    (pick : ℕ → ℕ → ℕ) (left : (n k : ℕ) → R n k → pick n k ≡ n) (right : (n k : ℕ) → R k n → pick n k ≡ k)
    (v : ℕ → List ℕ → ℕ) (one : (n : ℕ) → v n [] ≡ n) (more : (n x : ℕ) (l : List ℕ) → v n (x ∷ l) ≡ pick n (v x l)) where
  all_through : (n k : ℕ) (l : List ℕ) → R n k → All (R k) l → All (R n) l
  all_through n k [] h a = tt
  all_through n k (x ∷ l) h a = (through n k x h a.0, all_through n k l h a.1)

  self : (n : ℕ) → R n n
  self n = go (either n n)
    where
      go : R n n ⊎ R n n → R n n
      go (inl h) = h
      go (inr h) = h

  -- one number more: it is picked, or what was picked before
  with_one : (n k : ℕ) (l : List ℕ) → Extreme R l k → R n k ⊎ R k n → Extreme R (n ∷ l) (pick n k)
  with_one n k l e (inl h) = rw (left n k h) record { place = 0; inside = omega arith; there = refl; bounds = (self n, all_through n k l h e.bounds) }
  with_one n k l e (inr h) = rw (right n k h) record { place = suc e.place; inside = omega (arith, e.inside); there = e.there; bounds = (h, e.bounds) }

  picked : (n : ℕ) (l : List ℕ) → Extreme R (n ∷ l) (v n l)
  picked n [] = rw (one n) record { place = 0; inside = omega arith; there = refl; bounds = (self n, tt) }
  picked n (x ∷ l) = rw (more n x l) (with_one n (v x l) (x ∷ l) (picked x l) (either n (v x l)))

ordered : (n k : ℕ) → (n ≤ k) ⊎ (k ≤ n)
ordered n k = go (dec_le n k)
  where
    go : Dec (n ≤ k) → (n ≤ k) ⊎ (k ≤ n)
    go (yes h) = inl h
    go (no h) = inr (omega arith)

smallest_is : (n : ℕ) (l : List ℕ) → Extreme (λ n k. n ≤ k) (n ∷ l) (smallest (n ∷ l))
unfolding smallest least
smallest_is n l =
    picked (λ n k. n ≤ k) ordered (λ n k j h g. omega arith) min (λ n k h. omega arith) (λ n k h. omega arith) least (λ n. refl) least_min n l

largest_is : (n : ℕ) (l : List ℕ) → Extreme (λ n k. k ≤ n) (n ∷ l) (largest (n ∷ l))
unfolding largest
largest_is n l =
    picked (λ n k. k ≤ n) (λ n k. ordered k n) (λ n k j h g. omega arith) max (λ n k h. omega arith) (λ n k h. omega arith)
    (λ n l. largest (n ∷ l)) (λ n. omega arith) (λ n x l. refl) n l

-- ---- of takes

-- a value of a list that comes from those of its two parts, in whichever order four parts are put together
module _ (v : List ℕ → ℕ) (both : ℕ → ℕ → ℕ) (parted : (l m : List ℕ) → v (l ++ m) ≡ both (v l) (v m))
    (crossed : (a b c d : ℕ) → both (both a b) (both c d) ≡ both (both a c) (both b d)) where
  -- one more section before those of two takes
  section : {A : Type 0} (f : A → ℕ) (l m : List A) (x y z : List ℕ) → v x ≡ both (v y) (v z)
      → v (map f (l ++ m) ++ x) ≡ both (v (map f l ++ y)) (v (map f m ++ z))
  section f l m x y z e =
      ap (λ k. v (k ++ x)) (map-append f l m) ∙ parted (map f l ++ map f m) x ∙ ap₂ both (parted (map f l) (map f m)) e
      ∙ crossed (v (map f l)) (v (map f m)) (v y) (v z) ∙ sym (ap₂ both (parted (map f l) y) (parted (map f m) z))

  joined_value : (t u : Take) → v (take_frames (join t u)) ≡ both (v (take_frames t)) (v (take_frames u))
  unfolding take_frames join
  joined_value t u =
      section _ t.bones u.bones _ _ _
      (section _ t.morphs u.morphs _ _ _
      (section _ t.cameras u.cameras _ _ _
      (section _ t.lights u.lights _ _ _
      (section _ t.self_shadows u.self_shadows _ _ _
      (ap v (map-append _ t.properties u.properties) ∙ parted _ _)))))

-- of joined takes
takes_joined : (t u : Take)
    → (smallest (take_frames (join t u)) ≡ smaller_of (length (take_frames t)) (length (take_frames u)) (smallest (take_frames t)) (smallest (take_frames u)))
    × (largest (take_frames (join t u)) ≡ max (largest (take_frames t)) (largest (take_frames u)))
takes_joined t u = (
  smallest_both (take_frames (join t u)) (take_frames t) (take_frames u)
      (joined_value length ◌+◌ length-append (λ a b c d. omega arith) t u)
      (λ n. joined_value (least n) min (least_append n) (λ a b c d. omega arith) t u),
  joined_value largest max largest_append (λ a b c d. omega arith) t u,
)

-- ---- of what is opened

-- an opening counts as many records as the take has frames
counted : (o : Opening) (t : Take) → Figures o t → record_count o.scan ≡ length (take_frames t)
unfolding record_count take_frames
counted o t f = simp (length-append, length-map, f.bones, f.morphs, f.cameras, f.lights, f.self_shadows, f.properties) (omega arith)

figures : (m : Manner) (s : List ℕ) (places : ℕ) (o : Opening) (t : Take) → read_take m s ≡ given t → open_file m s places ≡ given o → Figures o t
figures m s places o t r h = (own_records m s (replicate places 0) o t r (rw (length-replicate {A = ℕ} places 0) h)).figures

-- "0 with no records"
pub none_opened : (m : Manner) (s : List ℕ) (places : ℕ) (o : Opening) → open_file m s places ≡ given o → record_count o.scan ≡ 0
    → (o.smallest_frame ≡ 0) × (o.largest_frame ≡ 0)
unfolding smallest largest smallest_frame largest_frame
none_opened m s places o h e =
    let t = opened_reads m s o places h in
    let f = figures m s places o t.0 t.1 h in
    go (take_frames t.0) (counted o t.0 f) f.smallest f.largest
  where
    go : (l : List ℕ) → record_count o.scan ≡ length l → o.smallest_frame ≡ smallest l → o.largest_frame ≡ largest l
        → (o.smallest_frame ≡ 0) × (o.largest_frame ≡ 0)
    go [] c p q = (p, q)
    go (n ∷ l) c p q = absurd (omega arith)

-- where there are records, the smallest is the frame of one of them, and none has a smaller one; and so with the largest
pub frames_opened : (m : Manner) (s : List ℕ) (places : ℕ) (o : Opening) (t : Take) → read_take m s ≡ given t → open_file m s places ≡ given o
    → 0 < record_count o.scan
    → Extreme (λ n k. n ≤ k) (take_frames t) o.smallest_frame × Extreme (λ n k. k ≤ n) (take_frames t) o.largest_frame
unfolding smallest_frame largest_frame
frames_opened m s places o t r h e =
    let f = figures m s places o t r h in
    go (take_frames t) (counted o t f) f.smallest f.largest
  where
    go : (l : List ℕ) → record_count o.scan ≡ length l → o.smallest_frame ≡ smallest l → o.largest_frame ≡ largest l
        → Extreme (λ n k. n ≤ k) l o.smallest_frame × Extreme (λ n k. k ≤ n) l o.largest_frame
    go [] c p q = absurd (omega arith)
    go (n ∷ l) c p q = (rw p (smallest_is n l), rw q (largest_is n l))

figures_joined : (x y z : Opening) (t u : Take) → Figures x t → Figures y u → Figures z (join t u)
    → (z.smallest_frame ≡ joined_smallest x y) × (z.largest_frame ≡ max x.largest_frame y.largest_frame)
unfolding joined_smallest smallest_frame largest_frame
figures_joined x y z t u e f g =
    let k = takes_joined t u in
    (rw (counted x t e, counted y u f, e.smallest, f.smallest) (g.smallest ∙ k.0), rw (e.largest, f.largest) (g.largest ∙ k.1))

-- "Joining gives the smaller of two, a take without records not counting": of two files that open, and what is written as
-- their join, which opens too
pub joined_opened : (m : Manner) (a b j : List ℕ) (p q r : ℕ) (x y z : Opening) → Bytes a → Bytes b → open_file m a p ≡ given x → open_file m b q ≡ given y
    → join_files m a b ≡ given j → open_file m j r ≡ given z
    → (z.smallest_frame ≡ joined_smallest x y) × (z.largest_frame ≡ max x.largest_frame y.largest_frame)
joined_opened m a b j p q r x y z ba bb ha hb w hj =
    let t = opened_reads m a x p ha in
    let u = opened_reads m b y q hb in
    let v = join_given m {a = a} {b = b} {j = j} (record { bytes = ba; reads = t.1 }) (record { bytes = bb; reads = u.1 }) w in
    figures_joined x y z t.0 u.0 (figures m a p x t.0 t.1 ha) (figures m b q y u.0 u.1 hb) (figures m j r z (join t.0 u.0) v hj)
