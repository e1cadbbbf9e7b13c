-- Values written one after another, of one size and of any, and what stands at a place of them. Assumes nothing.
use Prim.Native.Nat.{ℕ, zero, suc, ◌+◌, ◌*◌, ◌/◌, ◌%◌, ◌≤◌, ◌<◌}
use Rattle.std.specs.Prelude.{◌≡◌, get_or, take, drop}
use Rattle.std.proofs.Math.Path.{refl, ap}
use Rattle.std.proofs.Common.{sym, ◌∙◌, add-zero, get_or-drop, get_or-take}
use mathlib.Core.List.{List, [], ◌∷◌, ◌++◌, map, map-id, append_assoc}
use native.Mathlib.Omega.{arith}
use Rattle.std.proofs.Math.Nat.{div-eq_of_eq-mul_right, mul-mod_right}
use Rattle.std.proofs.Math.ListN.{length, length-append}
use Rattle.std.proofs.Math.Seq.{take_at, drop_at}
use Rattle.vmd_format.specs.Layout.{Layout}
use Rattle.vmd_laws.specs.LayoutLaws.{Lawful}
use Rattle.vmd_format.specs.Read.{got, Reader, bind, Codec, table, write_all}
use Rattle.vmd_laws.specs.ReadLaws.{All, all_append, CodecLaws, write_all_append}
use Rattle.vmd_laws.specs.SizedLaws.{Sized}
use Rattle.vmd_format.specs.Parts.{records_of, at_end, until_end, upto}

-- ---- a fact of each

module _ {A : Type 0} where
  pub all_of : (P : A → Type 0) → ((a : A) → P a) → (l : List A) → All P l
  all_of P h [] = tt
  all_of P h (a ∷ l) = (h a, all_of P h l)

  pub all_front : (P : A → Type 0) (l m : List A) → All P (l ++ m) → All P l
  all_front P [] m h = tt
  all_front P (a ∷ l) m h = (h.0, all_front P l m h.1)

  pub all_back : (P : A → Type 0) (l m : List A) → All P (l ++ m) → All P m
  all_back P [] m h = h
  all_back P (a ∷ l) m h = all_back P l m h.1

-- ---- values by their numbers

-- the value after others
pub getD_seam : {A B : Type 0} (f : A → B) (l : List A) (a : A) (m : List A) (d : B) → get_or (map f (l ++ (a ∷ m))) (length l) d ≡ f a
getD_seam f [] a m d = refl
getD_seam f (b ∷ l) a m d = getD_seam f l a m d

-- a function of numbers that gives for each number what another gives for the value of that number
numbered_from : {A B : Type 0} (f : ℕ → B) (g : A → B) (done rest : List A)
    → ((l : List A) (a : A) (m : List A) → done ++ rest ≡ l ++ (a ∷ m) → f (length l) ≡ g a)
    → map f (upto (length done) (length rest)) ≡ map g rest
unfolding upto
numbered_from f g done [] h = refl
numbered_from {A} {B} f g done (a ∷ rest) h =
    let n : length (done ++ (a ∷ [])) ≡ suc (length done) = omega (arith, length-append done (a ∷ [])) in
    let more = numbered_from f g (done ++ (a ∷ [])) rest (λ l b m e. h l b m (sym (append_assoc done (a ∷ []) rest) ∙ e)) in
    let first : f (length done) ≡ g a = h done a rest refl in
    let others : map f (upto (suc (length done)) (length rest)) ≡ map g rest = rw n at more in
    λ i. first i ∷ others i

pub numbered : {A B : Type 0} (f : ℕ → B) (g : A → B) (rest : List A)
    → ((l : List A) (a : A) (m : List A) → rest ≡ l ++ (a ∷ m) → f (length l) ≡ g a) → map f (upto 0 (length rest)) ≡ map g rest
numbered f g rest h = numbered_from f g [] rest h

-- ---- values of one size

module _ {A : Type 0} (w : A → List ℕ) (n : ℕ) where
  abbrev pub Wide : A → Type 0
  Wide a = length (w a) ≡ n

  pub write_length : (l : List A) → All Wide l → length (write_all w l) ≡ n * length l
  unfolding write_all
  write_length [] h = omega arith
  write_length (a ∷ l) h = simp length-append (omega (arith, h.0, write_length l h.1))

  -- the bytes of the value after others, and one of them
  pub part_there : (l : List A) (a : A) (m : List A) → All Wide (l ++ (a ∷ m))
      → take n (drop (n * length l) (write_all w (l ++ (a ∷ m)))) ≡ w a
  unfolding write_all
  part_there l a m h =
      rw (
        write_all_append w l (a ∷ m),
        drop_at (write_all w l) (w a ++ write_all w m) (n * length l) (write_length l (all_front Wide l (a ∷ m) h)),
        take_at (w a) (write_all w m) n (all_back Wide l (a ∷ m) h).0,
      )

  pub place_there : (l : List A) (a : A) (m : List A) → All Wide (l ++ (a ∷ m)) → (i : ℕ) → i < n
      → get_or (write_all w (l ++ (a ∷ m))) (n * length l + i) 0 ≡ get_or (w a) i 0
  place_there l a m h i k =
      sym (get_or-drop (n * length l) (write_all w (l ++ (a ∷ m))) i 0)
      ∙ sym (get_or-take n (drop (n * length l) (write_all w (l ++ (a ∷ m)))) i 0 k)
      ∙ ap (λ r. get_or r i 0) (part_there l a m h)

  pub first_there : (l : List A) (a : A) (m : List A) → All Wide (l ++ (a ∷ m)) → 0 < n
      → get_or (write_all w (l ++ (a ∷ m))) (n * length l) 0 ≡ get_or (w a) 0 0
  first_there l a m h k = rw add-zero at (place_there l a m h 0 k)

-- ---- numbers below a bound

-- each element is below k: bytes are below 256, words below 2 ^ 32
abbrev pub Below : ℕ → List ℕ → Type 0
Below k s = (i : ℕ) → get_or s i 0 < k

below_append : (k : ℕ) (s t : List ℕ) → Below k s → Below k t → Below k (s ++ t)
below_append k [] t h g i = g i
below_append k (b ∷ s) t h g zero = h 0
below_append k (b ∷ s) t h g (suc i) = below_append k s t (λ j. h (suc j)) g i

pub below_write : {A : Type 0} (k : ℕ) → 0 < k → (w : A → List ℕ) (l : List A) → All (λ a. Below k (w a)) l → Below k (write_all w l)
unfolding write_all
below_write k z w [] h i = z
below_write k z w (a ∷ l) h i = below_append k (w a) (write_all w l) h.0 (below_write k z w l h.1) i

pub below_map : {A : Type 0} (k : ℕ) → 0 < k → (f : A → ℕ) (l : List A) → All (λ a. f a < k) l → Below k (map f l)
below_map k z f [] h i = z
below_map k z f (a ∷ l) h zero = h.0
below_map k z f (a ∷ l) h (suc i) = below_map k z f l h.1 i

pub below_all : (k : ℕ) → 0 < k → (l : List ℕ) → All (λ n. n < k) l → Below k l
below_all k z l h i = rw (map-id l) at (below_map k z (λ n. n) l h i)

pub all_write : {A : Type 0} (P : ℕ → Type 0) (w : A → List ℕ) (l : List A) → All (λ a. All P (w a)) l → All P (write_all w l)
unfolding write_all
all_write P w [] h = tt
all_write P w (a ∷ l) h = all_append P (w a) (write_all w l) h.0 (all_write P w l h.1)

-- ---- records, read again

pub records_length : {A : Type 0} {K : Layout A} {w : ℕ} → Sized K w → (l : List A) → length (write_all K.encode l) ≡ w * length l
records_length {K = K} {w} z l = write_length K.encode w l (all_of (Wide K.encode w) z.wide l)

pub records_whole : {A : Type 0} {K : Layout A} {w : ℕ} → Sized K w → (l : List A) → length (write_all K.encode l) % K.size ≡ 0
records_whole {w = w} z l = rw (z.size, records_length z l) (mul-mod_right w (length l))

module _ {A : Type 0} {K : Layout A} {Good : A → Type 0} {w : ℕ} (k : Lawful K Good) (z : Sized K w) (some : 0 < w) where
  table_back : (l : List A) → All Good l → table K (length l) (write_all K.encode l) ≡ l
  unfolding table write_all
  table_back [] h = refl
  table_back (a ∷ l) h =
      rw (
        k.back a (write_all K.encode l) h.0,
        drop_at (K.encode a) (write_all K.encode l) K.size (k.wide a),
        table_back l h.1,
      )

  pub records_back : (l : List A) → All Good l → records_of K (write_all K.encode l) ≡ l
  unfolding records_of
  records_back l h =
      let n : length (write_all K.encode l) / K.size ≡ length l =
      rw z.size (div-eq_of_eq-mul_right {n = w} {m = length (write_all K.encode l)} {k = length l} some (records_length z l)) in
      ap (λ i. table K i (write_all K.encode l)) n ∙ table_back l h

-- ---- values of any size, read to the end

at_end_some : {A : Type 0} (more : Reader (List A)) (s : List ℕ) → 0 < length s → at_end more s ≡ more s
unfolding at_end
at_end_some more [] h = absurd (omega arith)
at_end_some more (b ∷ s) h = refl

module _ {A : Type 0} {C : Codec A} {Good : A → Type 0} (c : CodecLaws C Good) (some : 0 < C.least) where
  values_fewer : (l : List A) → length l ≤ length (write_all C.write l)
  unfolding write_all
  values_fewer [] = omega arith
  values_fewer (a ∷ l) = simp length-append (omega (arith, c.wide a, values_fewer l))

  until_back : (n : ℕ) (l : List A) → length l ≤ n → All Good l → until_end C.read n (write_all C.write l) ≡ got l []
  unfolding until_end at_end write_all bind
  until_back zero [] k h = refl
  until_back zero (a ∷ l) k h = absurd (omega arith)
  until_back (suc n) [] k h = refl
  until_back (suc n) (a ∷ l) k h =
      at_end_some (λ t. bind (C.read t) (λ b u. bind (until_end C.read n u) (λ m v. got (b ∷ m) v))) (C.write a ++ write_all C.write l) (simp length-append (omega (arith, c.wide a)))
      ∙ rw (c.back a (write_all C.write l) h.0, until_back n l (omega arith) h.1)

  pub values_back : (l : List A) → All Good l
      → until_end C.read (length (write_all C.write l)) (write_all C.write l) ≡ got l []
  values_back l h = until_back (length (write_all C.write l)) l (values_fewer l) h
