-- Laws of bones and morphs from their columns: what stands at an index, its bytes, and a loop that writes them. Assumes nothing.
use Prim.Native.Nat.{ℕ, zero, suc, ◌+◌, ◌-◌, ◌*◌, ◌≤◌, ◌<◌}
use mathlib.Core.Path.{◌≡◌, ap, sym, ◌∙◌}
use mathlib.Core.Bool.{true, and-eq-true_iff}
use mathlib.Core.List.{List, [], ◌∷◌, ◌++◌, map}
use native.Mathlib.Nat.{sub-zero}
use native.Mathlib.Numerals.{add-one}
use native.Mathlib.Omega.{arith}
use borrow.Author.Tests.{ltb-true}
use lib.ListN.{length, get_or, take, drop, length-drop, length-map}
use lib.Ieee.{Float, nan, binary32, to_bits}
use Rattle.vmd_format.specs.Bytes.{u32_bytes, padded}
use Rattle.vmd_format.specs.Layout.{number, name, raw, ◌⊗◌, as_record}
use Rattle.vmd_format.specs.Refusal.{name_index_too_large, not_finite}
use Rattle.vmd_format.specs.Records.{bone, morph}
use Rattle.vmd_format.specs.Read.{write_all}
use Rattle.vmd_laws.specs.Rewriting.{padded_front}
use Rattle.vmd_format.specs.Parts.{NameTable, Check, passes, each, finite, all_finite, names_of, upto}
use Rattle.vmd_laws.specs.PartsLaws.{all_at, upto_length, next_passes, need_passes, each_passes}
use Rattle.vmd_bytes.specs.Slices.{splice, run}
use Rattle.vmd_bytes.proofs.Laws.{part_cons}
use Rattle.vmd_bytes.specs.Written.{Room, Wrote}
use Rattle.vmd_bytes.proofs.Writes.{less_one, Filling, filling_start, filling_turn, filling_end}
use Rattle.vmd_check_columns.specs.Meaning.{bits}
use Rattle.vmd_check_columns.specs.Stages.{bone_right, morph_right}
use Rattle.vmd_write_columns.specs.Stages.{BoneThere, bone_bytes, BonesFit, bone_of, MorphsFit, morph_of}
use Rattle.vmd_check_columns.proofs.Columns.{bits_at}

-- ---- what the checks say of an index

upto_at : (j n i d : ℕ) → i < n → get_or (upto j n) i d ≡ j + i
unfolding upto
upto_at j zero i d h = absurd (omega arith)
upto_at j (suc n) zero d h = omega arith
upto_at j (suc n) (suc i) d h = upto_at (suc j) n i d (omega arith) ∙ omega arith

each_at : (f : ℕ → Check) (n i : ℕ) → i < n → each f (upto 0 n) ≡ passes → f i ≡ passes
each_at f n i h e =
    let q : get_or (upto 0 n) i 0 ≡ i = upto_at 0 n i 0 h ∙ omega arith in
    rw q at (all_at (λ a. f a ≡ passes) (upto 0 n) i 0 (omega (arith, upto_length 0 n)) (each_passes f (upto 0 n) e))

module _ {t : NameTable} {x f u r a : List ℕ} (g : BonesFit t x f u r a) (i : ℕ) (h : i < length x) where
  here : bone_right x (length t.ends) u r i ≡ passes
  here = each_at (bone_right x (length t.ends) u r) (length x) i h g.right

  pub bone_index : get_or x i 0 < length t.ends
  unfolding bone_right
  bone_index = ltb-true (get_or x i 0) (length t.ends) (need_passes _ name_index_too_large (next_passes here).0)

  pub bone_there : BoneThere u r a i
  unfolding bone_right
  bone_there =
      let b = (and-eq-true_iff (all_finite (take 3 (drop (3 * i) u))) (all_finite (take 4 (drop (4 * i) r)))).0 (need_passes _ not_finite (next_passes here).1) in
      record {
        translation = omega (arith, g.translated);
        rotation = omega (arith, g.rotated);
        interpolation = omega (arith, g.interpolated);
        translation_finite = b.0;
        rotation_finite = b.1;
      }

module _ {t : NameTable} {x f : List ℕ} (w : List Float) (g : MorphsFit t x f (bits w)) (i : ℕ) (h : i < length x) where
  morph_here : morph_right x (length t.ends) (bits w) i ≡ passes
  morph_here = each_at (morph_right x (length t.ends) (bits w)) (length x) i h g.right

  pub morph_index : get_or x i 0 < length t.ends
  unfolding morph_right
  morph_index = ltb-true (get_or x i 0) (length t.ends) (need_passes _ name_index_too_large (next_passes morph_here).0)

  pub morph_finite : i < length w → finite (to_bits binary32 (get_or w i nan)) ≡ true
  unfolding morph_right
  morph_finite k = rw (bits_at w i k) at (need_passes _ not_finite (next_passes morph_here).1)

-- ---- the bytes of a record

three : (l : List ℕ) (k : ℕ) → k + 3 ≤ length l → take 3 (drop k l) ≡ get_or l k 0 ∷ get_or l (k + 1) 0 ∷ get_or l (k + 2) 0 ∷ []
unfolding run
three l k h =
    let e : k + 1 + 1 ≡ k + 2 = omega arith in
    part_cons l k 2 (omega arith) ∙ rw (part_cons l (k + 1) 1 (omega arith), part_cons l (k + 1 + 1) 0 (omega arith), e)

four : (l : List ℕ) (k : ℕ) → k + 4 ≤ length l → take 4 (drop k l) ≡ get_or l k 0 ∷ get_or l (k + 1) 0 ∷ get_or l (k + 2) 0 ∷ get_or l (k + 3) 0 ∷ []
unfolding run
four l k h =
    let e : k + 1 + 1 ≡ k + 2 = omega arith in
    let f : k + 1 + 1 + 1 ≡ k + 3 = omega arith in
    part_cons l k 3 (omega arith)
    ∙ rw (part_cons l (k + 1) 2 (omega arith), part_cons l (k + 1 + 1) 1 (omega arith), part_cons l (k + 1 + 1 + 1) 0 (omega arith), f, e)

pub bone_is : {s : List ℕ} (t : NameTable) (x f u r a : List ℕ) (i : ℕ) → BoneThere u r a i → s ≡ get_or (names_of t) (get_or x i 0) []
    → bone_bytes s (get_or f i 0) u r a i ≡ bone.encode (bone_of t x f u r a i)
unfolding bone_bytes bone_of bone as_record ◌⊗◌ name number raw write_all u32_bytes
bone_is t x f u r a i b e =
    rw (e, three u (3 * i) b.translation, four r (4 * i) b.rotation, padded_front 64 (drop (64 * i) a) (rw length-drop (omega (arith, b.interpolation))))

pub morph_is : {s : List ℕ} (t : NameTable) (x f : List ℕ) (w : List Float) (i : ℕ) → i < length w → s ≡ get_or (names_of t) (get_or x i 0) []
    → padded 15 s ++ (u32_bytes (get_or f i 0) ++ u32_bytes (to_bits binary32 (get_or w i nan))) ≡ morph.encode (morph_of t x f (bits w) i)
unfolding morph_of morph as_record ◌⊗◌ name number
morph_is t x f w i h e = rw (e, bits_at w i h)

-- ---- a loop that writes a record for each index

module _ {A : Type 0} (f : ℕ → A) {n i : ℕ} where
  index_first : i < n → map f (upto i (n - i)) ≡ f i ∷ map f (upto (i + 1) (n - (i + 1)))
  unfolding upto
  index_first h =
      let d : n - i ≡ suc (n - (i + 1)) = omega arith in
      ap (λ x. map f (upto i x)) d ∙ ap {B = List A} (λ x. f i ∷ map f (upto x (n - (i + 1)))) (sym (add-one i))

  index_none : n ≤ i → map f (upto i (n - i)) ≡ []
  unfolding upto
  index_none h = let z : n - i ≡ 0 = omega arith in rw z

-- what holds before each turn: the records from this index on are left
pub record Columned {A : Type 0} (e : A → List ℕ) (w : ℕ) (f : ℕ → A) (n : ℕ) (out₀ : List ℕ) (to : ℕ) (out : List ℕ) (i q : ℕ) : Type 0 where
  pub fill : Filling e w out₀ to (write_all e (map f (upto 0 n))) out q (n - i) (map f (upto i (n - i)))

module _ {A : Type 0} {e : A → List ℕ} {w : ℕ} {f : ℕ → A} {n : ℕ} {out₀ : List ℕ} {to : ℕ} where
  pub columned_start : ((a : A) → length (e a) ≡ w) → Room out₀ to (write_all e (map f (upto 0 n))) → Columned e w f n out₀ to out₀ 0 to
  columned_start k h =
      let z : map f (upto 0 (n - 0)) ≡ map f (upto 0 n) = ap (λ x. map f (upto 0 x)) (sub-zero n) in
      record { fill = rw z (filling_start (map f (upto 0 n)) k (length-map (upto 0 n) f ∙ upto_length 0 n ∙ sym (sub-zero n)) h) }

  module _ {out : List ℕ} {i q : ℕ} (g : Columned e w f n out₀ to out i q) where
    pub columned_room : i < n → q + w ≤ length out
    columned_room h = omega (arith, g.fill.room, less_one (n - i) w (omega arith))

    pub columned_turn : {o v : List ℕ} → i < n → o ≡ splice out q v → v ≡ e (f i) → Columned e w f n out₀ to o (i + 1) (q + w)
    columned_turn h d z =
        let m : n - i - 1 ≡ n - (i + 1) = omega arith in
        record { fill = rw m at (filling_turn g.fill (omega arith) (index_first f h) d z) }

    pub columned_end : n ≤ i → Wrote out₀ to (write_all e (map f (upto 0 n))) out q
    columned_end h = filling_end g.fill (index_none f h)
