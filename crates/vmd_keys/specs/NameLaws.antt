-- The names of a section by places are the names of its records as they are read, also cut. Assumes nothing.
use Rattle.std.specs.Prelude.{ℕ, zero, suc, ◌+◌, ◌*◌, ◌≡◌, refl, List, [], ◌∷◌, map, take, drop}
use Rattle.std.proofs.Common.{ap, ap₂, ◌∙◌, arith, mul-suc, drop-drop}
use Rattle.vmd_format.specs.Bytes.{before_zero}
use Rattle.vmd_format.specs.Layout.{Layout, number, name, raw, ◌⊗◌, as_record}
use Rattle.vmd_format.specs.Read.{table}
use Rattle.vmd_format.specs.Records.{bone, morph}
use Rattle.vmd_format.specs.Parts.{upto}
use Rattle.vmd_laws.specs.SizedLaws.{Sized, bone_sized, morph_sized}
use Rattle.vmd_keys.specs.declared.VmdCut.{VmdCut}
use Rattle.vmd_keys.specs.declared.VmdCut.TheVariants as cut
use Rattle.vmd_keys.specs.Names.{name_in, names_in, registration_name, cut_name, cut_names}

named_table : {A : Type 0} {K : Layout A} {w : ℕ} → Sized K w → (nm : A → List ℕ) → ((s : List ℕ) → nm (K.decode s) ≡ before_zero (take 15 s))
    → (s : List ℕ) (at k m : ℕ) → map nm (table K m (drop (at + w * k) s)) ≡ map (λ i. name_in s (at + w * i)) (upto k m)
unfolding table upto name_in
named_table z nm h s at k zero = refl
named_table {K = K} {w} z nm h s at k (suc m) =
    let e : at + w * k + w ≡ at + w * suc k = omega (arith, mul-suc w k) in
    let d : drop K.size (drop (at + w * k) s) ≡ drop (at + w * suc k) s = rw (z.size, drop-drop, e) in
    ap₂ ◌∷◌ (h (drop (at + w * k) s)) (ap (λ (t : List ℕ). map nm (table K m t)) d ∙ named_table z nm h s at (suc k) m)

section_names : {A : Type 0} {K : Layout A} {w : ℕ} → Sized K w → (nm : A → List ℕ) → ((s : List ℕ) → nm (K.decode s) ≡ before_zero (take 15 s))
    → (s : List ℕ) (at n : ℕ) → map nm (table K n (drop at s)) ≡ names_in s at w n
unfolding names_in
section_names {w = w} k nm h s at n =
    let z : at + w * 0 ≡ at = omega arith in
    rw z at (named_table k nm h s at 0 n)

pub bone_names : (s : List ℕ) (at n : ℕ) → map (λ b. b.name) (table bone n (drop at s)) ≡ names_in s at 111 n
unfolding bone as_record name number raw ◌⊗◌
bone_names s at n = section_names bone_sized (λ b. b.name) (λ t. refl) s at n

pub morph_names : (s : List ℕ) (at n : ℕ) → map (λ m. m.name) (table morph n (drop at s)) ≡ names_in s at 23 n
unfolding morph as_record name number raw ◌⊗◌
morph_names s at n = section_names morph_sized (λ m. m.name) (λ t. refl) s at n

-- names as they are told apart, one by one
pub cut_each : (c : VmdCut) (f : ℕ → List ℕ) (l : List ℕ) → cut_names c (map f l) ≡ map (λ i. cut_name c (f i)) l
cut_each cut.Whole f l = refl
cut_each cut.LineFeed f [] = refl
cut_each cut.LineFeed f (i ∷ l) = ap (λ (t : List (List ℕ)). registration_name (f i) ∷ t) (cut_each cut.LineFeed f l)
