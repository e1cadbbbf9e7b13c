-- What a record's bytes become when they are read and written again: names and flags in canonical form, all else as it is. Assumes nothing.
use Prim.Native.Nat.{ℕ, zero, suc, ◌+◌, ◌*◌, ◌/◌, ◌≤◌, ◌<◌}
use Rattle.std.specs.Prelude.{◌≡◌, refl, length, get_or, take, drop}
use Rattle.std.proofs.Common.{ap, sym, ◌∙◌, arith, drop-drop, take-add}
use Rattle.std.proofs.Math.Path.{ap₂}
use mathlib.Core.List.{List, [], ◌∷◌, ◌++◌, append_assoc}
use Rattle.std.proofs.Math.ListN.{length-drop}
use Rattle.vmd_format.specs.Bytes.{u32, u32_bytes, before_zero, padded, is_set, flag_byte, is_zero, inverted_byte}
use Rattle.vmd_laws.specs.BytesLaws.{Bytes, bytes_drop}
use Rattle.vmd_format.specs.Layout.{Layout, number, byte, flag, inverted, name, raw, ◌⊗◌, as_record}
use Rattle.vmd_format.specs.Records.{bone, morph, camera, light, self_shadow, ik_state}

-- w bytes of this layout at the front of s, read and written again, are f s
pub record Rewrites {A : Type 0} (K : Layout A) (w : ℕ) (f : List ℕ → List ℕ) : Type 0 where
  pub size : K.size ≡ w
  pub is : (s : List ℕ) → Bytes s → w ≤ length s → K.encode (K.decode s) ≡ f s

-- ---- fields

list_path : {a b c d e f g h : ℕ} → a ≡ e → b ≡ f → c ≡ g → d ≡ h → ◌≡◌ {A = List ℕ} (a ∷ b ∷ c ∷ d ∷ []) (e ∷ f ∷ g ∷ h ∷ [])
list_path p q r s = λ i. p i ∷ q i ∷ r i ∷ s i ∷ []

four_bytes : (a b c d n : ℕ) → a < 256 → b < 256 → c < 256 → d < 256 → n ≡ a + 256 * b + 65536 * c + 16777216 * d
    → u32_bytes n ≡ a ∷ b ∷ c ∷ d ∷ []
unfolding u32_bytes
four_bytes a b c d n ha hb hc hd e =
    let x : n / 256 ≡ b + 256 * c + 65536 * d = omega arith in
    let y : n / 65536 ≡ c + 256 * d = omega arith in
    let z : n / 16777216 ≡ d = omega arith in
    list_path (omega arith) (rw x (omega arith)) (rw y (omega arith)) (rw z (omega arith))

pub number_is : (s : List ℕ) → Bytes s → 4 ≤ length s → u32_bytes (u32 s) ≡ take 4 s
unfolding u32
number_is [] h l = absurd (omega arith)
number_is (a ∷ []) h l = absurd (omega arith)
number_is (a ∷ b ∷ []) h l = absurd (omega arith)
number_is (a ∷ b ∷ c ∷ []) h l = absurd (omega arith)
number_is (a ∷ b ∷ c ∷ d ∷ s) h l = four_bytes a b c d (a + 256 * b + 65536 * c + 16777216 * d) (h 0) (h 1) (h 2) (h 3) refl

number_rewrites : Rewrites number 4 (take 4)
unfolding number
number_rewrites = record { size = refl; is = number_is }

byte_is : (s : List ℕ) → 1 ≤ length s → get_or s 0 0 ∷ [] ≡ take 1 s
byte_is [] l = absurd (omega arith)
byte_is (a ∷ s) l = refl

byte_rewrites : Rewrites byte 1 (take 1)
unfolding byte
byte_rewrites = record { size = refl; is = λ s h l. byte_is s l }

flag_rewrites : Rewrites flag 1 (λ s. flag_byte (is_set (get_or s 0 0)) ∷ [])
unfolding flag
flag_rewrites = record { size = refl; is = λ s h l. refl }

inverted_rewrites : Rewrites inverted 1 (λ s. inverted_byte (is_zero (get_or s 0 0)) ∷ [])
unfolding inverted
inverted_rewrites = record { size = refl; is = λ s h l. refl }

name_rewrites : (n : ℕ) → Rewrites (name n) n (λ s. padded n (before_zero (take n s)))
unfolding name
name_rewrites n = record { size = refl; is = λ s h l. refl }

pub padded_front : (n : ℕ) (s : List ℕ) → n ≤ length s → padded n (take n s) ≡ take n s
unfolding padded
padded_front zero s h = refl
padded_front (suc n) [] h = absurd (omega arith)
padded_front (suc n) (b ∷ s) h = ap {B = List ℕ} (λ r. b ∷ r) (padded_front n s (omega arith))

raw_rewrites : (n : ℕ) → Rewrites (raw n) n (take n)
unfolding raw
raw_rewrites n = record { size = refl; is = λ s h l. padded_front n s l }

-- ---- fields one after another

module _ {A B : Type 0} {K : Layout A} {L : Layout B} {m n : ℕ} where
  both_rewrite : {f g : List ℕ → List ℕ} → Rewrites K m f → Rewrites L n g → Rewrites (K ⊗ L) (m + n) (λ s. f s ++ g (drop m s))
  unfolding ◌⊗◌
  both_rewrite k l = record {
    size = ap₂ ◌+◌ k.size l.size;
    is = λ s h o. ap₂ ◌++◌ (k.is s h (omega arith)) (rw k.size (l.is (drop m s) (bytes_drop m s h) (rw length-drop (omega arith))));
  }

  -- two fields that stay as they are, as one
  stays : Rewrites K m (take m) → Rewrites L n (take n) → Rewrites (K ⊗ L) (m + n) (take (m + n))
  stays k l = record { size = (both_rewrite k l).size; is = λ s h o. (both_rewrite k l).is s h o ∙ sym (take-add m n s) }

  -- the same before p bytes that stay and a field that changes
  stays_before : (p : ℕ) (g : List ℕ → List ℕ) → Rewrites K m (take m) → Rewrites L n (λ s. take p s ++ g (drop p s))
      → Rewrites (K ⊗ L) (m + n) (λ s. take (m + p) s ++ g (drop (m + p) s))
  stays_before p g k l = record {
    size = (both_rewrite k l).size;
    is = λ s h o. (both_rewrite k l).is s h o ∙ rw (take-add m p s, append_assoc, drop-drop);
  }

-- the fields under names of their own
renamed : {A B : Type 0} {K : Layout A} {w : ℕ} {h : List ℕ → List ℕ} (f : A → B) (g : B → A) → ((a : A) → g (f a) ≡ a) → Rewrites K w h → Rewrites (as_record f g K) w h
unfolding as_record
renamed {K = K} f g e k = record { size = k.size; is = λ s b l. ap K.encode (e (K.decode s)) ∙ k.is s b l }

word : {B : Type 0} {L : Layout B} {n : ℕ} → Rewrites L n (take n) → Rewrites (number ⊗ L) (4 + n) (take (4 + n))
word l = stays number_rewrites l

-- ---- records

pub bone_rewrites : Rewrites bone 111 (λ s. padded 15 (before_zero (take 15 s)) ++ take 96 (drop 15 s))
unfolding bone
bone_rewrites = renamed _ _ (λ a. refl) (both_rewrite (name_rewrites 15) (word (word (word (word (word (word (word (word (raw_rewrites 64))))))))))

pub morph_rewrites : Rewrites morph 23 (λ s. padded 15 (before_zero (take 15 s)) ++ take 8 (drop 15 s))
unfolding morph
morph_rewrites = renamed _ _ (λ a. refl) (both_rewrite (name_rewrites 15) (word number_rewrites))

pub camera_rewrites : Rewrites camera 61 (λ s. take 60 s ++ (inverted_byte (is_zero (get_or (drop 60 s) 0 0)) ∷ []))
unfolding camera
camera_rewrites =
    renamed _ _ (λ a. refl)
    (more 56 (more 52 (more 48 (more 44 (more 40 (more 36 (more 32 (more 28 (stays_before 4 g (raw_rewrites 24) (more 0 inverted_rewrites))))))))))
  where
    g : List ℕ → List ℕ
    g s = inverted_byte (is_zero (get_or s 0 0)) ∷ []

    more : {B : Type 0} {L : Layout B} {n : ℕ} (p : ℕ) → Rewrites L n (λ s. take p s ++ g (drop p s))
        → Rewrites (number ⊗ L) (4 + n) (λ s. take (4 + p) s ++ g (drop (4 + p) s))
    more p l = stays_before p g number_rewrites l

pub light_rewrites : Rewrites light 28 (take 28)
unfolding light
light_rewrites = renamed _ _ (λ a. refl) (word (word (word (word (word (word number_rewrites))))))

pub self_shadow_rewrites : Rewrites self_shadow 9 (take 9)
unfolding self_shadow
self_shadow_rewrites = renamed _ _ (λ a. refl) (word (stays byte_rewrites number_rewrites))

pub ik_state_rewrites : Rewrites ik_state 21 (λ s. padded 20 (before_zero (take 20 s)) ++ (flag_byte (is_set (get_or (drop 20 s) 0 0)) ∷ []))
unfolding ik_state
ik_state_rewrites = renamed _ _ (λ a. refl) (both_rewrite (name_rewrites 20) flag_rewrites)
