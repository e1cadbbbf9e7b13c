-- Names and interpolation bytes as parts of their records: what a fetch gives of them stands in the file. Assumes nothing.
use Prim.Native.Nat.{ℕ, ◌+◌}
use mathlib.Core.Path.{◌≡◌, refl, ap}
use mathlib.Core.List.{List}
use native.Mathlib.Nat.{add-zero}
use lib.ListN.{take, drop}
use lib.Seq.{drop-drop}
use Rattle.vmd_format.specs.Layout.{Layout, number, flag, name, raw, ◌⊗◌, as_record}
use Rattle.vmd_format.specs.Answer.{Answer, declined, given, and_then, map_answer}
use Rattle.vmd_format.specs.Records.{bone, morph, camera, ik_state}
use Rattle.vmd_laws.specs.SizedLaws.{bone_sized, camera_sized, ik_state_sized}
use Rattle.vmd_format.specs.Opening.{Extent}
use Rattle.vmd_format.specs.Fetch.{record_place, fetch, or_empty, property_place, ik_extent, fetch_ik_state}
use Rattle.vmd_places.specs.Meaning.{ik_place}
use Rattle.vmd_places.specs.Parts.{part_in, Cuts, name_in, there}
use Rattle.vmd_places.proofs.Parts.{Front, front_name, front_bytes, there_cuts}

-- ---- sizes of records

pub bone_size : bone.size ≡ 111
bone_size = bone_sized.size

pub camera_size : camera.size ≡ 61
camera_size = camera_sized.size

ik_size : ik_state.size ≡ 21
ik_size = ik_state_sized.size

-- ---- fields

-- a field is what h takes of its record's bytes, from an offset on
pub record Field {A : Type 0} (K : Layout A) (size : ℕ) (field : A → List ℕ) (h : List ℕ → List ℕ) (offset : ℕ) : Type 0 where
  pub sized : K.size ≡ size
  pub taken : (t : List ℕ) → field (K.decode t) ≡ h (drop offset t)
  pub front : Front h

pub bone_name : Field bone 111 (λ x. x.name) (name_in 15) 0
unfolding bone as_record ◌⊗◌ name number raw name_in
bone_name = record { sized = refl; taken = λ t. refl; front = front_name 15 }

pub morph_name : Field morph 23 (λ x. x.name) (name_in 15) 0
unfolding morph as_record ◌⊗◌ name number name_in
morph_name = record { sized = refl; taken = λ t. refl; front = front_name 15 }

bone_front : (t : List ℕ) → drop 4 (drop 4 (drop 4 (drop 4 (drop 4 (drop 4 (drop 4 (drop 4 (drop 15 t)))))))) ≡ drop 47 t
bone_front t = simp drop-drop

bone_interpolation_at : (t : List ℕ) → (bone.decode t).interpolation ≡ take 64 (drop 47 t)
unfolding bone as_record ◌⊗◌ name number raw
bone_interpolation_at t = ap (take 64) (bone_front t)

camera_front : (t : List ℕ) → drop 4 (drop 4 (drop 4 (drop 4 (drop 4 (drop 4 (drop 4 (drop 4 t))))))) ≡ drop 32 t
camera_front t = simp drop-drop

camera_interpolation_at : (t : List ℕ) → (camera.decode t).interpolation ≡ take 24 (drop 32 t)
unfolding camera as_record ◌⊗◌ number raw
camera_interpolation_at t = ap (take 24) (camera_front t)

pub bone_interpolation : Field bone 111 (λ x. x.interpolation) (take 64) 47
bone_interpolation = record { sized = bone_size; taken = bone_interpolation_at; front = front_bytes 64 }

pub camera_interpolation : Field camera 61 (λ x. x.interpolation) (take 24) 32
camera_interpolation = record { sized = camera_size; taken = camera_interpolation_at; front = front_bytes 24 }

module _ {A : Type 0} {K : Layout A} {size : ℕ} {field : A → List ℕ} {h : List ℕ → List ℕ} {offset : ℕ} (f : Field K size field h offset) (p : Extent) (i : ℕ) (s : List ℕ) where
  -- what a fetch gives of a field stands there
  pub field_there : or_empty (map_answer field (fetch K p i s)) ≡ there h offset (record_place size p i s) s
  unfolding fetch there map_answer or_empty
  field_there = rw f.sized (go (record_place size p i s))
    where
      go : (x : Answer ℕ) → or_empty (map_answer field (map_answer (λ at. K.decode (drop at s)) x)) ≡ or_empty (map_answer (λ at. h (drop (at + offset) s)) x)
      go (declined k) = refl
      go (given at) = rw (f.taken (drop at s), drop-drop offset at s) refl

  -- and its part names it
  pub field_cuts : Cuts s (part_in (record_place size p i s) offset (or_empty (map_answer field (fetch K p i s)))) (or_empty (map_answer field (fetch K p i s)))
  field_cuts = rw field_there (there_cuts f.front s offset (record_place size p i s))

-- ---- IK states

module _ (p : Extent) (scratch : List ℕ) (i j : ℕ) (s : List ℕ) where
  pub ik_is : fetch_ik_state p scratch i j s ≡ map_answer (λ at. ik_state.decode (drop at s)) (ik_place p scratch i j s)
  unfolding fetch_ik_state ik_place fetch and_then map_answer
  ik_is = rw ik_size (go (property_place p scratch i s))
    where
      go : (x : Answer ℕ)
          → and_then x (λ at. map_answer (λ at. ik_state.decode (drop at s)) (record_place 21 (ik_extent s at) j s))
          ≡ map_answer (λ at. ik_state.decode (drop at s)) (and_then x (λ at. record_place 21 (ik_extent s at) j s))
      go (declined k) = refl
      go (given at) = refl

  pub ik_name_there : or_empty (map_answer (λ x. x.name) (fetch_ik_state p scratch i j s)) ≡ there (name_in 20) 0 (ik_place p scratch i j s) s
  unfolding there map_answer or_empty ik_state as_record ◌⊗◌ name flag name_in
  ik_name_there = rw ik_is (go (ik_place p scratch i j s))
    where
      go : (x : Answer ℕ)
          → or_empty (map_answer (λ x. x.name) (map_answer (λ at. ik_state.decode (drop at s)) x)) ≡ or_empty (map_answer (λ at. name_in 20 (drop (at + 0) s)) x)
      go (declined k) = refl
      go (given at) = rw (add-zero at) refl

  pub ik_name_cuts : Cuts s (part_in (ik_place p scratch i j s) 0 (or_empty (map_answer (λ x. x.name) (fetch_ik_state p scratch i j s))))
      (or_empty (map_answer (λ x. x.name) (fetch_ik_state p scratch i j s)))
  ik_name_cuts = rw ik_name_there (there_cuts (front_name 20) s 0 (ik_place p scratch i j s))
