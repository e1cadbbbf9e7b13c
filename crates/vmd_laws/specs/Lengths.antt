-- How long a written take is.
use Rattle.std.specs.Prelude.{ℕ, ◌+◌, ◌*◌, ◌≡◌, refl, List, [], ◌∷◌, length}
use native.Mathlib.Omega.{arith}
use Rattle.std.proofs.Math.ListN.{length-append}
use Rattle.vmd_format.specs.Bytes.{u32_bytes}
use Rattle.vmd_laws.specs.BytesLaws.{padded_length}
use Rattle.vmd_format.specs.Layout.{Layout, number, byte, flag, inverted, name, raw, ◌⊗◌, as_record}
use Rattle.vmd_laws.specs.LayoutLaws.{Lawful}
use Rattle.vmd_format.specs.Read.{fixed, write_all, write_counted}
use Rattle.vmd_format.specs.Records.{Property, bone, morph, camera, light, self_shadow, ik_state, property_head}
use Rattle.vmd_laws.specs.RecordLaws.{bone_lawful, morph_lawful, camera_lawful, light_lawful, self_shadow_lawful, ik_state_lawful, head_lawful}
use Rattle.vmd_format.specs.Take.{Take, property, magic, older_magic, Edition, newer, older, magic_of, model_width, write_header, write_sections, write_edition, write_take}
use Rattle.vmd_format.specs.Opening.{ik_total}
use Rattle.vmd_format.specs.Join.{file_length}

pub magic_length : (e : Edition) → length (magic_of e) ≡ 26
unfolding magic_of magic older_magic
magic_length newer = refl
magic_length older = refl

-- a count and records of one size
pub fixed_length : {A : Type 0} {K : Layout A} {G : A → Type 0} → Lawful K G → (l : List A)
    → length (write_counted (fixed K) l) ≡ 4 + length l * K.size
unfolding write_counted u32_bytes write_all fixed
fixed_length {A} {K} k l = simp length-append (omega (arith, all l))
  where
    all : (l : List A) → length (write_all K.encode l) ≡ length l * K.size
    all [] = omega arith
    all (a ∷ l) = simp length-append (omega (arith, k.wide a, all l))

-- a count and property frames
pub property_length : (l : List Property) → length (write_counted property l) ≡ 4 + 9 * length l + 21 * ik_total l
unfolding write_counted u32_bytes write_all property ik_total property_head number flag ◌⊗◌ ik_state as_record name
property_length l = simp length-append (omega (arith, all l))
  where
    all : (l : List Property) → length (write_all property.write l) ≡ 9 * length l + 21 * ik_total l
    all [] = omega arith
    all (p ∷ l) =
        simp length-append
        (omega (arith, head_lawful.wide (p.frame, p.visible), fixed_length ik_state_lawful p.ik_states, all l))

module _ (e : Edition) where
  pub header_length : (m : List ℕ) → length (write_header e m) ≡ 30 + model_width e
  unfolding write_header
  header_length m = simp length-append (omega (arith, magic_length e, padded_length (model_width e) m))

  -- "it writes 74 + 111b + 23m + 61c + 28l + 9s + 9p + 21k bytes", and 10 fewer in the older edition
  pub edition_length : (t : Take) → length (write_edition e t)
      ≡ file_length e (length t.bones) (length t.morphs) (length t.cameras) (length t.lights) (length t.self_shadows)
      (length t.properties) (ik_total t.properties)
  unfolding write_edition write_sections file_length bone morph camera light self_shadow number byte flag inverted name raw ◌⊗◌ as_record
  edition_length t =
      simp length-append
      (omega (
        arith,
        header_length t.model,
        fixed_length bone_lawful t.bones,
        fixed_length morph_lawful t.morphs,
        fixed_length camera_lawful t.cameras,
        fixed_length light_lawful t.lights,
        fixed_length self_shadow_lawful t.self_shadows,
        property_length t.properties,
      ))

pub export_length : (t : Take) → length (write_take t)
    ≡ 74 + 111 * length t.bones + 23 * length t.morphs + 61 * length t.cameras + 28 * length t.lights
    + 9 * length t.self_shadows + 9 * length t.properties + 21 * ik_total t.properties
unfolding write_take file_length
export_length t = edition_length newer t
