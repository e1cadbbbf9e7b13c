-- A file compared section after section: how far it has come, and what is still to stand. Assumes nothing.
use Rattle.std.specs.Prelude.{ℕ, ◌≤◌, List, ◌++◌, length}
use Rattle.std.proofs.Math.Path.{◌≡◌, refl}
use Rattle.std.proofs.Common.{ap, sym, subst, ◌∙◌, append_assoc}
use Rattle.vmd_format.specs.Fetch.{model_of}
use Rattle.vmd_format.specs.Layout.{Layout}
use Rattle.vmd_format.specs.Opening.{Extent, Scan}
use Rattle.vmd_format.specs.Records.{bone, morph, camera, light, self_shadow}
use Rattle.vmd_format.specs.Take.{newer, write_header, write_take}
use Rattle.vmd_laws.specs.ExportLaws.{take_in}
use Rattle.vmd_laws.specs.SizedLaws.{Sized, bone_sized, morph_sized, camera_sized, light_sized, self_shadow_sized}
use Rattle.vmd_form.specs.Compare.{agrees, differs, compare_at}
use Rattle.vmd_form.specs.CompareLaws.{next_agrees, next_differs}
use Rattle.vmd_form.specs.Form.{end_of}
use Rattle.vmd_form.specs.Laying.{Laid, ScannedFrom, section_bytes, frames_bytes}
use Rattle.vmd_form.specs.StageLaws.{section_stands}
use Rattle.vmd_form.specs.Whole.{front_bytes, back_bytes}
use Rattle.vmd_form.proofs.WholeLaws.{file_bytes, header_reached}

-- All before a section stands, and from its count on these bytes are still to stand.
pub record Up (s : List ℕ) (whole : List ℕ) (size : ℕ) (p : Extent) (rest : List ℕ) (at : ℕ) : Type 0 where
  pub inside : at ≤ length s
  pub laid : Laid size s at p
  pub compared : compare_at s 0 whole ≡ compare_at s at rest

module _ {s whole : List ℕ} {size : ℕ} {p : Extent} {at : ℕ} where
  -- the next section is reached
  up_next : {A : Type 0} {K : Layout A} {last : ℕ} {o : Extent} {rest : List ℕ} → Sized K last → Up s whole last o (section_bytes K s o ++ rest) at
      → Laid size s (end_of last o) p → (q : ℕ) → agrees q ≡ compare_at s at (section_bytes K s o) → Up s whole size p rest q
  up_next {K = K} {o = o} {rest} k u l q e =
      let d = section_stands k u.laid q (sym e) in
      record { inside = d.inside; laid = subst (λ (i : ℕ). Laid size s i p) (sym d.ends) l; compared = u.compared ∙ next_agrees s at (section_bytes K s o) rest q (sym e) }

  -- it differs where the next section does
  pub up_differs : (v rest : List ℕ) → Up s whole size p (v ++ rest) at → (q : ℕ) → differs q ≡ compare_at s at v → differs q ≡ compare_at s 0 whole
  up_differs v rest u q e = sym (u.compared ∙ next_differs s at v rest q (sym e))

-- a file and its sections
module _ {s : List ℕ} {x : Scan} (from : ScannedFrom s x) where
  abbrev whole : List ℕ
  whole = write_take (take_in s x)

  -- what is to stand from each section on
  abbrev lights_on : List ℕ
  lights_on = section_bytes light s x.lights ++ (section_bytes self_shadow s x.self_shadows ++ frames_bytes s x.properties)

  abbrev bones_on : List ℕ
  bones_on = section_bytes bone s x.bones ++ (section_bytes morph s x.morphs ++ (section_bytes camera s x.cameras ++ lights_on))

  whole_is : whole ≡ write_header newer (model_of s) ++ bones_on
  unfolding front_bytes back_bytes
  whole_is = file_bytes s x ∙ ap (λ (l : List ℕ). write_header newer (model_of s) ++ l) (simp append_assoc)

  pub header_differs : (q : ℕ) → differs q ≡ compare_at s 0 (write_header newer (model_of s)) → differs q ≡ compare_at s 0 whole
  header_differs q e = sym (ap (compare_at s 0) whole_is ∙ next_differs s 0 (write_header newer (model_of s)) bones_on q (sym e))

  module _ (q₁ : ℕ) (e₁ : agrees q₁ ≡ compare_at s 0 (write_header newer (model_of s))) where
    pub at_bones : Up s whole 111 x.bones bones_on q₁
    at_bones =
        let h = header_reached from (agrees q₁) e₁ q₁ refl in
        record { inside = h.0; laid = h.1; compared = ap (compare_at s 0) whole_is ∙ next_agrees s 0 (write_header newer (model_of s)) bones_on q₁ (sym e₁) }

    module _ (q₂ : ℕ) (e₂ : agrees q₂ ≡ compare_at s q₁ (section_bytes bone s x.bones)) where
      pub at_morphs : Up s whole 23 x.morphs (section_bytes morph s x.morphs ++ (section_bytes camera s x.cameras ++ lights_on)) q₂
      at_morphs = up_next bone_sized at_bones from.laid.morphs q₂ e₂

      module _ (q₃ : ℕ) (e₃ : agrees q₃ ≡ compare_at s q₂ (section_bytes morph s x.morphs)) where
        pub at_cameras : Up s whole 61 x.cameras (section_bytes camera s x.cameras ++ lights_on) q₃
        at_cameras = up_next morph_sized at_morphs from.laid.cameras q₃ e₃

        module _ (q₄ : ℕ) (e₄ : agrees q₄ ≡ compare_at s q₃ (section_bytes camera s x.cameras)) where
          pub at_lights : Up s whole 28 x.lights lights_on q₄
          at_lights = up_next camera_sized at_cameras from.laid.lights q₄ e₄

          module _ (q₅ : ℕ) (e₅ : agrees q₅ ≡ compare_at s q₄ (section_bytes light s x.lights)) where
            pub at_shadows : Up s whole 9 x.self_shadows (section_bytes self_shadow s x.self_shadows ++ frames_bytes s x.properties) q₅
            at_shadows = up_next light_sized at_lights from.laid.self_shadows q₅ e₅

            pub at_properties : (q₆ : ℕ) → agrees q₆ ≡ compare_at s q₅ (section_bytes self_shadow s x.self_shadows) → Up s whole 9 x.properties (frames_bytes s x.properties) q₆
            at_properties q₆ e₆ = up_next self_shadow_sized at_shadows from.laid.properties q₆ e₆
