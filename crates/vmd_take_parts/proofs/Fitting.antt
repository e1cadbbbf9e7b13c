-- Which buffers the parts fit: 02 a), "a table, column or record buffer is too short or a name table passes 4,294,967,295 bytes".
use Rattle.std.specs.Prelude.{ℕ, ◌≤◌, ◌≡◌, ◌↔◌, Bool, true, ◌&&◌, length, leb}
use Rattle.std.proofs.Math.Bool.{and-eq-true_iff}
use Rattle.std.proofs.Common.{le-leb, leb-true}
use Rattle.vmd_format.specs.Parts.{NameTable, Parts}
use Rattle.vmd_take_parts.specs.Split.{table_within, table_fits, bones_fit, morphs_fit, records_fit, parts_fit}

-- ---- tests as facts

pub le_says : (a b : ℕ) → (leb a b ≡ true) ↔ (a ≤ b)
le_says a b = (leb-true a b, le-leb a b)

pub and_says : {P Q : Type 0} (a b : Bool) → (a ≡ true) ↔ P → (b ≡ true) ↔ Q → ((a && b) ≡ true) ↔ (P × Q)
and_says a b h k =
    let e = and-eq-true_iff a b in (λ r. (h.0 (e.0 r).0, k.0 (e.0 r).1), λ p. e.1 (h.1 p.0, k.1 p.1))

-- ---- buffers long enough

-- a table of at most 4,294,967,295 bytes, and room for it
pub record TableFits (t lent : NameTable) : Type 0 where
  pub within : length t.bytes ≤ 4294967295
  pub bytes : length t.bytes ≤ length lent.bytes
  pub ends : length t.ends ≤ length lent.ends

pub record PartsFit (p lent : Parts) : Type 0 where
  pub bone_names : TableFits p.bone_names lent.bone_names
  pub morph_names : TableFits p.morph_names lent.morph_names
  pub cameras : length p.cameras ≤ length lent.cameras
  pub lights : length p.lights ≤ length lent.lights
  pub self_shadows : length p.self_shadows ≤ length lent.self_shadows
  pub properties : length p.properties ≤ length lent.properties
  pub bone_name_indices : length p.bone_name_indices ≤ length lent.bone_name_indices
  pub bone_frames : length p.bone_frames ≤ length lent.bone_frames
  pub bone_translations : length p.bone_translations ≤ length lent.bone_translations
  pub bone_rotations : length p.bone_rotations ≤ length lent.bone_rotations
  pub bone_interpolations : length p.bone_interpolations ≤ length lent.bone_interpolations
  pub morph_name_indices : length p.morph_name_indices ≤ length lent.morph_name_indices
  pub morph_frames : length p.morph_frames ≤ length lent.morph_frames
  pub morph_weights : length p.morph_weights ≤ length lent.morph_weights

-- "passes 4,294,967,295 bytes": that number itself does not
pub table_within_says : (t : NameTable) → (table_within t ≡ true) ↔ (length t.bytes ≤ 4294967295)
unfolding table_within
table_within_says t = le_says (length t.bytes) 4294967295

pub table_fits_says : (t lent : NameTable) → (table_fits t lent ≡ true) ↔ TableFits t lent
unfolding table_fits
table_fits_says t lent =
    let room = and_says _ _ (table_within_says t) (le_says (length t.bytes) (length lent.bytes)) in
    let h = and_says _ _ room (le_says (length t.ends) (length lent.ends)) in (
      λ e. let k = h.0 e in record { within = k.0.0; bytes = k.0.1; ends = k.1 },
      λ k. h.1 ((k.within, k.bytes), k.ends),
    )

pub parts_fit_says : (p lent : Parts) → (parts_fit p lent ≡ true) ↔ PartsFit p lent
unfolding parts_fit records_fit bones_fit morphs_fit
parts_fit_says p l =
    let le = le_says in
    let records =
    and_says _ _ (and_says _ _ (and_says _ _
    (le (length p.cameras) (length l.cameras))
    (le (length p.lights) (length l.lights)))
    (le (length p.self_shadows) (length l.self_shadows)))
    (le (length p.properties) (length l.properties)) in
    let bones =
    and_says _ _ (and_says _ _ (and_says _ _ (and_says _ _
    (le (length p.bone_name_indices) (length l.bone_name_indices))
    (le (length p.bone_frames) (length l.bone_frames)))
    (le (length p.bone_translations) (length l.bone_translations)))
    (le (length p.bone_rotations) (length l.bone_rotations)))
    (le (length p.bone_interpolations) (length l.bone_interpolations)) in
    let morphs =
    and_says _ _ (and_says _ _
    (le (length p.morph_name_indices) (length l.morph_name_indices))
    (le (length p.morph_frames) (length l.morph_frames)))
    (le (length p.morph_weights) (length l.morph_weights)) in
    let h =
    and_says _ _ (and_says _ _ (and_says _ _ (and_says _ _ records bones) morphs) (table_fits_says p.bone_names l.bone_names))
    (table_fits_says p.morph_names l.morph_names) in (
      λ e.
          let k = h.0 e in
          let r = k.0.0.0.0 in
          let b = k.0.0.0.1 in
          let m = k.0.0.1 in
          record {
            bone_names = k.0.1;
            morph_names = k.1;
            cameras = r.0.0.0;
            lights = r.0.0.1;
            self_shadows = r.0.1;
            properties = r.1;
            bone_name_indices = b.0.0.0.0;
            bone_frames = b.0.0.0.1;
            bone_translations = b.0.0.1;
            bone_rotations = b.0.1;
            bone_interpolations = b.1;
            morph_name_indices = m.0.0;
            morph_frames = m.0.1;
            morph_weights = m.1;
          },
      λ k.
          h.1 (
            (
              (
                (
                  (((k.cameras, k.lights), k.self_shadows), k.properties),
                  ((((k.bone_name_indices, k.bone_frames), k.bone_translations), k.bone_rotations), k.bone_interpolations),
                ),
                ((k.morph_name_indices, k.morph_frames), k.morph_weights),
              ),
              k.bone_names,
            ),
            k.morph_names,
          ),
    )
