-- Two scanned files written one after the other, section by section. proofs/Laws shows that this is the export of one and the
-- join of both; nothing here has to be believed.
use Rattle.std.specs.Prelude.{ℕ, ◌+◌, ◌≤◌, Bool, ◌&&◌, List, ◌++◌, leb, length}
use Rattle.vmd_format.specs.Refusal.{count_too_large, model_name_too_long}
use Rattle.vmd_format.specs.Answer.{Answer, given, and_then, unless}
use Rattle.vmd_format.specs.Records.{bone, morph, camera, light, self_shadow}
use Rattle.vmd_format.specs.Read.{Manner, fixed, write_counted}
use Rattle.vmd_format.specs.Take.{Edition, newer, older, model_width, property, Take}
use Rattle.vmd_format.specs.Opening.{Scan}
use Rattle.vmd_format.specs.Fetch.{model_of}
use Rattle.vmd_laws.specs.Places.{scan_file}
use Rattle.vmd_format.specs.Join.{export_file, older_file, file_length}
use Rattle.vmd_laws.specs.ExportLaws.{Scanned}
use Rattle.vmd_output.specs.Sections.{records_of, frames_of}

-- ---- counts and lengths

-- the scan of nothing
unfoldable pub no_scan : Scan
no_scan = record {
  bones = record { count = 0; place = 0 };
  morphs = record { count = 0; place = 0 };
  cameras = record { count = 0; place = 0 };
  lights = record { count = 0; place = 0 };
  self_shadows = record { count = 0; place = 0 };
  properties = record { count = 0; place = 0 };
  ik_states = 0;
}

-- the counts added up fit 32 bits, and the IK states 64
pub record Sums (x y : Scan) : Type 0 where
  pub bones : x.bones.count + y.bones.count ≤ 4294967295
  pub morphs : x.morphs.count + y.morphs.count ≤ 4294967295
  pub cameras : x.cameras.count + y.cameras.count ≤ 4294967295
  pub lights : x.lights.count + y.lights.count ≤ 4294967295
  pub self_shadows : x.self_shadows.count + y.self_shadows.count ≤ 4294967295
  pub properties : x.properties.count + y.properties.count ≤ 4294967295
  pub ik_states : x.ik_states + y.ik_states ≤ 18446744073709551615

unfoldable pub sums_fit : Scan → Scan → Bool
sums_fit x y =
    leb (x.bones.count + y.bones.count) 4294967295 && leb (x.morphs.count + y.morphs.count) 4294967295
    && leb (x.cameras.count + y.cameras.count) 4294967295 && leb (x.lights.count + y.lights.count) 4294967295
    && leb (x.self_shadows.count + y.self_shadows.count) 4294967295 && leb (x.properties.count + y.properties.count) 4294967295

-- the length of the file of both
unfoldable pub sum_length : Edition → Scan → Scan → ℕ
sum_length e x y =
    file_length e (x.bones.count + y.bones.count) (x.morphs.count + y.morphs.count) (x.cameras.count + y.cameras.count)
    (x.lights.count + y.lights.count) (x.self_shadows.count + y.self_shadows.count) (x.properties.count + y.properties.count)
    (x.ik_states + y.ik_states)

-- a file that is accepted and whose model name has room in an edition
unfoldable pub scan_fitting : Edition → Manner → List ℕ → Answer Scan
scan_fitting e m s =
    and_then (scan_file m s) λ x. unless (leb (length (model_of s)) (model_width e)) model_name_too_long (given x)

-- two files that are accepted and whose counts added up fit
unfoldable pub scan_both : Manner → List ℕ → List ℕ → Answer (Scan × Scan)
scan_both m s t =
    and_then (scan_file m s) λ x. and_then (scan_file m t) λ y. unless (sums_fit x y) count_too_large (given (x, y))

-- two scanned files
pub record Both (s : List ℕ) (x : Scan) (t : List ℕ) (y : Scan) : Type 0 where
  pub first : Scanned s x
  pub second : Scanned t y
  pub sums : Sums x y

-- ---- what is written

-- what is saved of a file in an edition: the export, and what the converter writes
abbrev pub edition_file : Edition → Manner → List ℕ → Answer (List ℕ)
edition_file newer m s = export_file m s
edition_file older m s = older_file m s

-- the take of both, under a model name
unfoldable pub take_of_both : List ℕ → List ℕ → Scan → List ℕ → Scan → Take
take_of_both model s x t y = record {
  model = model;
  bones = records_of bone s x.bones t y.bones;
  morphs = records_of morph s x.morphs t y.morphs;
  cameras = records_of camera s x.cameras t y.cameras;
  lights = records_of light s x.lights t y.lights;
  self_shadows = records_of self_shadow s x.self_shadows t y.self_shadows;
  properties = frames_of s x.properties t y.properties;
}

-- the bytes of the last three sections, and of all six
unfoldable pub back_bytes : List ℕ → Scan → List ℕ → Scan → List ℕ
back_bytes s x t y =
    write_counted (fixed light) (records_of light s x.lights t y.lights)
    ++ (write_counted (fixed self_shadow) (records_of self_shadow s x.self_shadows t y.self_shadows)
    ++ write_counted property (frames_of s x.properties t y.properties))

unfoldable pub sections_bytes : List ℕ → Scan → List ℕ → Scan → List ℕ
sections_bytes s x t y =
    write_counted (fixed bone) (records_of bone s x.bones t y.bones)
    ++ (write_counted (fixed morph) (records_of morph s x.morphs t y.morphs)
    ++ (write_counted (fixed camera) (records_of camera s x.cameras t y.cameras)
    ++ back_bytes s x t y))
