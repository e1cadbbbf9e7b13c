-- What the functions for C return and leave in their slots, in the terms of the format. A slot of several numbers is their
-- list, in the order of include/vmd.h. Definitions only.
use Rattle.std.specs.Prelude.{ℕ, zero, suc, ◌+◌, ◌≤◌, ◌≡◌, List, [], ◌∷◌, length, get_or, take, drop, Float}
use Rattle.std.specs.Float.{binary32}
use Rattle.std.specs.Float.Ieee.{of_bits}
use Rattle.vmd_format.specs.Bytes.{flag_byte}
use Rattle.vmd_format.specs.Refusal.{number}
use Rattle.vmd_format.specs.Answer.{Answer, declined, given}
use Rattle.vmd_format.specs.Records.{Bone, Morph, Camera, Light, SelfShadow}
use Rattle.vmd_format.specs.Opening.{Extent, Scan, Opening}
use Rattle.vmd_format.specs.Fetch.{PropertyHead}
use Rattle.vmd_base.specs.declared.VmdPart.{VmdPart}
use Rattle.vmd_records.specs.declared.VmdParsedBoneFrame.{VmdParsedBoneFrame}
use Rattle.vmd_records.specs.declared.VmdParsedMorphFrame.{VmdParsedMorphFrame}
use Rattle.vmd_records.specs.declared.VmdParsedCameraFrame.{VmdParsedCameraFrame}
use Rattle.vmd_records.specs.declared.VmdParsedLightBits.{VmdParsedLightBits}
use Rattle.vmd_records.specs.declared.VmdParsedSelfShadowFrame.{VmdParsedSelfShadowFrame}
use Rattle.vmd_records.specs.declared.VmdParsedPropertyFrame.{VmdParsedPropertyFrame}
use Rattle.vmd_tidy.specs.Tidied.{Counts}
use Rattle.vmd_take_parts.specs.Split.{TableSizes}
use Rattle.vmd_form.specs.Canonical.{Change, nowhere, at_place}
use Rattle.vmd_season.specs.Season.{SectionFigures, Season, Mean}

-- what a call returns: 0, or the number of the refusal
unfoldable pub status : {A : Type 0} → Answer A → ℕ
status (declined k) = number k
status (given x) = 0

-- a slot at exit: what f makes of the value, and after a refusal what it was
unfoldable pub slot_after : {A B : Type 0} → B → (A → B) → Answer A → B
slot_after old f (declined k) = old
slot_after old f (given x) = f x

-- ---- an opening

unfoldable pub counts_of : Opening → List ℕ
counts_of o =
    o.scan.bones.count ∷ o.scan.morphs.count ∷ o.scan.cameras.count ∷ o.scan.lights.count ∷ o.scan.self_shadows.count
    ∷ o.scan.properties.count ∷ []

unfoldable pub places_of : Opening → List ℕ
places_of o =
    o.scan.bones.place ∷ o.scan.morphs.place ∷ o.scan.cameras.place ∷ o.scan.lights.place ∷ o.scan.self_shadows.place
    ∷ o.scan.properties.place ∷ []

unfoldable pub totals_of : Opening → List ℕ
totals_of o = o.scan.ik_states ∷ o.smallest_frame ∷ o.largest_frame ∷ []

-- the section of an index
unfoldable pub extent_at : List ℕ → List ℕ → ℕ → Extent
extent_at counts places k = record { count = get_or counts k 0; place = get_or places k 0 }

-- the sections that counts and places say; the calls for records look at nothing else of an opening
unfoldable pub scan_at : List ℕ → List ℕ → Scan
scan_at counts places = record {
  bones = extent_at counts places 0;
  morphs = extent_at counts places 1;
  cameras = extent_at counts places 2;
  lights = extent_at counts places 3;
  self_shadows = extent_at counts places 4;
  properties = extent_at counts places 5;
  ik_states = 0;
}

-- ---- records

unfoldable pub bone_words : Bone → List ℕ
bone_words b = b.frame ∷ b.tx ∷ b.ty ∷ b.tz ∷ b.rx ∷ b.ry ∷ b.rz ∷ b.rw ∷ []

unfoldable pub morph_words : Morph → List ℕ
morph_words m = m.frame ∷ m.weight ∷ []

unfoldable pub camera_words : Camera → List ℕ
camera_words c =
    c.frame ∷ c.distance ∷ c.px ∷ c.py ∷ c.pz ∷ c.rx ∷ c.ry ∷ c.rz ∷ c.fov ∷ flag_byte c.perspective ∷ []

-- every NaN is the one NaN
unfoldable pub light_values : Light → List Float
light_values l =
    of_bits binary32 l.red ∷ of_bits binary32 l.green ∷ of_bits binary32 l.blue
    ∷ of_bits binary32 l.dx ∷ of_bits binary32 l.dy ∷ of_bits binary32 l.dz ∷ []

unfoldable pub light_words : Light → List ℕ
light_words l = l.frame ∷ l.red ∷ l.green ∷ l.blue ∷ l.dx ∷ l.dy ∷ l.dz ∷ []

unfoldable pub self_shadow_words : SelfShadow → List ℕ
self_shadow_words s = s.frame ∷ s.mode ∷ s.distance ∷ []

unfoldable pub property_words : PropertyHead → List ℕ
property_words p = p.frame ∷ flag_byte p.visible ∷ p.ik_count ∷ []

-- the same of what the code has of a record
abbrev pub bone_slot : VmdParsedBoneFrame → List ℕ
bone_slot x =
    x.frame ∷ x.translation_x ∷ x.translation_y ∷ x.translation_z ∷ x.rotation_x ∷ x.rotation_y ∷ x.rotation_z ∷ x.rotation_w ∷ []

abbrev pub morph_slot : VmdParsedMorphFrame → List ℕ
morph_slot x = x.frame ∷ x.weight ∷ []

abbrev pub camera_slot : VmdParsedCameraFrame → List ℕ
camera_slot x =
    x.frame ∷ x.distance ∷ x.position_x ∷ x.position_y ∷ x.position_z ∷ x.rotation_x ∷ x.rotation_y ∷ x.rotation_z ∷ x.fov
    ∷ flag_byte x.perspective ∷ []

abbrev pub light_slot : VmdParsedLightBits → List ℕ
light_slot x = x.frame ∷ x.color_r ∷ x.color_g ∷ x.color_b ∷ x.direction_x ∷ x.direction_y ∷ x.direction_z ∷ []

abbrev pub self_shadow_slot : VmdParsedSelfShadowFrame → List ℕ
self_shadow_slot x = x.frame ∷ x.mode ∷ x.distance ∷ []

abbrev pub property_slot : VmdParsedPropertyFrame → List ℕ
property_slot x = x.frame ∷ flag_byte x.visible ∷ x.ik_count ∷ []

-- ---- parts of a file

-- where it begins, and how many bytes it has
abbrev pub part_words : VmdPart → List ℕ
part_words p = p.at ∷ p.len ∷ []

-- such a part w names these bytes of the file s
pub record Names (s w bytes : List ℕ) : Type 0 where
  pub inside : get_or w 0 0 + get_or w 1 0 ≤ length s
  pub named : take (get_or w 1 0) (drop (get_or w 0 0) s) ≡ bytes

-- the model name of a join: in which file, where, and how long, from the two files' names
unfoldable pub joined_words : List ℕ → List ℕ → List ℕ
joined_words [] [] = 0 ∷ 0 ∷ 0 ∷ []
joined_words [] (b ∷ n) = 1 ∷ 30 ∷ length (b ∷ n) ∷ []
joined_words (a ∷ m) n = 0 ∷ 30 ∷ length (a ∷ m) ∷ []

-- the sizes of two name tables
unfoldable pub size_words : TableSizes → List ℕ
size_words t = t.bone_names ∷ t.bone_name_bytes ∷ t.morph_names ∷ t.morph_name_bytes ∷ []

-- how many records each section has
unfoldable pub count_words : Counts → List ℕ
count_words k = k.bones ∷ k.morphs ∷ k.cameras ∷ k.lights ∷ k.self_shadows ∷ k.properties ∷ []

-- what saving would touch first: 1 and its place, or 0 and 0
abbrev pub change_words : Change → List ℕ
change_words nowhere = 0 ∷ 0 ∷ []
change_words (at_place n) = 1 ∷ n ∷ []

-- the one of two files with that index
unfoldable pub file_of : List ℕ → List ℕ → ℕ → List ℕ
file_of s t zero = s
file_of s t (suc k) = t

-- ---- a season

-- the smallest count of each section, then the largest
unfoldable pub season_counts : Season → List ℕ
season_counts z =
    z.bones.smallest ∷ z.morphs.smallest ∷ z.cameras.smallest ∷ z.lights.smallest ∷ z.self_shadows.smallest ∷ z.properties.smallest
    ∷ z.bones.largest ∷ z.morphs.largest ∷ z.cameras.largest ∷ z.lights.largest ∷ z.self_shadows.largest ∷ z.properties.largest ∷ []

-- the total of each section, and of all; the two sums of names; takes accepted and refused
unfoldable pub season_figures : Season → List ℕ
season_figures z =
    z.bones.total ∷ z.morphs.total ∷ z.cameras.total ∷ z.lights.total ∷ z.self_shadows.total ∷ z.properties.total ∷ z.records
    ∷ z.bone_names ∷ z.morph_names ∷ z.accepted ∷ z.refused ∷ []

-- the section of an index
unfoldable pub section_at : List ℕ → List ℕ → ℕ → SectionFigures
section_at counts figures k = record { total = get_or figures k 0; smallest = get_or counts k 0; largest = get_or counts (6 + k) 0 }

-- the season that counts and figures say
unfoldable pub season_at : List ℕ → List ℕ → Season
season_at counts figures = record {
  bones = section_at counts figures 0;
  morphs = section_at counts figures 1;
  cameras = section_at counts figures 2;
  lights = section_at counts figures 3;
  self_shadows = section_at counts figures 4;
  properties = section_at counts figures 5;
  records = get_or figures 6 0;
  bone_names = get_or figures 7 0;
  morph_names = get_or figures 8 0;
  accepted = get_or figures 9 0;
  refused = get_or figures 10 0;
}

unfoldable pub mean_words : Mean → List ℕ
mean_words m = m.quotient ∷ m.remainder ∷ []
