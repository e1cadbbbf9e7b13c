-- What the slots hold, with other values in every field and place, so that one out of its place shows.
use Rattle.std.specs.Prelude.{ℕ, ◌≡◌, refl, true, false, List, [], ◌∷◌, ◌++◌, replicate, pos, Ok, Err}
use Rattle.std.specs.Float.{nan, fin}
use Rattle.std.specs.Float.Ieee.{of_bits}
use Rattle.vmd_format.specs.Refusal.{file_ends_early, outside, output_too_short, parts_do_not_fit, scratch_too_short}
use Rattle.vmd_format.specs.Answer.{declined, given}
use Rattle.vmd_format.specs.Records.{Light}
use Rattle.vmd_format.specs.Opening.{Scan, Opening}
use Rattle.vmd_format.specs.Computed.{computed}
use Rattle.vmd_places.specs.Meaning.{ik_place}
use Rattle.vmd_places.specs.Parts.{file_part, part_in}
use Rattle.vmd_slots.specs.Meaning.{status, slot_after, counts_of, places_of, totals_of, extent_at, scan_at, bone_words, morph_words, camera_words, light_values, light_words, self_shadow_words, property_words, part_words, joined_words, size_words, count_words, file_of, season_counts, season_figures, section_at, season_at, mean_words}
use Rattle.vmd_base.specs.declared.VmdRefusal.TheVariants.{PartsDoNotFit, ScratchTooShort}
use Rattle.vmd_base.specs.Meaning.{answer}
use Rattle.vmd_tidy.specs.Meaning.{report_is}
use Rattle.vmd_split.specs.Meaning.{sizes_are}
use Rattle.vmd_season.specs.Season.{Season}
use Rattle.vmd_season.specs.Meaning.{season_is, mean_is}

-- 0, or the number; the new value, or the old
pub returned :
    (status {A = ℕ} (given 9) ≡ 0) × (status {A = ℕ} (declined file_ends_early) ≡ 1) × (status {A = ℕ} (declined output_too_short) ≡ 13)
    × (slot_after {A = ℕ} {B = ℕ} 5 (λ n. n) (given 9) ≡ 9) × (slot_after {A = ℕ} {B = ℕ} 5 (λ n. n) (declined output_too_short) ≡ 5)
unfolding status slot_after
returned = (refl, refl, refl, refl, refl)

-- ---- an opening

abbrev sections : ℕ → Scan
sections ik = record {
  bones = record { count = 1; place = 54 };
  morphs = record { count = 2; place = 169 };
  cameras = record { count = 3; place = 265 };
  lights = record { count = 4; place = 391 };
  self_shadows = record { count = 5; place = 535 };
  properties = record { count = 6; place = 593 };
  ik_states = ik;
}

abbrev opening : Opening
opening = record { scan = sections 7; smallest_frame = 8; largest_frame = 9 }

pub an_opening :
    (counts_of opening ≡ 1 ∷ 2 ∷ 3 ∷ 4 ∷ 5 ∷ 6 ∷ [])
    × (places_of opening ≡ 54 ∷ 169 ∷ 265 ∷ 391 ∷ 535 ∷ 593 ∷ [])
    × (totals_of opening ≡ 7 ∷ 8 ∷ 9 ∷ [])
    × (scan_at (1 ∷ 2 ∷ 3 ∷ 4 ∷ 5 ∷ 6 ∷ []) (54 ∷ 169 ∷ 265 ∷ 391 ∷ 535 ∷ 593 ∷ []) ≡ sections 0)
unfolding counts_of places_of totals_of extent_at scan_at
an_opening = (refl, refl, refl, refl)

-- ---- records

pub a_bone :
    bone_words (record { name = 65 ∷ []; frame = 1; tx = 2; ty = 3; tz = 4; rx = 5; ry = 6; rz = 7; rw = 8; interpolation = 9 ∷ [] })
    ≡ 1 ∷ 2 ∷ 3 ∷ 4 ∷ 5 ∷ 6 ∷ 7 ∷ 8 ∷ []
unfolding bone_words
a_bone = refl

pub a_morph : morph_words (record { name = 65 ∷ []; frame = 1; weight = 2 }) ≡ 1 ∷ 2 ∷ []
unfolding morph_words
a_morph = refl

-- perspective comes as 1 where it is true
pub a_camera :
    (camera_words (record { frame = 1; distance = 2; px = 3; py = 4; pz = 5; rx = 6; ry = 7; rz = 8; interpolation = 9 ∷ []; fov = 10; perspective = true })
    ≡ 1 ∷ 2 ∷ 3 ∷ 4 ∷ 5 ∷ 6 ∷ 7 ∷ 8 ∷ 10 ∷ 1 ∷ [])
    × (camera_words (record { frame = 1; distance = 2; px = 3; py = 4; pz = 5; rx = 6; ry = 7; rz = 8; interpolation = []; fov = 10; perspective = false })
    ≡ 1 ∷ 2 ∷ 3 ∷ 4 ∷ 5 ∷ 6 ∷ 7 ∷ 8 ∷ 10 ∷ 0 ∷ [])
unfolding computed camera_words
a_camera = (refl, refl)

-- 1, 2, 3, -1, -0 and a NaN
abbrev a_light_record : Light
a_light_record = record { frame = 7; red = 0x3f800000; green = 0x40000000; blue = 0x40400000; dx = 0xbf800000; dy = 0x80000000; dz = 0x7f800001 }

pub a_light :
    (light_words a_light_record ≡ 7 ∷ 0x3f800000 ∷ 0x40000000 ∷ 0x40400000 ∷ 0xbf800000 ∷ 0x80000000 ∷ 0x7f800001 ∷ [])
    × (light_values a_light_record
    ≡ fin false 1 (pos 0) ∷ fin false 1 (pos 1) ∷ fin false 3 (pos 0) ∷ fin true 1 (pos 0) ∷ fin true 0 (pos 0) ∷ nan ∷ [])
unfolding light_words light_values of_bits
a_light = (refl, refl)

pub a_self_shadow : self_shadow_words (record { frame = 1; mode = 2; distance = 3 }) ≡ 1 ∷ 2 ∷ 3 ∷ []
unfolding self_shadow_words
a_self_shadow = refl

pub a_property :
    (property_words (record { frame = 5; visible = true; ik_count = 6 }) ≡ 5 ∷ 1 ∷ 6 ∷ [])
    × (property_words (record { frame = 5; visible = false; ik_count = 6 }) ≡ 5 ∷ 0 ∷ 6 ∷ [])
unfolding computed property_words
a_property = (refl, refl)

-- ---- parts

-- three bytes and a property frame of two IK states, with the bytes of one more after it
abbrev two_states : List ℕ
two_states = replicate 3 0 ++ (replicate 5 0 ++ (2 ∷ 0 ∷ 0 ∷ 0 ∷ []) ++ replicate 63 0)

-- where and how long, 0, 0 for none; where an IK state stands; of a joined name first in which file
pub parts :
    (part_words (file_part 30 2) ≡ 30 ∷ 2 ∷ []) × (part_words (file_part 30 0) ≡ 0 ∷ 0 ∷ [])
    × (part_words (part_in (given 100) 47 (77 ∷ 105 ∷ [])) ≡ 147 ∷ 2 ∷ []) × (part_words (part_in (declined outside) 47 (77 ∷ [])) ≡ 0 ∷ 0 ∷ [])
    × (ik_place (record { count = 1; place = 0 }) (3 ∷ []) 0 1 two_states ≡ given 33) × (ik_place (record { count = 1; place = 0 }) (3 ∷ []) 0 2 two_states ≡ declined outside)
    × (joined_words (77 ∷ 105 ∷ []) (78 ∷ []) ≡ 0 ∷ 30 ∷ 2 ∷ []) × (joined_words [] (78 ∷ []) ≡ 1 ∷ 30 ∷ 1 ∷ []) × (joined_words [] [] ≡ 0 ∷ 0 ∷ 0 ∷ [])
    × (file_of (1 ∷ []) (2 ∷ []) 0 ≡ 1 ∷ []) × (file_of (1 ∷ []) (2 ∷ []) 1 ≡ 2 ∷ [])
unfolding computed file_part part_in ik_place joined_words file_of
parts = (refl, refl, refl, refl, refl, refl, refl, refl, refl, refl, refl)

-- ---- the sizes of two name tables

pub table_sizes :
    (answer sizes_are (Ok (record { bone_names = 1; bone_name_bytes = 2; morph_names = 3; morph_name_bytes = 4 }))
    ≡ given (record { bone_names = 1; bone_name_bytes = 2; morph_names = 3; morph_name_bytes = 4 }))
    × (answer sizes_are (Err PartsDoNotFit) ≡ declined parts_do_not_fit)
    × (size_words (record { bone_names = 1; bone_name_bytes = 2; morph_names = 3; morph_name_bytes = 4 }) ≡ 1 ∷ 2 ∷ 3 ∷ 4 ∷ [])
unfolding size_words
table_sizes = (refl, refl, refl)

-- ---- a tidied take

pub tidied_numbers :
    (answer report_is (Ok (record {
      bytes = 1;
      kept = record { bones = 2; morphs = 3; cameras = 4; lights = 5; self_shadows = 6; properties = 7 };
      dropped = record { bones = 8; morphs = 9; cameras = 10; lights = 11; self_shadows = 12; properties = 13 };
    }))
    ≡ given (record {
      bytes = 1;
      kept = record { bones = 2; morphs = 3; cameras = 4; lights = 5; self_shadows = 6; properties = 7 };
      dropped = record { bones = 8; morphs = 9; cameras = 10; lights = 11; self_shadows = 12; properties = 13 };
    }))
    × (answer report_is (Err ScratchTooShort) ≡ declined scratch_too_short)
    × (count_words (record { bones = 2; morphs = 3; cameras = 4; lights = 5; self_shadows = 6; properties = 7 }) ≡ 2 ∷ 3 ∷ 4 ∷ 5 ∷ 6 ∷ 7 ∷ [])
unfolding count_words
tidied_numbers = (refl, refl, refl)

-- ---- a season

abbrev a_season : Season
a_season = record {
  bones = record { total = 1; smallest = 21; largest = 31 };
  morphs = record { total = 2; smallest = 22; largest = 32 };
  cameras = record { total = 3; smallest = 23; largest = 33 };
  lights = record { total = 4; smallest = 24; largest = 34 };
  self_shadows = record { total = 5; smallest = 25; largest = 35 };
  properties = record { total = 6; smallest = 26; largest = 36 };
  records = 7;
  bone_names = 8;
  morph_names = 9;
  accepted = 10;
  refused = 11;
}

pub season_slots :
    (season_counts a_season ≡ 21 ∷ 22 ∷ 23 ∷ 24 ∷ 25 ∷ 26 ∷ 31 ∷ 32 ∷ 33 ∷ 34 ∷ 35 ∷ 36 ∷ [])
    × (season_figures a_season ≡ 1 ∷ 2 ∷ 3 ∷ 4 ∷ 5 ∷ 6 ∷ 7 ∷ 8 ∷ 9 ∷ 10 ∷ 11 ∷ [])
    × (season_at (21 ∷ 22 ∷ 23 ∷ 24 ∷ 25 ∷ 26 ∷ 31 ∷ 32 ∷ 33 ∷ 34 ∷ 35 ∷ 36 ∷ []) (1 ∷ 2 ∷ 3 ∷ 4 ∷ 5 ∷ 6 ∷ 7 ∷ 8 ∷ 9 ∷ 10 ∷ 11 ∷ []) ≡ a_season)
    × (mean_words (record { quotient = 1; remainder = 2 }) ≡ 1 ∷ 2 ∷ [])
    × (mean_is (record { quotient = 1; remainder = 2 }) ≡ record { quotient = 1; remainder = 2 })
unfolding season_counts season_figures section_at season_at mean_words
season_slots = (refl, refl, refl, refl, refl)

-- the season of the code's types
pub a_season_of_code :
    season_is (record {
      bones = record { total = 1; smallest = 21; largest = 31 };
      morphs = record { total = 2; smallest = 22; largest = 32 };
      cameras = record { total = 3; smallest = 23; largest = 33 };
      lights = record { total = 4; smallest = 24; largest = 34 };
      self_shadows = record { total = 5; smallest = 25; largest = 35 };
      properties = record { total = 6; smallest = 26; largest = 36 };
      records = 7;
      bone_names = 8;
      morph_names = 9;
      accepted = 10;
      refused = 11;
    }) ≡ a_season
a_season_of_code = refl
