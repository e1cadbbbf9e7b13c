-- What the computed examples share: one name that unfolds the format, bytes written out by hand, and what they say.
use Rattle.std.specs.Prelude.{ℕ, zero, suc, Bool, true, false, ◌&&◌, List, [], ◌∷◌, ◌++◌, replicate, eqb}
use Rattle.vmd_format.specs.Bytes.{u32, u32_bytes, before_zero, padded, is_set, flag_byte, is_zero, inverted_byte}
use Rattle.vmd_format.specs.Layout.{number, byte, flag, inverted, name, raw, ◌⊗◌, as_record}
use Rattle.vmd_format.specs.Refusal
use Rattle.vmd_format.specs.Answer.{Answer, declined, given, and_then, map_answer, unless, fitted, left}
use Rattle.vmd_format.specs.Records.{Bone, Morph, Camera, Light, SelfShadow, IkState, bone, morph, camera, light, self_shadow, ik_state, property_head}
use Rattle.vmd_format.specs.Read.{bind, whole_if, whole, fixed, many, table, no_section, lenient, strict, over_count, records_if, counted_if, counted, optional, write_all, write_counted}
use Rattle.vmd_format.specs.Take.{property, take_of, magic, older_magic, magic_of, same, edition_if, edition, model_if, magic_if, header_if, header, sections, ended, read_file, answer, read_take, write_header, write_sections, write_edition, write_take}
use Rattle.vmd_format.specs.Opening.{ik_total, take_frames, least, smallest, largest, smallest_frame, largest_frame, positions, places_needed, sixteenths, sixteenth_positions, record_count, extent_of, scan_of, opening_of, smaller_of, joined_smallest, opened, open_file, scratch_if, scratch_of, scratch_after}
use Rattle.vmd_format.specs.Fetch.{record_place, fetch, or_empty, model_in, model_of, next_frame, next_place, walk_frames, frame_place, property_place, property_at, fetch_property, step_property, ik_extent, fetch_ik_state}
use Rattle.vmd_format.specs.Join.{export_file, edition_take, older_file, joined_model, join, fits_u32, fit_together, join_takes, join_files}
use Rattle.vmd_format.specs.Characters.{between, pointer, runs, in_runs, in_index, character}
use Rattle.vmd_format.specs.Names.{single, lead, trail, pair, unit, past, fault_within, fault, good}
use Rattle.vmd_format.specs.Parts.{names_from, names_of, records_of, at_end, until_end, frames, frames_or_none, properties_of, upto, bone_at, morph_at, take_of_parts, ◌next◌, need, each, ends_right, table_right, no_bytes_over, is_got, whole_parts, name_check, finite, all_finite, camera_check, light_check, self_shadow_check, ik_check, property_check, columns_check, counts_check, bone_check, morph_check, parts_check, built, build}

-- unfolding this unfolds the format's definitions
unfoldable pub computed : Unit {0}
unfolding u32 u32_bytes before_zero padded is_set flag_byte is_zero inverted_byte number byte flag inverted name raw ◌⊗◌ as_record and_then map_answer unless fitted left bone morph camera light self_shadow ik_state property_head bind whole_if whole fixed many table no_section lenient strict over_count records_if counted_if counted optional write_all write_counted property take_of magic older_magic magic_of same edition_if edition model_if magic_if header_if header sections ended read_file answer read_take write_header write_sections write_edition write_take ik_total take_frames least smallest largest smallest_frame largest_frame positions places_needed sixteenths sixteenth_positions record_count extent_of scan_of opening_of smaller_of joined_smallest opened open_file scratch_if scratch_of scratch_after record_place fetch or_empty model_in model_of next_frame next_place walk_frames frame_place property_place property_at fetch_property step_property ik_extent fetch_ik_state export_file edition_take older_file joined_model join fits_u32 fit_together join_takes join_files between pointer runs in_runs in_index character single lead trail pair unit past fault_within fault good names_from names_of records_of at_end until_end frames frames_or_none properties_of upto bone_at morph_at take_of_parts ◌next◌ need each ends_right table_right no_bytes_over is_got whole_parts name_check finite all_finite camera_check light_check self_shadow_check ik_check property_check columns_check counts_check bone_check morph_check parts_check built build
computed = tt

-- every k below n
abbrev pub every : ℕ → (ℕ → Bool) → Bool
every zero f = true
every (suc n) f = f n && every n f

-- ---- answers

-- the call is turned down with this number
abbrev pub declines : {A : Type 0} → Answer A → ℕ → Bool
declines (declined k) n = eqb (Refusal.number k) n
declines (given a) n = false

-- the largest number that a place or a position can be
abbrev pub last : ℕ
last = 18446744073709551615

-- the bytes given, none in a refusal
abbrev pub bytes_of : Answer (List ℕ) → List ℕ
bytes_of (declined k) = []
bytes_of (given s) = s

-- ---- bytes

-- "Vocaloid Motion Data 0002" and a zero byte
abbrev pub text : List ℕ
text = 86 ∷ 111 ∷ 99 ∷ 97 ∷ 108 ∷ 111 ∷ 105 ∷ 100 ∷ 32 ∷ 77 ∷ 111 ∷ 116 ∷ 105 ∷ 111 ∷ 110 ∷ 32 ∷ 68 ∷ 97 ∷ 116 ∷ 97 ∷ 32 ∷ 48 ∷ 48 ∷ 48 ∷ 50 ∷ 0 ∷ []

-- "the magic and a zero model name, 50 bytes"
abbrev pub start : List ℕ
start = text ++ replicate 24 0

-- "Vocaloid Motion Data file" and a zero byte
abbrev pub older_text : List ℕ
older_text = 86 ∷ 111 ∷ 99 ∷ 97 ∷ 108 ∷ 111 ∷ 105 ∷ 100 ∷ 32 ∷ 77 ∷ 111 ∷ 116 ∷ 105 ∷ 111 ∷ 110 ∷ 32 ∷ 68 ∷ 97 ∷ 116 ∷ 97 ∷ 32 ∷ 102 ∷ 105 ∷ 108 ∷ 101 ∷ 0 ∷ []

-- the same start in the older edition, 40 bytes
abbrev pub older_start : List ℕ
older_start = older_text ++ replicate 14 0

-- numbers below 256, each in four bytes
abbrev pub fours : List ℕ → List ℕ
fours [] = []
fours (n ∷ l) = n ∷ 0 ∷ 0 ∷ 0 ∷ fours l

-- the counts 0 and 1
abbrev pub u0 : List ℕ
u0 = 0 ∷ 0 ∷ 0 ∷ 0 ∷ []

abbrev pub u1 : List ℕ
u1 = 1 ∷ 0 ∷ 0 ∷ 0 ∷ []

-- n bytes that count up from b
abbrev pub counting : ℕ → ℕ → List ℕ
counting b zero = []
counting b (suc n) = b ∷ counting (suc b) n

-- ---- records by their bytes, and what these say: a name is one letter c, a zero and bytes j; f is the frame

abbrev pub bone_bytes : ℕ → ℕ → ℕ → List ℕ
bone_bytes c j f = c ∷ 0 ∷ replicate 13 j ++ fours (f ∷ 11 ∷ 12 ∷ 13 ∷ 14 ∷ 15 ∷ 16 ∷ 17 ∷ []) ++ replicate 64 c

abbrev pub bone_said : ℕ → ℕ → Bone
bone_said c f = record { name = c ∷ []; frame = f; tx = 11; ty = 12; tz = 13; rx = 14; ry = 15; rz = 16; rw = 17; interpolation = replicate 64 c }

abbrev pub morph_bytes : ℕ → ℕ → ℕ → List ℕ
morph_bytes c j f = c ∷ 0 ∷ replicate 13 j ++ fours (f ∷ 18 ∷ [])

abbrev pub morph_said : ℕ → ℕ → Morph
morph_said c f = record { name = c ∷ []; frame = f; weight = 18 }

-- p is the perspective byte
abbrev pub camera_bytes : ℕ → ℕ → List ℕ
camera_bytes f p = fours (f ∷ 21 ∷ 22 ∷ 23 ∷ 24 ∷ 25 ∷ 26 ∷ 27 ∷ []) ++ replicate 24 f ++ fours (28 ∷ []) ++ (p ∷ [])

abbrev pub camera_said : ℕ → Bool → Camera
camera_said f b = record { frame = f; distance = 21; px = 22; py = 23; pz = 24; rx = 25; ry = 26; rz = 27; interpolation = replicate 24 f; fov = 28; perspective = b }

abbrev pub light_bytes : ℕ → List ℕ
light_bytes f = fours (f ∷ 31 ∷ 32 ∷ 33 ∷ 34 ∷ 35 ∷ 36 ∷ [])

abbrev pub light_said : ℕ → Light
light_said f = record { frame = f; red = 31; green = 32; blue = 33; dx = 34; dy = 35; dz = 36 }

-- m is the mode
abbrev pub shadow_bytes : ℕ → ℕ → List ℕ
shadow_bytes f m = f ∷ 0 ∷ 0 ∷ 0 ∷ m ∷ 41 ∷ 0 ∷ 0 ∷ 0 ∷ []

abbrev pub shadow_said : ℕ → ℕ → SelfShadow
shadow_said f m = record { frame = f; mode = m; distance = 41 }

-- e is the enabled byte
abbrev pub ik_bytes : ℕ → ℕ → ℕ → List ℕ
ik_bytes c j e = c ∷ 0 ∷ replicate 18 j ++ (e ∷ [])

abbrev pub ik_said : ℕ → Bool → IkState
ik_said c b = record { name = c ∷ []; enabled = b }

-- ---- a file of 336 bytes: this model name field and, in every section, one record at its frame

abbrev pub one_each_after : ℕ → ℕ → ℕ → ℕ → ℕ → ℕ → List ℕ
one_each_after b m c l s p =
    u1 ++ bone_bytes 65 0 b ++ u1 ++ morph_bytes 66 0 m ++ u1 ++ camera_bytes c 1
    ++ u1 ++ light_bytes l ++ u1 ++ shadow_bytes s 2
    ++ u1 ++ fours (p ∷ []) ++ (1 ∷ []) ++ u1 ++ ik_bytes 67 0 1

abbrev pub one_each : List ℕ → ℕ → ℕ → ℕ → ℕ → ℕ → ℕ → List ℕ
one_each n b m c l s p = text ++ replicate 4 0 ++ n ++ one_each_after b m c l s p
