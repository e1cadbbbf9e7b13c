-- Season figures of files that are written out, computed: another number for every figure, each limit of 64 bits, and two files
-- that differ only where no figure looks.
use Rattle.std.specs.Prelude.{ℕ, ◌-◌, ◌≡◌, refl, Bool, true, false, not, List, [], ◌∷◌, ◌++◌, get_or, replicate, T, eqb}
use Rattle.vmd_format.specs.Read.{lenient}
use Rattle.vmd_format.specs.Computed.{computed, text, older_text, start, fours, u0, u1, bone_bytes, morph_bytes, camera_bytes, light_bytes, shadow_bytes, ik_bytes, morph_said, light_said, shadow_said, ik_said, every}
use Rattle.vmd_keys.specs.Names.{bone_names_of, morph_names_of, registered_if, registration_name, keep_if, select, distinct}
use Rattle.vmd_season.specs.Season.{SectionFigures, Season, no_section_figures, no_takes, TakeFigures, figures_of, records_of, largest_figure, totals_fit, take_fits, with_count, with_take, with_refused, taken_if, with_answer, with_file, season_from, season, mean_if, mean}
use Rattle.vmd_season.specs.Differ.{names, names_and_interpolation, SameName, SameRecords, SameFrames, SameSections, all_stretches, DifferOnly, DifferEach, bone_without, camera_without, without_interpolation}
use Rattle.vmd_season.specs.DifferLaws.{name_self, differ_self}

-- unfolding this and `computed` unfolds the definitions of the figures
unfoldable figures_computed : Unit {0}
unfolding bone_names_of morph_names_of registered_if registration_name keep_if select distinct no_section_figures no_takes figures_of records_of largest_figure totals_fit take_fits with_count with_take with_refused taken_if with_answer with_file season_from season mean_if mean
figures_computed = tt

-- ---- a list of three files

-- bones "A", "B", "A", with bytes after their names' ends; morphs "B" twice; one camera, four lights, five self-shadows
abbrev first : List ℕ
first =
    start ++ fours (3 ∷ []) ++ bone_bytes 65 1 9 ++ bone_bytes 66 2 8 ++ bone_bytes 65 3 7 ++ fours (2 ∷ []) ++ morph_bytes 66 1 6 ++ morph_bytes 66 2 5
    ++ u1 ++ camera_bytes 4 0 ++ fours (4 ∷ []) ++ light_bytes 1 ++ light_bytes 2 ++ light_bytes 3 ++ light_bytes 4
    ++ fours (5 ∷ []) ++ shadow_bytes 1 0 ++ shadow_bytes 2 0 ++ shadow_bytes 3 0 ++ shadow_bytes 4 0 ++ shadow_bytes 5 0

-- a bone "A"; morphs "A", "", "B" and "A"; two cameras, no lights, a self-shadow; three property frames, one with an IK state
abbrev second : List ℕ
second =
    start ++ u1 ++ bone_bytes 65 0 1 ++ fours (4 ∷ []) ++ morph_bytes 65 1 1 ++ morph_bytes 0 0 1 ++ morph_bytes 66 1 1 ++ morph_bytes 65 2 2
    ++ fours (2 ∷ []) ++ camera_bytes 1 0 ++ camera_bytes 2 0 ++ u0 ++ u1 ++ shadow_bytes 1 0
    ++ fours (3 ∷ []) ++ fours (1 ∷ []) ++ (1 ∷ []) ++ u1 ++ ik_bytes 69 0 1 ++ fours (2 ∷ []) ++ (1 ∷ []) ++ u0 ++ fours (3 ∷ []) ++ (1 ∷ []) ++ u0

-- `start` alone is refused, and only that is counted of it
pub season_told :
    season lenient (first ∷ start ∷ second ∷ [])
    ≡ record {
      bones = record { total = 4; smallest = 1; largest = 3 };
      morphs = record { total = 6; smallest = 2; largest = 4 };
      cameras = record { total = 3; smallest = 1; largest = 2 };
      lights = record { total = 4; smallest = 0; largest = 4 };
      self_shadows = record { total = 6; smallest = 1; largest = 5 };
      properties = record { total = 3; smallest = 0; largest = 3 };
      records = 26;
      bone_names = 3;
      morph_names = 4;
      accepted = 2;
      refused = 1;
    }
unfolding computed figures_computed
season_told = refl

-- 02 k): bones "A", "A" with two remarks, none and a line feed alone, of two tracks; morphs "A",
-- "A" with a CR and "x", and "A" with a remark, of two
abbrev remarks : List ℕ
remarks =
    let bone : List ℕ → List ℕ = λ n. n ++ replicate 96 1 in
    let morph : List ℕ → List ℕ = λ n. n ++ replicate 8 1 in
    start ++ fours (5 ∷ []) ++ bone (65 ∷ replicate 14 0) ++ bone (65 ∷ 10 ∷ 120 ∷ replicate 12 0) ++ bone (65 ∷ 10 ∷ replicate 13 121)
    ++ bone (0 ∷ 10 ∷ replicate 13 0) ++ bone (10 ∷ replicate 14 0)
    ++ fours (3 ∷ []) ++ morph (65 ∷ replicate 14 0) ++ morph (65 ∷ 13 ∷ 120 ∷ replicate 12 0) ++ morph (65 ∷ 10 ∷ 120 ∷ replicate 12 0)

pub remarks_told : ((season lenient (remarks ∷ [])).bone_names ≡ 2) × ((season lenient (remarks ∷ [])).morph_names ≡ 2)
unfolding computed figures_computed
remarks_told = (refl, refl)

-- "No takes gives zeros throughout", and with none accepted all is 0 but the number of refused takes
abbrev zeros : ℕ → Season
zeros n =
    let none : SectionFigures = record { total = 0; smallest = 0; largest = 0 } in
    record { bones = none; morphs = none; cameras = none; lights = none; self_shadows = none; properties = none; records = 0; bone_names = 0; morph_names = 0; accepted = 0; refused = n }

pub none_told : (season lenient [] ≡ zeros 0) × (season lenient (start ∷ start ∷ []) ≡ zeros 2)
unfolding computed figures_computed
none_told = (refl, refl)

-- 02 i): "`vmd-list` and the season figures relied on the lenient manner and name it from here on": bytes over and an
-- oversized count, which the strict manner turns down, are accepted
pub lenient_told : (season lenient ((first ++ u0 ++ (7 ∷ [])) ∷ (start ++ u0 ++ u0 ++ u1) ∷ [])).accepted ≡ 2
unfolding computed figures_computed
lenient_told = refl

-- the mean is over accepted takes alone
pub mean_told :
    (mean (season lenient (first ∷ start ∷ second ∷ [])) ≡ record { quotient = 13; remainder = 0 })
    × (mean (season lenient (start ∷ [])) ≡ record { quotient = 0; remainder = 0 })
    × (mean (record { bones = no_section_figures; morphs = no_section_figures; cameras = no_section_figures; lights = no_section_figures; self_shadows = no_section_figures; properties = no_section_figures; records = 27; bone_names = 1; morph_names = 2; accepted = 4; refused = 5 }) ≡ record { quotient = 6; remainder = 3 })
unfolding computed figures_computed
mean_told = (refl, refl, refl)

-- ---- the limits

-- a number where two agree, else 0
abbrev where_same : Bool → ℕ → ℕ
where_same true n = n
where_same false n = 0

-- figure i of the ten that must not pass 64 bits is n, and the others are 0; every smallest is 4 and every largest 6
abbrev at_figure : ℕ → ℕ → Season
at_figure i n =
    let section : ℕ → SectionFigures = λ j. record { total = where_same (eqb i j) n; smallest = 4; largest = 6 } in record {
      bones = section 0;
      morphs = section 1;
      cameras = section 2;
      lights = section 3;
      self_shadows = section 4;
      properties = section 5;
      records = where_same (eqb i 6) n;
      bone_names = where_same (eqb i 7) n;
      morph_names = where_same (eqb i 8) n;
      accepted = where_same (eqb i 9) n;
      refused = 18446744073709551615;
    }

-- what a take adds, another number to each figure
abbrev some : TakeFigures
some = record { bones = 3; morphs = 4; cameras = 5; lights = 6; self_shadows = 7; properties = 0; bone_names = 2; morph_names = 1 }

abbrev added : List ℕ
added = 3 ∷ 4 ∷ 5 ∷ 6 ∷ 7 ∷ 0 ∷ 25 ∷ 2 ∷ 1 ∷ 1 ∷ []

-- each figure can reach 18,446,744,073,709,551,615 and cannot pass it: the one that the take adds nothing to stays there
pub limits_told :
    T (every 10 (λ i. take_fits (at_figure i (18446744073709551615 - get_or added i 0)) some))
    × T (every 10 (λ i. not (take_fits (at_figure i (18446744073709551616 - get_or added i 0)) some)))
unfolding figures_computed
limits_told = (tt, tt)

-- "the refused number stops at its largest value"
pub stops_told : with_refused (at_figure 0 5) ≡ at_figure 0 5
unfolding figures_computed
stops_told = refl

-- with none accepted the first take sets smallest and largest, whatever stood there: below both, between them, above both
pub first_told :
    ((with_take (at_figure 0 5) some).bones ≡ record { total = 8; smallest = 3; largest = 3 })
    × ((with_take (at_figure 2 5) some).cameras ≡ record { total = 10; smallest = 5; largest = 5 })
    × ((with_take (at_figure 4 5) some).self_shadows ≡ record { total = 12; smallest = 7; largest = 7 })
unfolding figures_computed
first_told = (refl, refl, refl)

-- with some accepted a smaller count and a larger one do, and no other
pub later_told :
    ((with_take (at_figure 9 5) some).bones ≡ record { total = 3; smallest = 3; largest = 6 })
    × ((with_take (at_figure 9 5) some).cameras ≡ record { total = 5; smallest = 4; largest = 6 })
    × ((with_take (at_figure 9 5) some).self_shadows ≡ record { total = 7; smallest = 4; largest = 7 })
unfolding figures_computed
later_told = (refl, refl, refl)

-- ---- files that differ

-- the numbers 1 to 8, and two records of each kind that has names or interpolation bytes: j stands after every name's end, i for
-- interpolation. Names are empty, of one byte, and as wide as their field.
abbrev numbers : List ℕ
numbers = fours (1 ∷ 2 ∷ 3 ∷ 4 ∷ 5 ∷ 6 ∷ 7 ∷ 8 ∷ [])

abbrev after_header : ℕ → ℕ → List ℕ
after_header j i =
    fours (2 ∷ []) ++ (65 ∷ 0 ∷ replicate 13 j) ++ numbers ++ replicate 64 i ++ replicate 15 66 ++ numbers ++ replicate 64 i
    ++ fours (2 ∷ []) ++ (0 ∷ replicate 14 j) ++ fours (1 ∷ 2 ∷ []) ++ morph_bytes 66 j 6
    ++ fours (2 ∷ []) ++ numbers ++ replicate 24 i ++ fours (9 ∷ []) ++ (0 ∷ []) ++ numbers ++ replicate 24 i ++ fours (9 ∷ []) ++ (0 ∷ [])
    ++ u0 ++ u0 ++ fours (2 ∷ [])
    ++ fours (9 ∷ []) ++ (1 ∷ []) ++ fours (2 ∷ []) ++ ik_bytes 69 j 1 ++ (0 ∷ replicate 19 j) ++ (1 ∷ [])
    ++ fours (9 ∷ []) ++ (1 ∷ []) ++ fours (2 ∷ []) ++ ik_bytes 70 j 1 ++ replicate 20 71 ++ (1 ∷ [])

-- in the newer edition and in the older
abbrev posed : ℕ → ℕ → List ℕ
posed j i = text ++ u0 ++ (0 ∷ replicate 19 j) ++ after_header j i

abbrev older_posed : ℕ → ℕ → List ℕ
older_posed j i = older_text ++ u0 ++ (0 ∷ replicate 9 j) ++ after_header j i

-- as wide as the field
abbrev full : SameName (replicate 15 66) (replicate 15 66) × SameName (replicate 20 71) (replicate 20 71)
full = (name_self (replicate 15 66), name_self (replicate 20 71))

sections_told : SameSections names all_stretches (after_header 1 5) (after_header 2 5)
    × SameSections names_and_interpolation all_stretches (after_header 1 5) (after_header 2 6)
unfolding computed SameRecords SameFrames SameSections
sections_told = (
  (refl, (((refl, refl), (refl, (refl, tt))), ((full.0, (refl, (refl, tt))), tt)), (refl, ((refl, (refl, tt)), (((refl, refl), (refl, tt)), tt)), (refl, ((refl, (refl, (refl, tt))), ((refl, (refl, (refl, tt))), tt)), (refl, tt, (refl, tt, (refl, (refl, (((refl, refl), (refl, tt)), ((refl, (refl, tt)), tt)), (refl, (((refl, refl), (refl, tt)), ((full.1, (refl, tt)), tt)), refl)))))))),
  (refl, (((refl, refl), (refl, (refl, tt))), ((full.0, (refl, (refl, tt))), tt)), (refl, ((refl, (refl, tt)), (((refl, refl), (refl, tt)), tt)), (refl, ((refl, (refl, (refl, tt))), ((refl, (refl, (refl, tt))), tt)), (refl, tt, (refl, tt, (refl, (refl, (((refl, refl), (refl, tt)), ((refl, (refl, tt)), tt)), (refl, (((refl, refl), (refl, tt)), ((full.1, (refl, tt)), tt)), refl)))))))),
)

pub differ_told : DifferOnly names (posed 1 5) (posed 2 5) × DifferOnly names_and_interpolation (posed 1 5) (posed 2 6)
    × DifferOnly names_and_interpolation (older_posed 1 5) (older_posed 2 6)
unfolding computed
differ_told = (
  record { long = refl; magic = refl; model = refl; sections = sections_told.0 },
  record { long = refl; magic = refl; model = refl; sections = sections_told.1 },
  record { long = refl; magic = refl; model = refl; sections = sections_told.1 },
)

-- a take without its interpolation bytes is all else that it was
pub without_told :
    without_interpolation (record {
      model = 77 ∷ [];
      bones = record { name = 65 ∷ []; frame = 1; tx = 2; ty = 3; tz = 4; rx = 5; ry = 6; rz = 7; rw = 8; interpolation = 9 ∷ [] } ∷ [];
      morphs = morph_said 66 10 ∷ [];
      cameras = record { frame = 11; distance = 12; px = 13; py = 14; pz = 15; rx = 16; ry = 17; rz = 18; interpolation = 19 ∷ []; fov = 20; perspective = true } ∷ [];
      lights = light_said 21 ∷ [];
      self_shadows = shadow_said 22 1 ∷ [];
      properties = record { frame = 23; visible = true; ik_states = ik_said 69 false ∷ [] } ∷ [];
    })
    ≡ record {
      model = 77 ∷ [];
      bones = record { name = 65 ∷ []; frame = 1; tx = 2; ty = 3; tz = 4; rx = 5; ry = 6; rz = 7; rw = 8; interpolation = [] } ∷ [];
      morphs = morph_said 66 10 ∷ [];
      cameras = record { frame = 11; distance = 12; px = 13; py = 14; pz = 15; rx = 16; ry = 17; rz = 18; interpolation = []; fov = 20; perspective = true } ∷ [];
      lights = light_said 21 ∷ [];
      self_shadows = shadow_said 22 1 ∷ [];
      properties = record { frame = 23; visible = true; ik_states = ik_said 69 false ∷ [] } ∷ [];
    }
unfolding bone_without camera_without without_interpolation
without_told = refl

pub each_told : DifferEach names_and_interpolation (posed 1 5 ∷ posed 1 5 ∷ []) (posed 1 5 ∷ posed 2 6 ∷ [])
each_told = (differ_self names_and_interpolation (posed 1 5), (differ_told.1, tt))
