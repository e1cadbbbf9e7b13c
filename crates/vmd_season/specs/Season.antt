-- Figures over takes lent one after another: 02 b), "Season figures". Definitions only.
use Rattle.std.specs.Prelude.{ℕ, ◌+◌, ◌/◌, ◌%◌, min, max, Bool, true, false, ◌&&◌, List, [], ◌∷◌, map, length, leb, eqb}
use Rattle.vmd_format.specs.Answer.{Answer, declined, given}
use Rattle.vmd_format.specs.Read.{Manner}
use Rattle.vmd_format.specs.Take.{Take, read_take}
use Rattle.vmd_keys.specs.Names.{bone_names_of, morph_names_of, registration_name, distinct}

-- "per section the total, the smallest and the largest count"
pub record SectionFigures : Type 0 where
  pub total : ℕ
  pub smallest : ℕ
  pub largest : ℕ

-- The figures over some takes. Any numbers stand for some figures, those of no list of takes too.
pub record Season : Type 0 where
  pub bones : SectionFigures
  pub morphs : SectionFigures
  pub cameras : SectionFigures
  pub lights : SectionFigures
  pub self_shadows : SectionFigures
  pub properties : SectionFigures
  -- the mean's total: the records of all six sections
  pub records : ℕ
  -- "the sums, over the takes, of each take's distinct bone names and distinct morph names"
  pub bone_names : ℕ
  pub morph_names : ℕ
  pub accepted : ℕ
  pub refused : ℕ

-- "No takes gives zeros throughout."
unfoldable pub no_section_figures : SectionFigures
no_section_figures = record { total = 0; smallest = 0; largest = 0 }

-- none accepted, and so many refused
abbrev pub only_refused : ℕ → Season
only_refused n = record {
  bones = no_section_figures;
  morphs = no_section_figures;
  cameras = no_section_figures;
  lights = no_section_figures;
  self_shadows = no_section_figures;
  properties = no_section_figures;
  records = 0;
  bone_names = 0;
  morph_names = 0;
  accepted = 0;
  refused = n;
}

unfoldable pub no_takes : Season
no_takes = only_refused 0

-- ---- what a take adds

-- its counts, and how many distinct names its bones and its morphs have, up to the line feed: 02 k), "Season figures and tidying
-- follow"
pub record TakeFigures : Type 0 where
  pub bones : ℕ
  pub morphs : ℕ
  pub cameras : ℕ
  pub lights : ℕ
  pub self_shadows : ℕ
  pub properties : ℕ
  pub bone_names : ℕ
  pub morph_names : ℕ

unfoldable pub figures_of : Take → TakeFigures
figures_of t = record {
  bones = length t.bones;
  morphs = length t.morphs;
  cameras = length t.cameras;
  lights = length t.lights;
  self_shadows = length t.self_shadows;
  properties = length t.properties;
  bone_names = length (distinct (map registration_name (bone_names_of t)));
  morph_names = length (distinct (map registration_name (morph_names_of t)));
}

-- the records of all six sections
unfoldable pub records_of : TakeFigures → ℕ
records_of f = f.bones + f.morphs + f.cameras + f.lights + f.self_shadows + f.properties

-- ---- one take more

-- "Totals, the mean's over all six sections, the two sums and the numbers of accepted and refused takes are 64-bit"
unfoldable pub largest_figure : ℕ
largest_figure = 18446744073709551615

abbrev pub in_64_bits : ℕ → Bool
in_64_bits n = leb n largest_figure

-- no figure would pass that with the take
unfoldable pub totals_fit : Season → TakeFigures → Bool
totals_fit z f =
    in_64_bits (z.bones.total + f.bones) && in_64_bits (z.morphs.total + f.morphs)
    && in_64_bits (z.cameras.total + f.cameras) && in_64_bits (z.lights.total + f.lights)
    && in_64_bits (z.self_shadows.total + f.self_shadows) && in_64_bits (z.properties.total + f.properties)

unfoldable pub take_fits : Season → TakeFigures → Bool
take_fits z f =
    totals_fit z f && in_64_bits (z.records + records_of f) && in_64_bits (z.bone_names + f.bone_names)
    && in_64_bits (z.morph_names + f.morph_names) && in_64_bits (z.accepted + 1)

-- A section's figures with one count more, of the first accepted take or of a later one: "Smallest and largest are over
-- accepted takes".
unfoldable pub with_count : Bool → SectionFigures → ℕ → SectionFigures
with_count true x n = record { total = x.total + n; smallest = n; largest = n }
with_count false x n = record { total = x.total + n; smallest = min x.smallest n; largest = max x.largest n }

unfoldable pub with_take : Season → TakeFigures → Season
with_take z f = let first = eqb z.accepted 0 in record {
  bones = with_count first z.bones f.bones;
  morphs = with_count first z.morphs f.morphs;
  cameras = with_count first z.cameras f.cameras;
  lights = with_count first z.lights f.lights;
  self_shadows = with_count first z.self_shadows f.self_shadows;
  properties = with_count first z.properties f.properties;
  records = z.records + records_of f;
  bone_names = z.bone_names + f.bone_names;
  morph_names = z.morph_names + f.morph_names;
  accepted = z.accepted + 1;
  refused = z.refused;
}

-- "A take that is refused is counted as refused and adds nothing else"; "the refused number stops at its largest value"
unfoldable pub with_refused : Season → Season
with_refused z = record {
  bones = z.bones;
  morphs = z.morphs;
  cameras = z.cameras;
  lights = z.lights;
  self_shadows = z.self_shadows;
  properties = z.properties;
  records = z.records;
  bone_names = z.bone_names;
  morph_names = z.morph_names;
  accepted = z.accepted;
  refused = min (z.refused + 1) largest_figure;
}

-- "a take that would pass that adds only to refused"
unfoldable pub taken_if : Bool → Season → TakeFigures → Season
taken_if true z f = with_take z f
taken_if false z f = with_refused z

unfoldable pub with_answer : Season → Answer Take → Season
with_answer z (declined k) = with_refused z
with_answer z (given t) = taken_if (take_fits z (figures_of t)) z (figures_of t)

unfoldable pub with_file : Manner → Season → List ℕ → Season
with_file m z s = with_answer z (read_take m s)

-- ---- a list of takes

-- "over a list of takes lent one after another"
unfoldable pub season_from : Manner → Season → List (List ℕ) → Season
season_from m z [] = z
season_from m z (s ∷ l) = season_from m (with_file m z s) l

unfoldable pub season : Manner → List (List ℕ) → Season
season m l = season_from m no_takes l

-- ---- the mean

-- "the mean records per accepted take as quotient and remainder"
pub record Mean : Type 0 where
  pub quotient : ℕ
  pub remainder : ℕ

-- "with none accepted they and the mean's two numbers are 0"
unfoldable pub mean_if : Bool → ℕ → ℕ → Mean
mean_if true records takes = record { quotient = 0; remainder = 0 }
mean_if false records takes = record { quotient = records / takes; remainder = records % takes }

unfoldable pub mean : Season → Mean
mean z = mean_if (eqb z.accepted 0) z.records z.accepted
