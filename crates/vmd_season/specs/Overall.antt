-- The figures of a list of files all at once, not one take after another: sums, smallest and largest counts over the takes that
-- are accepted. OverallLaws shows that these are its season figures where no figure passes 64 bits. Definitions only.
use Rattle.std.specs.Prelude.{ℕ, suc, ◌+◌, min, max, List, [], ◌∷◌, length}
use Rattle.vmd_format.specs.Answer.{Answer, declined, given}
use Rattle.vmd_format.specs.Read.{Manner}
use Rattle.vmd_format.specs.Take.{Take, read_take}
use Rattle.vmd_season.specs.Season.{SectionFigures, Season, TakeFigures, figures_of, records_of}

-- what the accepted ones of some files add, in their order, and how many are refused
unfoldable pub accepted_if : Answer Take → List TakeFigures → List TakeFigures
accepted_if (declined k) l = l
accepted_if (given t) l = figures_of t ∷ l

unfoldable pub accepted_takes : Manner → List (List ℕ) → List TakeFigures
accepted_takes m [] = []
accepted_takes m (s ∷ l) = accepted_if (read_take m s) (accepted_takes m l)

unfoldable pub refused_if : Answer Take → ℕ → ℕ
refused_if (declined k) n = suc n
refused_if (given t) n = n

unfoldable pub refused_takes : Manner → List (List ℕ) → ℕ
refused_takes m [] = 0
refused_takes m (s ∷ l) = refused_if (read_take m s) (refused_takes m l)

-- "the total, the smallest and the largest count", 0 with none
unfoldable pub sum_over : (TakeFigures → ℕ) → List TakeFigures → ℕ
sum_over f [] = 0
sum_over f (a ∷ l) = f a + sum_over f l

unfoldable pub smallest_over : (TakeFigures → ℕ) → List TakeFigures → ℕ
smallest_over f [] = 0
smallest_over f (a ∷ []) = f a
smallest_over f (a ∷ b ∷ l) = min (f a) (smallest_over f (b ∷ l))

unfoldable pub largest_over : (TakeFigures → ℕ) → List TakeFigures → ℕ
largest_over f [] = 0
largest_over f (a ∷ l) = max (f a) (largest_over f l)

unfoldable pub section_over : (TakeFigures → ℕ) → List TakeFigures → SectionFigures
section_over f l = record { total = sum_over f l; smallest = smallest_over f l; largest = largest_over f l }

unfoldable pub overall : List TakeFigures → ℕ → Season
overall l n = record {
  bones = section_over (λ f. f.bones) l;
  morphs = section_over (λ f. f.morphs) l;
  cameras = section_over (λ f. f.cameras) l;
  lights = section_over (λ f. f.lights) l;
  self_shadows = section_over (λ f. f.self_shadows) l;
  properties = section_over (λ f. f.properties) l;
  records = sum_over records_of l;
  bone_names = sum_over (λ f. f.bone_names) l;
  morph_names = sum_over (λ f. f.morph_names) l;
  accepted = length l;
  refused = n;
}
