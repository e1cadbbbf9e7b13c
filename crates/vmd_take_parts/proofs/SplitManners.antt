-- Parts out of a take in the two manners of reading (02 i): a strict answer that is no refusal is the lenient one, and so is
-- what is left in the buffers.
use Rattle.std.specs.Prelude.{refl, List, ℕ, ◌&&◌}
use Rattle.vmd_format.specs.Refusal.{parts_do_not_fit}
use Rattle.vmd_format.specs.Answer.{Answer, given, and_then, map_answer, unless}
use Rattle.vmd_format.specs.Read.{strict, lenient}
use Rattle.vmd_format.specs.Take.{Take}
use Rattle.vmd_format.specs.Parts.{Parts}
use Rattle.vmd_laws.specs.MannerLaws.{Stricter, of_reading}
use Rattle.vmd_keys.specs.Names.{bone_names_of, morph_names_of}
use Rattle.vmd_tables.specs.Tables.{name_table}
use Rattle.vmd_take_parts.specs.Split.{parts_of_take, parts_fit, table_within, split, table_sizes, split_answer, parts_left, split_sizes}

pub stricter_split : (s : List ℕ) (lent : Parts)
    → Stricter lent (split_answer strict s lent) (parts_left lent (split strict s lent)) (split_answer lenient s lent) (parts_left lent (split lenient s lent))
unfolding split split_answer parts_left and_then map_answer
stricter_split s lent = of_reading lent (λ x. map_answer table_sizes (taken x)) (λ x. parts_left lent (taken x)) (λ k. refl) (λ k. refl) s
  where
    taken : Answer Take → Answer Parts
    taken x = and_then x λ t. unless (parts_fit (parts_of_take t) lent) parts_do_not_fit (given (parts_of_take t))

pub stricter_split_sizes : (s : List ℕ) → Stricter {L = Unit {0}} tt (split_sizes strict s) tt (split_sizes lenient s) tt
unfolding split_sizes and_then
stricter_split_sizes s =
    of_reading tt (λ x. and_then x λ t.
    unless (table_within (name_table (bone_names_of t)) && table_within (name_table (morph_names_of t))) parts_do_not_fit
    (given (table_sizes (parts_of_take t)))) (λ x. tt) (λ k. refl) (λ k. refl) s
