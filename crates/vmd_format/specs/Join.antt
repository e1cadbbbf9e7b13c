-- Export and joining: document 01, "Export" and "Joining"; and the converter of 02 e). Definitions only.
use Rattle.std.specs.Prelude.{ℕ, ◌+◌, ◌*◌, Bool, ◌&&◌, List, [], ◌∷◌, ◌++◌, length, leb}
use Rattle.vmd_format.specs.Refusal.{count_too_large, model_name_too_long}
use Rattle.vmd_format.specs.Answer.{Answer, given, and_then, map_answer, unless}
use Rattle.vmd_format.specs.Read.{Manner}
use Rattle.vmd_format.specs.Take.{Edition, older, model_width, Take, read_take, write_edition, write_take}

-- "`export_vmd_animation` over the parsed file"
unfoldable pub export_file : Manner → List ℕ → Answer (List ℕ)
export_file m s = map_answer write_take (read_take m s)

-- the file of a take in an edition whose field has room for its model name; no name that is read is over 20 bytes
unfoldable pub edition_take : Edition → Take → Answer (List ℕ)
edition_take e t = unless (leb (length t.model) (model_width e)) model_name_too_long (given (write_edition e t))

-- 02 e): "A converter writes the older edition, .. with zeros after the magic and the name, then the export's bytes from its
-- bone count on"; "15 the model name is over 10 bytes, converter only, tested just before 13"
unfoldable pub older_file : Manner → List ℕ → Answer (List ℕ)
older_file m s = and_then (read_take m s) (edition_take older)

-- "With b bones, m morphs, c cameras, l lights, s self-shadows, p properties and k IK states over all of them it writes 74 +
-- 111b + 23m + 61c + 28l + 9s + 9p + 21k bytes"; in the older edition "10 bytes shorter"
unfoldable pub file_length : Edition → ℕ → ℕ → ℕ → ℕ → ℕ → ℕ → ℕ → ℕ
file_length e b m c l s p k = 54 + model_width e + 111 * b + 23 * m + 61 * c + 28 * l + 9 * s + 9 * p + 21 * k

-- "The joined model name is the first file's where that is not empty, else the second's."
unfoldable pub joined_model : List ℕ → List ℕ → List ℕ
joined_model [] n = n
joined_model (b ∷ m) n = b ∷ m

-- "the take whose every section is the first file's records, then the second's"
unfoldable pub join : Take → Take → Take
join t u = record {
  model = joined_model t.model u.model;
  bones = t.bones ++ u.bones;
  morphs = t.morphs ++ u.morphs;
  cameras = t.cameras ++ u.cameras;
  lights = t.lights ++ u.lights;
  self_shadows = t.self_shadows ++ u.self_shadows;
  properties = t.properties ++ u.properties;
}

-- "each of the six sums of their numbers of records is at most 4,294,967,295"
unfoldable pub fits_u32 : {A : Type 0} → List A → List A → Bool
fits_u32 l m = leb (length l + length m) 4294967295

unfoldable pub fit_together : Take → Take → Bool
fit_together t u =
    fits_u32 t.bones u.bones && fits_u32 t.morphs u.morphs && fits_u32 t.cameras u.cameras
    && fits_u32 t.lights u.lights && fits_u32 t.self_shadows u.self_shadows && fits_u32 t.properties u.properties

unfoldable pub join_takes : Take → Take → Answer (List ℕ)
join_takes t u = unless (fit_together t u) count_too_large (given (write_take (join t u)))

-- "Joining: first file, second file, 11, 13."
unfoldable pub join_files : Manner → List ℕ → List ℕ → Answer (List ℕ)
join_files m a b = and_then (read_take m a) λ t. and_then (read_take m b) λ u. join_takes t u
