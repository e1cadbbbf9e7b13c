-- Which list of a call is which of the parts: seventeen lists, each with another element, so that one out of its place shows.
-- Floats go in by their bits: 1, -0 and infinity here.
use Rattle.std.specs.Prelude.{◌≡◌, refl, true, false, [], ◌∷◌, pos, Ok, Err, Some, None}
use Rattle.std.specs.Float.{inf, fin}
use Rattle.std.specs.Float.Ieee.{to_bits}
use Rattle.vmd_format.specs.Refusal.{name_unfit}
use Rattle.vmd_format.specs.Parts.{passes, fails}
use Rattle.vmd_base.specs.declared.VmdRefusal.TheVariants.{NameUnfit}
use Rattle.vmd_names.specs.Meaning.{check_of}
use Rattle.vmd_check_records.specs.Stages.{not_whole, whole}
use Rattle.vmd_check_records.specs.Meaning.{frames_of}
use Rattle.vmd_checks.specs.Meaning.{parts_of}

pub the_parts :
    parts_of (1 ∷ []) (2 ∷ []) (3 ∷ []) (4 ∷ []) (5 ∷ []) (6 ∷ []) (7 ∷ []) (8 ∷ []) (9 ∷ []) (10 ∷ []) (11 ∷ []) (fin false 1 (pos 0) ∷ [])
    (fin true 0 (pos 0) ∷ []) (14 ∷ []) (15 ∷ []) (16 ∷ []) (inf false ∷ [])
    ≡ record {
      model = 1 ∷ [];
      bone_names = record { bytes = 2 ∷ []; ends = 3 ∷ [] };
      morph_names = record { bytes = 4 ∷ []; ends = 5 ∷ [] };
      cameras = 6 ∷ [];
      lights = 7 ∷ [];
      self_shadows = 8 ∷ [];
      properties = 9 ∷ [];
      bone_name_indices = 10 ∷ [];
      bone_frames = 11 ∷ [];
      bone_translations = 0x3f800000 ∷ [];
      bone_rotations = 0x80000000 ∷ [];
      bone_interpolations = 14 ∷ [];
      morph_name_indices = 15 ∷ [];
      morph_frames = 16 ∷ [];
      morph_weights = 0x7f800000 ∷ [];
    }
unfolding to_bits
the_parts = refl

-- what an answer of the code says
pub checks : (check_of (Ok tt) ≡ passes) × (check_of (Err NameUnfit) ≡ fails name_unfit) × (frames_of None ≡ not_whole) × (frames_of (Some 3) ≡ whole 3)
checks = (refl, refl, refl, refl)
