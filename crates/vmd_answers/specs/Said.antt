-- What the examples say, and the files that they are made of.
-- Written by oracle/samples.sh from the original's answers, not by hand.
use Rattle.std.specs.Prelude.{ℕ, Bool, List, [], ◌∷◌, ◌++◌, length, replicate}
use Rattle.vmd_format.specs.Answer.{Answer, declined, given}
use Rattle.vmd_format.specs.Read.{lenient}
use Rattle.vmd_format.specs.Take.{Take, same, read_take}
use Rattle.vmd_format.specs.Opening.{ik_total, smallest_frame, largest_frame}
use Rattle.vmd_format.specs.Join.{export_file, join_files}
use Rattle.vmd_format.specs.Parts.{Parts, build}
use Rattle.vmd_format.specs.Computed.{declines, bytes_of, counting}

-- the file is refused with this number
abbrev pub refuses : List ℕ → ℕ → Bool
refuses s n = declines (export_file lenient s) n

-- the file is exported as these bytes
abbrev pub exports : List ℕ → List ℕ → Bool
exports s t = same (bytes_of (export_file lenient s)) t

abbrev figures_of : Answer Take → List ℕ
figures_of (declined k) = []
figures_of (given t) =
    length t.bones ∷ length t.morphs ∷ length t.cameras ∷ length t.lights ∷ length t.self_shadows ∷ length t.properties
    ∷ ik_total t.properties ∷ smallest_frame t ∷ largest_frame t ∷ []

-- the file has these six counts, IK states, smallest and largest frame
abbrev pub figures : List ℕ → List ℕ → Bool
figures s l = same (figures_of (read_take lenient s)) l

-- the join is refused with this number, or written as these bytes
abbrev pub join_refuses : List ℕ → List ℕ → ℕ → Bool
join_refuses s t n = declines (join_files lenient s t) n

abbrev pub joins : List ℕ → List ℕ → List ℕ → Bool
joins s t u = same (bytes_of (join_files lenient s t)) u

-- the builder's parameters in their order
abbrev pub parts : List ℕ → List ℕ → List ℕ → List ℕ → List ℕ → List ℕ → List ℕ → List ℕ → List ℕ → List ℕ → List ℕ → List ℕ → List ℕ → List ℕ → List ℕ → List ℕ → List ℕ → Parts
parts m bs be ms me c l s p bi bf bt br bn mi mf mw = record {
  model = m;
  bone_names = record { bytes = bs; ends = be };
  morph_names = record { bytes = ms; ends = me };
  cameras = c;
  lights = l;
  self_shadows = s;
  properties = p;
  bone_name_indices = bi;
  bone_frames = bf;
  bone_translations = bt;
  bone_rotations = br;
  bone_interpolations = bn;
  morph_name_indices = mi;
  morph_frames = mf;
  morph_weights = mw;
}

-- building is refused with this number, or writes these bytes
abbrev pub build_refuses : Parts → ℕ → Bool
build_refuses p n = declines (build p) n

abbrev pub builds : Parts → List ℕ → Bool
builds p t = same (bytes_of (build p)) t

-- the first 26 bytes
abbrev pub magic : List ℕ
magic = (86 ∷ 111 ∷ 99 ∷ 97 ∷ 108 ∷ 111 ∷ 105 ∷ 100 ∷ 32 ∷ 77 ∷ 111 ∷ 116 ∷ 105 ∷ 111 ∷ 110 ∷ 32 ∷ 68 ∷ 97 ∷ 116 ∷ 97 ∷ 32 ∷ 48 ∷ 48 ∷ 48 ∷ 50 ∷ 0 ∷ [])

-- the empty take, 74 bytes
abbrev pub empty : List ℕ
empty = magic ++ replicate 48 0

-- a take of six sections: special floats, bytes after its names, flags other than 0 and 1
abbrev pub six : List ℕ
six =
    (86 ∷ 111 ∷ 99 ∷ 97 ∷ 108 ∷ 111 ∷ 105 ∷ 100 ∷ 32 ∷ 77 ∷ 111 ∷ 116 ∷ 105 ∷ 111 ∷ 110 ∷ 32 ∷ 68 ∷ 97 ∷ 116 ∷ 97 ∷ 32 ∷ 48 ∷ 48 ∷ 48 ∷ 50 ∷ 0 ∷ [])
    ++ replicate 4 88
    ++ (77 ∷ 105 ∷ 0 ∷ []) ++ replicate 17 88
    ++ (1 ∷ 0 ∷ 0 ∷ 0 ∷ [])
    ++ (65 ∷ 0 ∷ []) ++ replicate 13 88 ++ (7 ∷ 0 ∷ 0 ∷ 0 ∷ 1 ∷ 0 ∷ 128 ∷ 127 ∷ 0 ∷ 0 ∷ 0 ∷ 128 ∷ 1 ∷ 0 ∷ 0 ∷ 0 ∷ 1 ∷ 0 ∷ 192 ∷ 255 ∷ 0 ∷ 0 ∷ 128 ∷ 127 ∷ 0 ∷ 0 ∷ 128 ∷ []) ++ replicate 4 255 ++ (127 ∷ []) ++ counting 48 64
    ++ (1 ∷ 0 ∷ 0 ∷ 0 ∷ [])
    ++ counting 65 15 ++ (9 ∷ []) ++ replicate 5 0 ++ (128 ∷ 255 ∷ [])
    ++ (1 ∷ 0 ∷ 0 ∷ 0 ∷ [])
    ++ (5 ∷ []) ++ replicate 6 0 ++ (128 ∷ 1 ∷ 0 ∷ 0 ∷ 0 ∷ 1 ∷ 0 ∷ 192 ∷ 255 ∷ 0 ∷ 0 ∷ 128 ∷ 127 ∷ 0 ∷ 0 ∷ 128 ∷ []) ++ replicate 4 255 ++ (127 ∷ []) ++ replicate 4 0 ++ counting 1 24 ++ (45 ∷ 0 ∷ 0 ∷ 0 ∷ 2 ∷ [])
    ++ (1 ∷ 0 ∷ 0 ∷ 0 ∷ [])
    ++ (4 ∷ 0 ∷ 0 ∷ 0 ∷ 1 ∷ 0 ∷ 128 ∷ 127 ∷ 0 ∷ 0 ∷ 0 ∷ 128 ∷ 1 ∷ 0 ∷ 0 ∷ 0 ∷ 1 ∷ 0 ∷ 192 ∷ 255 ∷ 0 ∷ 0 ∷ 128 ∷ 127 ∷ 0 ∷ 0 ∷ 128 ∷ 255 ∷ [])
    ++ (1 ∷ 0 ∷ 0 ∷ 0 ∷ [])
    ++ (3 ∷ 0 ∷ 0 ∷ 0 ∷ 200 ∷ 255 ∷ 255 ∷ 255 ∷ 127 ∷ [])
    ++ (2 ∷ 0 ∷ 0 ∷ 0 ∷ [])
    ++ (112 ∷ 17 ∷ 1 ∷ 0 ∷ 255 ∷ 2 ∷ 0 ∷ 0 ∷ 0 ∷ 75 ∷ 0 ∷ []) ++ replicate 18 88 ++ (128 ∷ []) ++ counting 97 20 ++ (0 ∷ 12 ∷ []) ++ replicate 8 0

-- its export
abbrev pub six_out : List ℕ
six_out =
    (86 ∷ 111 ∷ 99 ∷ 97 ∷ 108 ∷ 111 ∷ 105 ∷ 100 ∷ 32 ∷ 77 ∷ 111 ∷ 116 ∷ 105 ∷ 111 ∷ 110 ∷ 32 ∷ 68 ∷ 97 ∷ 116 ∷ 97 ∷ 32 ∷ 48 ∷ 48 ∷ 48 ∷ 50 ∷ 0 ∷ [])
    ++ replicate 4 0
    ++ (77 ∷ 105 ∷ []) ++ replicate 18 0
    ++ (1 ∷ 0 ∷ 0 ∷ 0 ∷ [])
    ++ (65 ∷ []) ++ replicate 14 0 ++ (7 ∷ 0 ∷ 0 ∷ 0 ∷ 1 ∷ 0 ∷ 128 ∷ 127 ∷ 0 ∷ 0 ∷ 0 ∷ 128 ∷ 1 ∷ 0 ∷ 0 ∷ 0 ∷ 1 ∷ 0 ∷ 192 ∷ 255 ∷ 0 ∷ 0 ∷ 128 ∷ 127 ∷ 0 ∷ 0 ∷ 128 ∷ []) ++ replicate 4 255 ++ (127 ∷ []) ++ counting 48 64
    ++ (1 ∷ 0 ∷ 0 ∷ 0 ∷ [])
    ++ counting 65 15 ++ (9 ∷ []) ++ replicate 5 0 ++ (128 ∷ 255 ∷ [])
    ++ (1 ∷ 0 ∷ 0 ∷ 0 ∷ [])
    ++ (5 ∷ []) ++ replicate 6 0 ++ (128 ∷ 1 ∷ 0 ∷ 0 ∷ 0 ∷ 1 ∷ 0 ∷ 192 ∷ 255 ∷ 0 ∷ 0 ∷ 128 ∷ 127 ∷ 0 ∷ 0 ∷ 128 ∷ []) ++ replicate 4 255 ++ (127 ∷ []) ++ replicate 4 0 ++ counting 1 24 ++ (45 ∷ 0 ∷ 0 ∷ 0 ∷ 1 ∷ [])
    ++ (1 ∷ 0 ∷ 0 ∷ 0 ∷ [])
    ++ (4 ∷ 0 ∷ 0 ∷ 0 ∷ 1 ∷ 0 ∷ 128 ∷ 127 ∷ 0 ∷ 0 ∷ 0 ∷ 128 ∷ 1 ∷ 0 ∷ 0 ∷ 0 ∷ 1 ∷ 0 ∷ 192 ∷ 255 ∷ 0 ∷ 0 ∷ 128 ∷ 127 ∷ 0 ∷ 0 ∷ 128 ∷ 255 ∷ [])
    ++ (1 ∷ 0 ∷ 0 ∷ 0 ∷ [])
    ++ (3 ∷ 0 ∷ 0 ∷ 0 ∷ 200 ∷ 255 ∷ 255 ∷ 255 ∷ 127 ∷ [])
    ++ (2 ∷ 0 ∷ 0 ∷ 0 ∷ [])
    ++ (112 ∷ 17 ∷ 1 ∷ 0 ∷ 1 ∷ 2 ∷ 0 ∷ 0 ∷ 0 ∷ 75 ∷ []) ++ replicate 19 0 ++ (1 ∷ []) ++ counting 97 20 ++ (0 ∷ 12 ∷ []) ++ replicate 8 0
