-- Tidying a take: 02 g). What the calls that tidy it answer and what they leave in every lent buffer, in a manner of reading.
-- Definitions only.
use Rattle.std.specs.Prelude.{ℕ, max, List, ◌++◌, leb, length, drop, replicate}
use Rattle.vmd_format.specs.Refusal.{scratch_too_short, output_too_short}
use Rattle.vmd_format.specs.Answer.{Answer, declined, given, and_then, map_answer, unless, left}
use Rattle.vmd_format.specs.Read.{Manner}
use Rattle.vmd_format.specs.Take.{Take, read_take, write_take}
use Rattle.vmd_keys.specs.Names.{registration_name}
use Rattle.vmd_tracks.specs.Tracks.{one_track, dropped}
use Rattle.vmd_tracks.specs.Tidy.{tidy}

-- ---- numbers of records

pub record Counts : Type 0 where
  pub bones : ℕ
  pub morphs : ℕ
  pub cameras : ℕ
  pub lights : ℕ
  pub self_shadows : ℕ
  pub properties : ℕ

unfoldable pub counts_of : Take → Counts
counts_of t = record {
  bones = length t.bones;
  morphs = length t.morphs;
  cameras = length t.cameras;
  lights = length t.lights;
  self_shadows = length t.self_shadows;
  properties = length t.properties;
}

-- "Dropped records are those with a later record of the same track and frame."
unfoldable pub dropped_by : (List ℕ → List ℕ) → Take → Counts
dropped_by cut t = record {
  bones = length (dropped (λ b. cut b.name) (λ b. b.frame) t.bones);
  morphs = length (dropped (λ m. cut m.name) (λ m. m.frame) t.morphs);
  cameras = length (dropped one_track (λ c. c.frame) t.cameras);
  lights = length (dropped one_track (λ l. l.frame) t.lights);
  self_shadows = length (dropped one_track (λ s. s.frame) t.self_shadows);
  properties = length (dropped one_track (λ p. p.frame) t.properties);
}

-- "one place per record of the largest section"
unfoldable pub largest_section : Take → ℕ
largest_section t =
    max (length t.bones) (max (length t.morphs) (max (length t.cameras)
    (max (length t.lights) (max (length t.self_shadows) (length t.properties)))))

-- ---- the calls

-- "A tidy operation writes a canonical file"
unfoldable pub tidied_file : Take → List ℕ
tidied_file t = write_take (tidy t)

-- A take that can be tidied with so many places of scratch and so many bytes of output: "A shorter scratch is 3, tested just
-- before 13."
unfoldable pub fitting : ℕ → ℕ → Take → Answer Take
fitting places room t =
    unless (leb (largest_section t) places) scratch_too_short (unless (leb (length (tidied_file t)) room) output_too_short (given t))

-- the take that is tidied
unfoldable pub tidying : Manner → List ℕ → ℕ → ℕ → Answer Take
tidying m s places room = and_then (read_take m s) (fitting places room)

-- "For each section, kept and dropped together make up the records read, and both numbers are returned.": the bytes written
-- and both numbers
pub record Report : Type 0 where
  pub bytes : ℕ
  pub kept : Counts
  pub dropped : Counts

unfoldable pub report : Take → Report
report t = record { bytes = length (tidied_file t); kept = counts_of (tidy t); dropped = dropped_by registration_name t }

-- `tidy_vmd_animation`: its answer, the output and the scratch at exit
abbrev pub tidied_answer : Manner → List ℕ → List ℕ → List ℕ → Answer Report
tidied_answer m s scratch out = map_answer report (tidying m s (length scratch) (length out))

abbrev pub tidied_output : Manner → List ℕ → List ℕ → List ℕ → List ℕ
tidied_output m s scratch out = left out (map_answer tidied_file (tidying m s (length scratch) (length out)))

-- "after success these places hold zero and further ones keep their contents"; a refusal leaves all of it
unfoldable pub cleared : List ℕ → Answer Take → List ℕ
cleared scratch (declined k) = scratch
cleared scratch (given t) = replicate (largest_section t) 0 ++ drop (largest_section t) scratch

abbrev pub tidied_scratch : Manner → List ℕ → List ℕ → List ℕ → List ℕ
tidied_scratch m s scratch out = cleared scratch (tidying m s (length scratch) (length out))

-- `tidy_vmd_size`: how long the output has to be, and both numbers; 13 where no output is that long, since its length has 64
-- bits. It is lent the scratch.
abbrev pub longest : ℕ
longest = 18446744073709551615

abbrev pub size_answer : Manner → List ℕ → List ℕ → Answer Report
size_answer m s scratch = map_answer report (tidying m s (length scratch) longest)

abbrev pub size_scratch : Manner → List ℕ → List ℕ → List ℕ
size_scratch m s scratch = cleared scratch (tidying m s (length scratch) longest)
