-- A take tidied: 02 g) and k). Definitions only.
use Rattle.std.specs.Prelude.{List, ℕ}
use Rattle.vmd_format.specs.Take.{Take}
use Rattle.vmd_keys.specs.Names.{registration_name}
use Rattle.vmd_tracks.specs.Tracks.{tidy_section, one_track}

-- "Bone and morph tracks are the records of one name, laid one after another in order of first appearance; each other section
-- is one track. The model name is kept." Two names are of one track where `cut` makes them equal.
unfoldable pub tidy_by : (List ℕ → List ℕ) → Take → Take
tidy_by cut t = record {
  model = t.model;
  bones = tidy_section (λ b. cut b.name) (λ b. b.frame) t.bones;
  morphs = tidy_section (λ m. cut m.name) (λ m. m.frame) t.morphs;
  cameras = tidy_section one_track (λ c. c.frame) t.cameras;
  lights = tidy_section one_track (λ l. l.frame) t.lights;
  self_shadows = tidy_section one_track (λ s. s.frame) t.self_shadows;
  properties = tidy_section one_track (λ p. p.frame) t.properties;
}

-- "Two names now belong to one track when they agree up to the first byte 0x0A"; "A tidied record keeps its full name."
unfoldable pub tidy : Take → Take
tidy t = tidy_by registration_name t
