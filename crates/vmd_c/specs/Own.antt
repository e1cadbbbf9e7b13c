-- Counts and places that an opening filled say its own sections again: with them the functions for C give just what the
-- calls of vmd_reader give with that opening.
use Rattle.std.specs.Prelude.{◌≡◌, refl}
use Rattle.vmd_format.specs.Opening.{Opening}
use Rattle.vmd_slots.specs.Meaning.{counts_of, places_of, extent_at, scan_at}

pub own_sections : (o : Opening)
    → scan_at (counts_of o) (places_of o)
    ≡ record {
      bones = o.scan.bones;
      morphs = o.scan.morphs;
      cameras = o.scan.cameras;
      lights = o.scan.lights;
      self_shadows = o.scan.self_shadows;
      properties = o.scan.properties;
      ik_states = 0;
    }
unfolding counts_of places_of extent_at scan_at
own_sections o = refl
