-- Laws of a scanned take's six sections, tidied one after another. Assumes nothing.
use Rattle.std.specs.Prelude.{ℕ, ◌≤◌, max, ◌≡◌, refl, List, ◌++◌, leb, Result, Ok, Err, is_ok}
use Rattle.std.proofs.Math.Path.{ap, sym}
use Rattle.std.proofs.Common.{◌∙◌, append_assoc, arith}
use Rattle.std.proofs.Math.ListN.{length}
use Rattle.vmd_format.specs.Answer.{Answer, given, within}
use Rattle.vmd_format.specs.Read.{Manner}
use Rattle.vmd_format.specs.Take.{Take, newer, write_take}
use Rattle.vmd_format.specs.Join.{file_length}
use Rattle.vmd_format.specs.Opening.{Scan, ik_total}
use Rattle.vmd_laws.specs.Places.{scan_file}
use Rattle.vmd_laws.specs.ExportLaws.{Scanned, take_in}
use Rattle.vmd_base.specs.declared.VmdRefusal.{VmdRefusal}
use Rattle.vmd_base.specs.Meaning.{answer_of}
use Rattle.vmd_bytes.specs.Written.{Room, Wrote, Rest}
use Rattle.vmd_bytes.proofs.Writes.{rest_as, rest_room, rest_then, rest_done}
use Rattle.vmd_tables.specs.Leading.{Beyond}
use Rattle.vmd_tables.proofs.Leaders.{beyond_then}
use Rattle.vmd_tidy_sections.specs.Sections.{tidied_frames}
use Rattle.vmd_tidy.specs.Tidied.{Counts, counts_of, fitting, tidying}
use Rattle.vmd_tidy.specs.Stages.{is_given, size_given, largest_count, tidied_at, counts_at, front_bytes, back_bytes, Front, Back, Kept, Fewer}
use Rattle.vmd_tidy.specs.StageLaws.{within_given, size_within, count_fits, count_sizes, counts_kept, kept_fewer, counted, largest, beyond_wider, read_scanned, bone_bytes, morph_bytes, camera_bytes, light_bytes, shadow_bytes, frame_bytes}

pub max_assoc : (a b c : ℕ) → max (max a b) c ≡ max a (max b c)
max_assoc a b c = omega arith

-- ---- a size

given_ok : (r : Result ℕ VmdRefusal) → is_ok r ≡ is_given (answer_of r)
given_ok (Ok n) = refl
given_ok (Err k) = refl

-- whether it is within a limit, and what it is where it is
pub within_ok : (r : Result ℕ VmdRefusal) (limit n : ℕ) → answer_of r ≡ within limit n → is_ok r ≡ leb n limit
within_ok r limit n e = given_ok r ∙ ap is_given e ∙ within_given limit n

pub within_size : {r : Result ℕ VmdRefusal} {k : ℕ} (limit n : ℕ) → answer_of r ≡ within limit n → r ≡ Ok k → n ≤ limit → k ≡ n
within_size limit n e p h = ap (λ r. size_given (answer_of r)) (sym p) ∙ ap size_given e ∙ size_within limit n h

-- ---- what is kept

module _ (s : List ℕ) (x : Scan) where
  pub kept_of : {b m c l d p i : ℕ} → Front s x b m c → Back s x l d p → i ≡ ik_total (tidied_frames s x.properties)
      → Kept s x (counted b m c l d p) i
  unfolding tidied_at
  kept_of f g e = record { counts_are = counts_kept s x _ _ _ _ _ _ f g; states_are = e }

  pub counts_few : {k : Counts} → k ≡ counts_at s x → Scanned s x → Fewer k x
  counts_few e h = rw e (kept_fewer s x h)

  module _ {k : Counts} {i : ℕ} (h : Kept s x k i) where
    front_of : Front s x k.bones k.morphs k.cameras
    unfolding counts_at counts_of tidied_at
    front_of = record {
      bones_are = ap (λ c. c.bones) h.counts_are;
      morphs_are = ap (λ c. c.morphs) h.counts_are;
      cameras_are = ap (λ c. c.cameras) h.counts_are;
    }

    back_of : Back s x k.lights k.self_shadows k.properties
    unfolding counts_at counts_of tidied_at
    back_of = record {
      lights_are = ap (λ c. c.lights) h.counts_are;
      shadows_are = ap (λ c. c.self_shadows) h.counts_are;
      properties_are = ap (λ c. c.properties) h.counts_are;
    }

    -- they fit as the tidied file does, and are as long
    pub kept_fits : (limit : ℕ) → leb (file_length newer k.bones k.morphs k.cameras k.lights k.self_shadows k.properties i) limit ≡ leb (length (write_take (tidied_at s x))) limit
    unfolding tidied_at
    kept_fits limit = count_fits s x limit _ _ _ _ _ _ _ front_of back_of h.states_are

    pub kept_size : length (write_take (tidied_at s x)) ≡ file_length newer k.bones k.morphs k.cameras k.lights k.self_shadows k.properties i
    unfolding tidied_at
    kept_size = count_sizes s x _ _ _ _ _ _ _ front_of back_of h.states_are

-- ---- the places, section after section

pub all_beyond : (x : Scan) {a b c d e f g : List ℕ} → Beyond x.bones.count a b → Beyond x.morphs.count b c → Beyond x.cameras.count c d
    → Beyond x.lights.count d e → Beyond x.self_shadows.count e f → Beyond x.properties.count f g → Beyond (largest_count x) a g
all_beyond x h i j k l m =
    let n = largest x in
    beyond_then (beyond_wider n.bones h) (beyond_then (beyond_wider n.morphs i) (beyond_then (beyond_wider n.cameras j)
    (beyond_then (beyond_wider n.lights k) (beyond_then (beyond_wider n.self_shadows l) (beyond_wider n.properties m)))))

-- ---- the bytes, section after section

module _ (s : List ℕ) (x : Scan) where
  abbrev after_self_shadows : List ℕ
  after_self_shadows = frame_bytes s x

  abbrev after_lights : List ℕ
  after_lights = shadow_bytes s x ++ after_self_shadows

  abbrev after_cameras : List ℕ
  after_cameras = light_bytes s x ++ after_lights

  abbrev after_morphs : List ℕ
  after_morphs = camera_bytes s x ++ after_cameras

  abbrev after_bones : List ℕ
  after_bones = morph_bytes s x ++ after_morphs

  module _ {out : List ℕ} {to : ℕ} (r : Room out to (front_bytes s x ++ back_bytes s x)) where
    abbrev whole : List ℕ
    whole = front_bytes s x ++ back_bytes s x

    at_bones : Rest out to whole out to (bone_bytes s x ++ after_bones)
    unfolding front_bytes back_bytes
    at_bones = rest_as (simp append_assoc) r

    pub bones_room : Room out to (bone_bytes s x)
    bones_room = rest_room after_bones at_bones

    module _ {o1 : List ℕ} {p1 : ℕ} (w1 : Wrote out to (bone_bytes s x) o1 p1) where
      at_morphs : Rest out to whole o1 p1 (morph_bytes s x ++ after_morphs)
      at_morphs = rest_then after_bones at_bones w1

      pub morphs_room : Room o1 p1 (morph_bytes s x)
      morphs_room = rest_room after_morphs at_morphs

      module _ {o2 : List ℕ} {p2 : ℕ} (w2 : Wrote o1 p1 (morph_bytes s x) o2 p2) where
        at_cameras : Rest out to whole o2 p2 (camera_bytes s x ++ after_cameras)
        at_cameras = rest_then after_morphs at_morphs w2

        pub cameras_room : Room o2 p2 (camera_bytes s x)
        cameras_room = rest_room after_cameras at_cameras

        module _ {o3 : List ℕ} {p3 : ℕ} (w3 : Wrote o2 p2 (camera_bytes s x) o3 p3) where
          at_lights : Rest out to whole o3 p3 (light_bytes s x ++ after_lights)
          at_lights = rest_then after_cameras at_cameras w3

          pub lights_room : Room o3 p3 (light_bytes s x)
          lights_room = rest_room after_lights at_lights

          module _ {o4 : List ℕ} {p4 : ℕ} (w4 : Wrote o3 p3 (light_bytes s x) o4 p4) where
            at_self_shadows : Rest out to whole o4 p4 (shadow_bytes s x ++ after_self_shadows)
            at_self_shadows = rest_then after_lights at_lights w4

            pub self_shadows_room : Room o4 p4 (shadow_bytes s x)
            self_shadows_room = rest_room after_self_shadows at_self_shadows

            module _ {o5 : List ℕ} {p5 : ℕ} (w5 : Wrote o4 p4 (shadow_bytes s x) o5 p5) where
              at_properties : Rest out to whole o5 p5 (frame_bytes s x)
              at_properties = rest_then after_self_shadows at_self_shadows w5

              pub properties_room : Room o5 p5 (frame_bytes s x)
              properties_room = at_properties.room

              pub sections_wrote : {o6 : List ℕ} {p6 : ℕ} → Wrote o5 p5 (frame_bytes s x) o6 p6 → Wrote out to whole o6 p6
              sections_wrote w6 = rest_done at_properties w6

-- ---- a file that was scanned

-- what is answered of its take is answered of it
pub tidying_found : (m : Manner) (s : List ℕ) (places room : ℕ) {f : List ℕ} {x : Scan} {a : Answer Take}
    → given x ≡ scan_file m s → f ≡ s → a ≡ fitting places room (take_in f x) → tidying m s places room ≡ a
tidying_found m s places room {x = x} found same e =
    read_scanned m s places room x (sym found) ∙ ap (λ f. fitting places room (take_in f x)) (sym same) ∙ sym e
