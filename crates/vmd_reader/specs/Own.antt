-- "With the file's own opening and scratch, the calls for records, names and interpolation bytes return just these, and the
-- file's model name": what the contracts of the calls say of an accepted file, call by call and number by number, in every
-- manner of reading.
use Rattle.std.specs.Prelude.{ℕ, ◌+◌, ◌*◌, ◌≤◌, ◌<◌, ◌≡◌, List, [], ◌∷◌, length, get_or}
use Rattle.std.proofs.Common.{arith}
use Rattle.vmd_format.specs.Layout.{Layout}
use Rattle.vmd_format.specs.Refusal.{outside}
use Rattle.vmd_format.specs.Answer.{Answer, declined, given, map_answer}
use Rattle.vmd_format.specs.Records.{IkState, Property, bone, morph, camera, light, self_shadow}
use Rattle.vmd_format.specs.Read.{Manner}
use Rattle.vmd_format.specs.Take.{Take, read_take}
use Rattle.vmd_format.specs.Opening.{Extent, Opening, open_file, scratch_after}
use Rattle.vmd_format.specs.Fetch.{fetch, or_empty, model_of, fetch_property, step_property, fetch_ik_state}
use Rattle.vmd_laws.specs.FetchLaws.{Fetches, FetchesProperties, Steps, own_records, head_of, fetches_fields, fetches_part, past_fields, past_part}
use Rattle.vmd_records.specs.Fields.{bone_fields, morph_fields, camera_fields, light_floats, light_bits, self_shadow_fields, property_fields, ik_fields}
use Rattle.vmd_reader.specs.Meaning.{step_fields}

-- ---- definitions

-- a call for records by number: the fields of each record of a list, and refusal 4 at and above its length
pub record Gives {A B : Type 0} (fields : A → B) (l : List A) (call : ℕ → Answer B) : Type 0 where
  pub own : (i : ℕ) (d : A) → i < length l → call i ≡ given (fields (get_or l i d))
  pub past : (i : ℕ) → length l ≤ i → call i ≡ declined outside

-- a call for parts of the file by number: the part of each record of a list, and none at and above its length
pub record GivesPart {A : Type 0} (part : A → List ℕ) (l : List A) (call : ℕ → List ℕ) : Type 0 where
  pub own : (i : ℕ) (d : A) → i < length l → call i ≡ part (get_or l i d)
  pub past : (i : ℕ) → length l ≤ i → call i ≡ []

-- the call for a property frame at a place, and those for its IK states with its place alone as scratch, whatever the section's
-- place: the fields of a frame, the place of the next one, the frame's states and their names
pub record GivesStep (s : List ℕ) (at : ℕ) (p : Property) (next : ℕ) : Type 0 where
  pub frame : map_answer step_fields (step_property at s) ≡ given (property_fields (head_of p), next)
  pub ik_state : (place : ℕ) → Gives ik_fields p.ik_states (λ j. map_answer ik_fields (fetch_ik_state (record { count = 1; place = place }) (at ∷ []) 0 j s))
  pub ik_name : (place : ℕ)
      → GivesPart (λ x. x.name) p.ik_states (λ j. or_empty (map_answer (λ x. x.name) (fetch_ik_state (record { count = 1; place = place }) (at ∷ []) 0 j s)))

-- these calls from a place on, each at the place that the one before it gave: the frames of a list
abbrev pub GivesSteps : List ℕ → ℕ → List Property → Type 0
GivesSteps s at [] = Unit {0}
GivesSteps s at (p ∷ l) = let next = at + 9 + 21 * length p.ik_states in GivesStep s at p next × GivesSteps s next l

-- what each call answers for the file s, with an opening o and a scratch, in the words of its contract: the take t
pub record Calls (s : List ℕ) (o : Opening) (scratch : List ℕ) (t : Take) : Type 0 where
  pub bone_frame : Gives bone_fields t.bones (λ i. map_answer bone_fields (fetch bone o.scan.bones i s))
  pub morph_frame : Gives morph_fields t.morphs (λ i. map_answer morph_fields (fetch morph o.scan.morphs i s))
  pub camera_frame : Gives camera_fields t.cameras (λ i. map_answer camera_fields (fetch camera o.scan.cameras i s))
  pub light_frame : Gives light_floats t.lights (λ i. map_answer light_floats (fetch light o.scan.lights i s))
  pub light_frame_bits : Gives light_bits t.lights (λ i. map_answer light_bits (fetch light o.scan.lights i s))
  pub self_shadow_frame :
      Gives self_shadow_fields t.self_shadows (λ i. map_answer self_shadow_fields (fetch self_shadow o.scan.self_shadows i s))
  pub property_frame :
      Gives (λ p. property_fields (head_of p)) t.properties (λ i. map_answer property_fields (fetch_property o.scan.properties scratch i s))
  pub property_frame_at : GivesSteps s o.scan.properties.place t.properties
  pub ik_state : (i : ℕ) (d : Property) → i < length t.properties
      → Gives ik_fields (get_or t.properties i d).ik_states (λ j. map_answer ik_fields (fetch_ik_state o.scan.properties scratch i j s))
  pub ik_state_past : (i j : ℕ) → length t.properties ≤ i
      → map_answer ik_fields (fetch_ik_state o.scan.properties scratch i j s) ≡ declined outside
  pub bone_name : GivesPart (λ x. x.name) t.bones (λ i. or_empty (map_answer (λ x. x.name) (fetch bone o.scan.bones i s)))
  pub bone_interpolation :
      GivesPart (λ x. x.interpolation) t.bones (λ i. or_empty (map_answer (λ x. x.interpolation) (fetch bone o.scan.bones i s)))
  pub morph_name : GivesPart (λ x. x.name) t.morphs (λ i. or_empty (map_answer (λ x. x.name) (fetch morph o.scan.morphs i s)))
  pub camera_interpolation :
      GivesPart (λ x. x.interpolation) t.cameras (λ i. or_empty (map_answer (λ x. x.interpolation) (fetch camera o.scan.cameras i s)))
  pub ik_name : (i : ℕ) (d : Property) → i < length t.properties
      → GivesPart (λ x. x.name) (get_or t.properties i d).ik_states
      (λ j. or_empty (map_answer (λ x. x.name) (fetch_ik_state o.scan.properties scratch i j s)))
  pub ik_name_past : (i j : ℕ) → length t.properties ≤ i
      → or_empty (map_answer (λ x. x.name) (fetch_ik_state o.scan.properties scratch i j s)) ≡ []
  pub model_name : model_of s ≡ t.model

-- ---- the calls of an accepted file

module _ {A : Type 0} {K : Layout A} {p : Extent} {s : List ℕ} {l : List A} (h : Fetches K p s l) where
  gives : {B : Type 0} (fields : A → B) → Gives fields l (λ i. map_answer fields (fetch K p i s))
  gives fields = record { own = fetches_fields h fields; past = past_fields h fields }

  gives_part : (part : A → List ℕ) → GivesPart part l (λ i. or_empty (map_answer part (fetch K p i s)))
  gives_part part = record { own = fetches_part h part; past = past_part h part }

module _ {p : Extent} {scratch s : List ℕ} {l : List Property} (h : FetchesProperties p scratch s l) where
  gives_frame : Gives (λ x. property_fields (head_of x)) l (λ i. map_answer property_fields (fetch_property p scratch i s))
  unfolding map_answer
  gives_frame = record { own = λ i d k. rw (h.own i d k); past = λ i k. rw (h.past i k) }

  module _ {B : Type 0} (fields : IkState → B) where
    gives_state : (i : ℕ) (d : Property) → i < length l
        → Gives fields (get_or l i d).ik_states (λ j. map_answer fields (fetch_ik_state p scratch i j s))
    unfolding map_answer
    gives_state i d k = record { own = λ j e n. rw (h.own_state i j d e k n); past = λ j n. rw (h.past_state i j d k n) }

    past_state : (i j : ℕ) → length l ≤ i → map_answer fields (fetch_ik_state p scratch i j s) ≡ declined outside
    unfolding map_answer
    past_state i j k = rw (h.past_frame i j k)

  gives_name : (i : ℕ) (d : Property) → i < length l
      → GivesPart (λ x. x.name) (get_or l i d).ik_states (λ j. or_empty (map_answer (λ x. x.name) (fetch_ik_state p scratch i j s)))
  unfolding or_empty
  gives_name i d k =
      let g = gives_state (λ x. x.name) i d k in
      record { own = λ j e n. rw (g.own j e n); past = λ j n. rw (g.past j n) }

  past_name : (i j : ℕ) → length l ≤ i → or_empty (map_answer (λ x. x.name) (fetch_ik_state p scratch i j s)) ≡ []
  unfolding or_empty
  past_name i j k = rw (past_state (λ x. x.name) i j k)

gives_steps : (s : List ℕ) (at : ℕ) (l : List Property) → Steps s at l → GivesSteps s at l
unfolding map_answer
gives_steps s at [] h = tt
gives_steps s at (p ∷ l) (h, rest) = (
  record {
    frame = rw h.step;
    ik_state = λ place. gives_state (h.alone place) ik_fields 0 p (omega arith);
    ik_name = λ place. gives_name (h.alone place) 0 p (omega arith);
  },
  gives_steps s (at + 9 + 21 * length p.ik_states) l rest,
)

-- of a file that reads as the take t, with the opening that was given and the scratch that this left
pub own_calls : (m : Manner) (s scratch : List ℕ) (o : Opening) (t : Take) → read_take m s ≡ given t
    → open_file m s (length scratch) ≡ given o → Calls s o (scratch_after m s scratch) t
own_calls m s scratch o t reads opened =
    let h = own_records m s scratch o t reads opened in
    record {
      bone_frame = gives h.bones bone_fields;
      morph_frame = gives h.morphs morph_fields;
      camera_frame = gives h.cameras camera_fields;
      light_frame = gives h.lights light_floats;
      light_frame_bits = gives h.lights light_bits;
      self_shadow_frame = gives h.self_shadows self_shadow_fields;
      property_frame = gives_frame h.properties;
      property_frame_at = gives_steps s _ t.properties h.steps;
      ik_state = gives_state h.properties ik_fields;
      ik_state_past = past_state h.properties ik_fields;
      bone_name = gives_part h.bones (λ x. x.name);
      bone_interpolation = gives_part h.bones (λ x. x.interpolation);
      morph_name = gives_part h.morphs (λ x. x.name);
      camera_interpolation = gives_part h.cameras (λ x. x.interpolation);
      ik_name = gives_name h.properties;
      ik_name_past = past_name h.properties;
      model_name = h.model;
    }
