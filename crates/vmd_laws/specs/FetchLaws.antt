-- With the file's own opening and scratch, a fetch gives the records of the take that the file says, number by number; with
-- another's, a walk that leaves the file is refused.
use Rattle.std.specs.Prelude.{ℕ, zero, suc, ◌+◌, ◌*◌, ◌-◌, ◌/◌, ◌%◌, ◌≤◌, ◌<◌, ◌≡◌, refl, Bool, true, false, ◌&&◌, List, [], ◌∷◌, ◌++◌, get_or, take, drop, leb, ltb}
use Rattle.std.proofs.Common.{ap, sym, ◌∙◌, subst, mul-le-mul_right, add-zero, length-append, length-drop, drop-drop, get_or-drop, get_or-take, take_at}
use native.Mathlib.Omega.{arith}
use borrow.Author.Tests.{le-leb, lt-leb, leb-true, leb-false, lt-ltb, le-ltb}
use Rattle.std.proofs.Math.ListN.{length, get_or-append}
use Rattle.vmd_format.specs.Bytes.{u32}
use Rattle.vmd_format.specs.Layout.{Layout, number, byte, flag, inverted, name, raw, ◌⊗◌, as_record}
use Rattle.vmd_format.specs.Refusal.{scratch_too_short, outside}
use Rattle.vmd_format.specs.Answer.{Answer, declined, given, and_then, map_answer, unless}
use Rattle.vmd_format.specs.Records.{IkState, Property, bone, morph, camera, light, self_shadow, ik_state, property_head}
use Rattle.vmd_format.specs.Read.{Step, refused, got, table, Manner}
use Rattle.vmd_format.specs.Take.{Take, File, take_of, read_file, answer, read_take}
use Rattle.vmd_format.specs.Opening.{ik_total, smallest, largest, smallest_frame, largest_frame, positions, places_needed, sixteenth_positions, Extent, Scan, Opening, open_file, scratch_if, scratch_after}
use Rattle.vmd_format.specs.Fetch.{record_place, fetch, or_empty, model_of, PropertyHead, next_frame, next_place, walk_frames, frame_place, property_place, property_at, fetch_property, step_property, ik_extent, fetch_ik_state}
use Rattle.vmd_laws.specs.Places.{Reaches, frame_end, sixteenth_places, opening_at, open_scan, scan_file, scan_scratch}
use Rattle.vmd_laws.specs.PlacesLaws.{table_length, table_at, section_in, property_in, frames_in}
use Rattle.vmd_laws.specs.ScanLaws.{frames_length, file_in, Inside, Agrees, Matches, file_agrees}
use Rattle.vmd_laws.specs.WalkLaws.{reaches_first, frame_end_on, reaches_split, walk_passed}
use Rattle.vmd_laws.specs.OpeningLaws.{file_frames, place_holds, next_of, sixteenth_positions_places, open_by_places, scratch_by_places, agreed_total}

-- ---- records of one size

-- the fetch of each record of a list, and refusal 4 past it
pub record Fetches {A : Type 0} (K : Layout A) (p : Extent) (s : List ℕ) (l : List A) : Type 0 where
  pub own : (i : ℕ) (d : A) → i < length l → fetch K p i s ≡ given (get_or l i d)
  pub past : (i : ℕ) → length l ≤ i → fetch K p i s ≡ declined outside

pub fetches_table : {A : Type 0} (K : Layout A) (p : Extent) (s : List ℕ) → p.place + p.count * K.size ≤ length s
    → Fetches K p s (table K p.count (drop p.place s))
unfolding fetch record_place map_answer unless
fetches_table K p s w = record { own = own; past = past }
  where
    n : length (table K p.count (drop p.place s)) ≡ p.count
    n = table_length K p.count (drop p.place s)

    own : (i : ℕ) (d : _) → i < length (table K p.count (drop p.place s))
        → fetch K p i s ≡ given (get_or (table K p.count (drop p.place s)) i d)
    own i d h =
        let k : i < p.count = rw n at h in
        let e : suc i * K.size ≤ p.count * K.size = mul-le-mul_right K.size k in
        rw (
          lt-ltb i p.count k,
          le-leb (p.place + i * K.size + K.size) (length s) (omega arith),
          table_at K p.count i (drop p.place s) d k,
          drop-drop,
        )

    past : (i : ℕ) → length (table K p.count (drop p.place s)) ≤ i → fetch K p i s ≡ declined outside
    past i h = let k : p.count ≤ i = rw n at h in rw (le-ltb i p.count k)

-- what is made of a record that is fetched: its fields, or a part of the file
module _ {A : Type 0} {K : Layout A} {p : Extent} {s : List ℕ} {l : List A} (h : Fetches K p s l) where
  pub fetches_fields : {B : Type 0} (f : A → B) (i : ℕ) (d : A) → i < length l → map_answer f (fetch K p i s) ≡ given (f (get_or l i d))
  unfolding map_answer
  fetches_fields f i d k = rw (h.own i d k)

  pub fetches_part : (f : A → List ℕ) (i : ℕ) (d : A) → i < length l → or_empty (map_answer f (fetch K p i s)) ≡ f (get_or l i d)
  unfolding or_empty
  fetches_part f i d k = rw (fetches_fields f i d k)

  pub past_fields : {B : Type 0} (f : A → B) (i : ℕ) → length l ≤ i → map_answer f (fetch K p i s) ≡ declined outside
  unfolding map_answer
  past_fields f i k = rw (h.past i k)

  pub past_part : (f : A → List ℕ) (i : ℕ) → length l ≤ i → or_empty (map_answer f (fetch K p i s)) ≡ []
  unfolding or_empty
  past_part f i k = rw (past_fields f i k)

-- ---- property frames

frames_at : (s : List ℕ) (n at i : ℕ) (d : Property) → i < n → get_or (frames_in s n at) i d ≡ property_in s (frame_end s i at)
unfolding frames_in frame_end
frames_at s zero at i d h = absurd (omega arith)
frames_at s (suc n) at zero d h = refl
frames_at s (suc n) at (suc i) d h = frames_at s n (next_frame s at) i d (omega arith)

pub places_length : (s : List ℕ) (n at : ℕ) → length (sixteenth_places s n at) ≡ n
unfolding sixteenth_places
places_length s zero at = refl
places_length s (suc n) at = ap suc (places_length s n (frame_end s 16 at))

-- place j is the place of frame 16 j
places_at : (s : List ℕ) (n at j : ℕ) → j < n → get_or (sixteenth_places s n at) j 0 ≡ frame_end s (16 * j) at
unfolding sixteenth_places frame_end
places_at s zero at j h = absurd (omega arith)
places_at s (suc n) at zero h = refl
places_at s (suc n) at (suc j) h =
    let e : 16 + 16 * j ≡ 16 * suc j = omega arith in
    places_at s n (frame_end s 16 at) j (omega arith) ∙ frame_end_on s 16 (16 * j) at ∙ rw e

-- each of n frames lies in the file, with its IK states
frame_reaches : (s : List ℕ) (n at : ℕ) → Reaches s n at → (i : ℕ) → i < n → next_frame s (frame_end s i at) ≤ length s
frame_reaches s n at r i h =
    let e : n ≡ i + (n - i) = omega arith in
    (reaches_first s (n - i) (frame_end s i at) (omega arith) (reaches_split s i (n - i) at (rw e at r)).1).0

-- the step over a frame
pub next_reaches : (s : List ℕ) (at : ℕ) → next_frame s at ≤ length s → next_place s at ≡ given (next_frame s at)
unfolding next_place unless
next_reaches s at h = rw (le-leb (next_frame s at) (length s) h)

pub next_leaves : (s : List ℕ) (at : ℕ) → length s < next_frame s at → next_place s at ≡ declined outside
unfolding next_place unless
next_leaves s at h = rw (lt-leb (next_frame s at) (length s) h)

-- a walk over n frames that lie in the file, and "a walk that leaves the file is 4"
walk_inside : (s : List ℕ) (n at : ℕ) → Reaches s n at → walk_frames s n at ≡ given (frame_end s n at)
unfolding walk_frames frame_end and_then Reaches
walk_inside s zero at r = refl
walk_inside s (suc n) at r = rw (next_reaches s at r.0) (walk_inside s n (next_frame s at) r.1)

pub walk_leaves : (s : List ℕ) (n at : ℕ) → (Reaches s n at → ⊥) → walk_frames s n at ≡ declined outside
unfolding walk_frames and_then Reaches
walk_leaves s zero at h = absurd (h tt)
walk_leaves s (suc n) at h = go (leb (next_frame s at) (length s)) refl (walk_leaves s n (next_frame s at))
  where
    go : (b : Bool) → leb (next_frame s at) (length s) ≡ b → ((Reaches s n (next_frame s at) → ⊥) → walk_frames s n (next_frame s at) ≡ declined outside)
        → and_then (next_place s at) (walk_frames s n) ≡ declined outside
    go true e rest = let k = leb-true (next_frame s at) (length s) e in rw (next_reaches s at k) (rest (λ r. h (k, r)))
    go false e rest = rw (next_leaves s at (leb-false (next_frame s at) (length s) e))

-- so is a fetch with any opening and scratch, of a frame and of each of its IK states
place_leaves : (p : Extent) (scratch : List ℕ) (i : ℕ) (s : List ℕ) → (Reaches s (i % 16) (get_or scratch (i / 16) 0) → ⊥)
    → property_place p scratch i s ≡ declined outside
unfolding property_place and_then unless
place_leaves p scratch i s h = rw (walk_leaves s (i % 16) (get_or scratch (i / 16) 0) h) (go (ltb i p.count && ltb (i / 16) (length scratch)))
  where
    go : (b : Bool) → ◌≡◌ {A = Answer ℕ} (unless b outside (declined outside)) (declined outside)
    go true = refl
    go false = refl

pub fetch_leaves : (p : Extent) (scratch : List ℕ) (i : ℕ) (s : List ℕ) → (Reaches s (i % 16) (get_or scratch (i / 16) 0) → ⊥)
    → (fetch_property p scratch i s ≡ declined outside) × ((j : ℕ) → fetch_ik_state p scratch i j s ≡ declined outside)
unfolding fetch_property fetch_ik_state map_answer and_then
fetch_leaves p scratch i s h = (rw (place_leaves p scratch i s h), λ j. rw (place_leaves p scratch i s h))

unfoldable pub head_of : Property → PropertyHead
head_of p = record { frame = p.frame; visible = p.visible; ik_count = length p.ik_states }

head_at : (s : List ℕ) (at : ℕ) → property_at s at ≡ head_of (property_in s at)
unfolding property_at head_of property_in property_head number flag ◌⊗◌
head_at s at = rw (table_length ik_state (u32 (drop (at + 5) s)) (drop (at + 9) s)) (simp (drop-drop, get_or-drop, add-zero))

fetches_states : (s : List ℕ) (at : ℕ) → next_frame s at ≤ length s → Fetches ik_state (ik_extent s at) s (property_in s at).ik_states
unfolding ik_extent property_in next_frame ik_state as_record name flag ◌⊗◌
fetches_states s at h = fetches_table ik_state (ik_extent s at) s h

pub record FetchesProperties (p : Extent) (scratch s : List ℕ) (l : List Property) : Type 0 where
  pub own : (i : ℕ) (d : Property) → i < length l → fetch_property p scratch i s ≡ given (head_of (get_or l i d))
  pub past : (i : ℕ) → length l ≤ i → fetch_property p scratch i s ≡ declined outside
  pub own_state : (i j : ℕ) (d : Property) (e : IkState) → i < length l → j < length (get_or l i d).ik_states
      → fetch_ik_state p scratch i j s ≡ given (get_or (get_or l i d).ik_states j e)
  pub past_state : (i j : ℕ) (d : Property) → i < length l → length (get_or l i d).ik_states ≤ j → fetch_ik_state p scratch i j s ≡ declined outside
  pub past_frame : (i j : ℕ) → length l ≤ i → fetch_ik_state p scratch i j s ≡ declined outside

module _ (p : Extent) (s scratch : List ℕ) (first : ℕ) (r : Reaches s p.count first)
    (room : places_needed p.count ≤ length scratch)
    (filled : (j : ℕ) → j < places_needed p.count → get_or scratch j 0 ≡ frame_end s (16 * j) first) where
  reaches : (i : ℕ) → i < p.count → next_frame s (frame_end s i first) ≤ length s
  reaches i h = frame_reaches s p.count first r i h

  -- from place i / 16 over i mod 16 frames
  walked : (i : ℕ) → i < p.count → walk_frames s (i % 16) (get_or scratch (i / 16) 0) ≡ given (frame_end s i first)
  unfolding places_needed
  walked i h =
      let e : 16 * (i / 16) + i % 16 ≡ i = omega arith in
      let n : p.count ≡ 16 * (i / 16) + (i % 16 + (p.count - i)) = omega arith in
      let over = (reaches_split s (i % 16) (p.count - i) _ (reaches_split s (16 * (i / 16)) (i % 16 + (p.count - i)) first (rw n at r)).1).0 in
      rw (filled (i / 16) (omega arith), walk_inside s (i % 16) _ over, frame_end_on s (16 * (i / 16)) (i % 16) first, e)

  found : (i : ℕ) → i < p.count → property_place p scratch i s ≡ given (frame_end s i first)
  unfolding property_place frame_place and_then unless next_frame places_needed
  found i h =
      rw (
        lt-ltb i p.count h,
        lt-ltb (i / 16) (length scratch) (omega (arith, room)),
        walked i h,
        le-leb (frame_end s i first + 9) (length s) (omega (arith, reaches i h)),
      )

  missing : (i : ℕ) → p.count ≤ i → property_place p scratch i s ≡ declined outside
  unfolding property_place unless
  missing i h = rw (le-ltb i p.count h)

  states : (i j : ℕ) → i < p.count → fetch_ik_state p scratch i j s ≡ fetch ik_state (ik_extent s (frame_end s i first)) j s
  unfolding fetch_ik_state and_then
  states i j h = rw (found i h)

  -- frames that lie in the file, through a scratch that has the place of every sixteenth
  fetches_frames : FetchesProperties p scratch s (frames_in s p.count first)
  unfolding fetch_property map_answer fetch_ik_state and_then
  fetches_frames = record {
    own = λ i d h. let k = below i h in rw (found i k, head_at, ← frames_at s p.count first i d k);
    past = λ i h. rw (missing i (above i h));
    own_state = λ i j d z h k.
        let b = below i h in
        let q = frames_at s p.count first i d b in
        states i j b ∙ rw q ((fetches_states s _ (reaches i b)).own j z (rw q at k));
    past_state = λ i j d h k.
        let b = below i h in
        let q = frames_at s p.count first i d b in
        states i j b ∙ (fetches_states s _ (reaches i b)).past j (rw q at k);
    past_frame = λ i j h. rw (missing i (above i h));
  }
    where
      below : (i : ℕ) → i < length (frames_in s p.count first) → i < p.count
      below i h = rw (frames_length s p.count first) at h

      above : (i : ℕ) → length (frames_in s p.count first) ≤ i → p.count ≤ i
      above i h = rw (frames_length s p.count first) at h

-- ---- step after step

-- the step over a frame at a place, and the fetches of the frame where its place alone is lent, whatever the section's place
pub record Stepped (s : List ℕ) (at : ℕ) (p : Property) (next : ℕ) : Type 0 where
  pub step : step_property at s ≡ given (record { head = head_of p; next = next })
  pub alone : (place : ℕ) → FetchesProperties (record { count = 1; place = place }) (at ∷ []) s (p ∷ [])

-- from a place on, one step after another gives the frames of a list
abbrev pub Steps : List ℕ → ℕ → List Property → Type 0
Steps s at [] = Unit {0}
Steps s at (p ∷ l) = let next = at + 9 + 21 * length p.ik_states in Stepped s at p next × Steps s next l

stepped : (s : List ℕ) (at : ℕ) → next_frame s at ≤ length s → Stepped s at (property_in s at) (next_frame s at)
unfolding step_property map_answer frames_in Reaches places_needed frame_end
stepped s at h = record {
  step = rw (next_reaches s at h, head_at);
  alone = λ place. fetches_frames (record { count = 1; place = place }) s (at ∷ []) at (h, tt) (omega arith) only;
}
  where
    only : (j : ℕ) → j < places_needed 1 → get_or (at ∷ []) j 0 ≡ frame_end s (16 * j) at
    only zero k = refl
    only (suc j) k = absurd (omega arith)

steps : (s : List ℕ) (n at : ℕ) → Reaches s n at → Steps s at (frames_in s n at)
unfolding Reaches frames_in
steps s zero at r = tt
steps s (suc n) at r = rw (next_of s at) (stepped s at r.0, steps s n (next_frame s at) r.1)

-- ---- the file's own opening and scratch

-- "six counts, the number of IK states, largest frame", and 02 c's smallest: an opening's figures are those of a take
pub record Figures (o : Opening) (t : Take) : Type 0 where
  pub bones : o.scan.bones.count ≡ length t.bones
  pub morphs : o.scan.morphs.count ≡ length t.morphs
  pub cameras : o.scan.cameras.count ≡ length t.cameras
  pub lights : o.scan.lights.count ≡ length t.lights
  pub self_shadows : o.scan.self_shadows.count ≡ length t.self_shadows
  pub properties : o.scan.properties.count ≡ length t.properties
  pub ik_states : o.scan.ik_states ≡ ik_total t.properties
  pub smallest : o.smallest_frame ≡ smallest_frame t
  pub largest : o.largest_frame ≡ largest_frame t

-- what an opening, and the scratch after it, say of a take
pub record Own (s : List ℕ) (o : Opening) (scratch : List ℕ) (t : Take) : Type 0 where
  pub bones : Fetches bone o.scan.bones s t.bones
  pub morphs : Fetches morph o.scan.morphs s t.morphs
  pub cameras : Fetches camera o.scan.cameras s t.cameras
  pub lights : Fetches light o.scan.lights s t.lights
  pub self_shadows : Fetches self_shadow o.scan.self_shadows s t.self_shadows
  pub properties : FetchesProperties o.scan.properties scratch s t.properties
  pub model : model_of s ≡ t.model
  pub figures : Figures o t
  pub steps : Steps s o.scan.properties.place t.properties
  pub places : take (places_needed (length t.properties)) scratch ≡ sixteenth_positions o.scan.properties.place t.properties

own_file : (s scratch model : List ℕ) (x : Scan) → Inside s x → model_of s ≡ model
    → x.ik_states ≡ ik_total (frames_in s x.properties.count x.properties.place) → places_needed x.properties.count ≤ length scratch
    → let q = sixteenth_places s (places_needed x.properties.count) x.properties.place in
    Own s (opening_at s x) (q ++ drop (length q) scratch) (take_of (file_in model s x))
unfolding take_of file_in section_in opening_at smallest_frame largest_frame bone morph camera light self_shadow number byte flag inverted name raw ◌⊗◌ as_record
own_file s scratch model x k e total room =
    let n = x.properties.count in
    let at = x.properties.place in
    let q = sixteenth_places s (places_needed n) at in
    let l : length q ≡ places_needed n = places_length s (places_needed n) at in
    let reaches : Reaches s n at = (walk_passed s n at 0 _ k.walked).reaches in
    record {
      bones = fetches_table bone x.bones s k.bones.ends;
      morphs = fetches_table morph x.morphs s k.morphs.ends;
      cameras = fetches_table camera x.cameras s k.cameras.ends;
      lights = fetches_table light x.lights s k.lights.ends;
      self_shadows = fetches_table self_shadow x.self_shadows s k.self_shadows.ends;
      properties =
          fetches_frames x.properties s (q ++ drop (length q) scratch) at reaches
          (simp (length-append, length-drop) (omega arith))
          (λ j h. get_or-append q (drop (length q) scratch) 0 j (rw l h) ∙ places_at s (places_needed n) at j h);
      model = e;
      figures = record {
        bones = sym (table_length bone x.bones.count (drop x.bones.place s));
        morphs = sym (table_length morph x.morphs.count (drop x.morphs.place s));
        cameras = sym (table_length camera x.cameras.count (drop x.cameras.place s));
        lights = sym (table_length light x.lights.count (drop x.lights.place s));
        self_shadows = sym (table_length self_shadow x.self_shadows.count (drop x.self_shadows.place s));
        properties = sym (frames_length s n at);
        ik_states = total;
        smallest = ap smallest (sym (file_frames model s x));
        largest = ap largest (sym (file_frames model s x));
      };
      steps = steps s n at reaches;
      places = rw (frames_length s n at, take_at q (drop (length q) scratch) (places_needed n) l) (sym (sixteenth_positions_places s n at));
    }

-- "With the file's own opening and scratch, the calls for records, names and interpolation bytes return just these, and the
-- file's model name."
pub own_records : (m : Manner) (s scratch : List ℕ) (o : Opening) (t : Take) → read_take m s ≡ given t
    → open_file m s (length scratch) ≡ given o → Own s o (scratch_after m s scratch) t
unfolding read_take answer and_then open_scan scan_scratch scratch_if unless
own_records m s scratch o t r h =
    rw (scratch_by_places m s scratch)
    (go (read_file m s) (scan_file m s) (file_agrees m s) r (rw (open_by_places m s (length scratch)) at h))
  where
    agreed : (f : File) (x : Scan) → (f.model ≡ model_of s) × Agrees s f x → (b : Bool) → leb (places_needed x.properties.count) (length scratch) ≡ b
        → given (take_of f) ≡ given t
        → unless b scratch_too_short (given (opening_at s x)) ≡ given o
        → Own s o (scratch_if b (sixteenth_places s (places_needed x.properties.count) x.properties.place) scratch) t
    agreed f x a true e p q =
        let places = sixteenth_places s (places_needed x.properties.count) x.properties.place in
        let u : take_of f ≡ t = cc in
        let v : opening_at s x ≡ o = cc in
        rw (← v, ← u)
        (subst (λ g. Own s (opening_at s x) (places ++ drop (length places) scratch) (take_of g)) (sym a.1.file)
        (own_file s scratch f.model x a.1.inside (sym a.0) (agreed_total a.1) (leb-true _ _ e)))
    agreed f x a false e p q = let z : ◌≡◌ {A = ℕ} 0 1 = cc in absurd (omega arith)

    go : (x : Step File) (y : Answer Scan) → Matches s (model_of s) x y → answer x ≡ given t → and_then y (open_scan s (length scratch)) ≡ given o
        → Own s o (scan_scratch s scratch y) t
    go (refused k) (declined j) a p q = let z : ◌≡◌ {A = ℕ} 0 1 = cc in absurd (omega arith)
    go (refused k) (given x) a p q = absurd a
    go (got f u) (declined j) a p q = absurd a
    go (got f u) (given x) a p q = agreed f x a (leb (places_needed x.properties.count) (length scratch)) refl p q

-- 02 f): "Place j now holds the position of property frame 16j", of the scratch that opening leaves
pub own_place : (m : Manner) (s scratch : List ℕ) (o : Opening) (t : Take) → read_take m s ≡ given t → open_file m s (length scratch) ≡ given o
    → (j : ℕ) → 16 * j < length t.properties
    → get_or (scratch_after m s scratch) j 0 ≡ get_or (positions o.scan.properties.place t.properties) (16 * j) 0
unfolding places_needed
own_place m s scratch o t r h j k =
    let n : j < places_needed (length t.properties) = omega arith in
    sym (get_or-take (places_needed (length t.properties)) (scratch_after m s scratch) j 0 n)
    ∙ ap (λ l. get_or l j 0) (own_records m s scratch o t r h).places
    ∙ place_holds o.scan.properties.place t.properties j n
