-- Opening by places is opening: counts, places, IK total, smallest and largest frame, and the scratch.
use Rattle.std.specs.Prelude.{ℕ, zero, suc, ◌+◌, ◌*◌, ◌-◌, ◌/◌, ◌≤◌, ◌<◌, ◌≡◌, refl, ◌↔◌, List, [], ◌∷◌, ◌++◌, map, length, get_or, drop}
use Rattle.std.proofs.Math.Path.{ap, sym}
use Rattle.std.proofs.Common.{ap₂, ◌∙◌, subst, add-zero, zero-add, arith, drop-drop, get_or-drop, le-leb}
use Rattle.vmd_format.specs.Bytes.{u32}
use Rattle.vmd_format.specs.Layout.{Layout, number, byte, inverted, name, raw, ◌⊗◌, as_record}
use Rattle.vmd_format.specs.Answer.{Answer, declined, given, and_then, unless}
use Rattle.vmd_format.specs.Records.{Property, bone, morph, camera, light, self_shadow, ik_state}
use Rattle.vmd_format.specs.Read.{Step, refused, got, table, Manner}
use Rattle.vmd_format.specs.Take.{Take, File, take_of, read_file, answer, read_take}
use Rattle.vmd_format.specs.Opening.{ik_total, take_frames, smallest_frame, largest_frame, positions, places_needed, sixteenths, sixteenth_positions, Scan, Opening, extent_of, scan_of, opening_of, opened, open_file, scratch_of, scratch_after}
use Rattle.vmd_format.specs.Fetch.{model_of, next_frame}
use Rattle.vmd_laws.specs.Places.{scan_file, frame_end, sixteenth_places, frames_from, scan_frames, opening_at, open_scan, scan_scratch}
use Rattle.vmd_laws.specs.PlacesLaws.{table_length, section_in, property_in, frames_in}
use Rattle.vmd_laws.specs.ScanLaws.{frames_length, file_in, Agrees, Matches, file_agrees}

-- the frames of back-to-back records
frames_table : {A : Type 0} (K : Layout A) (frame : A → ℕ) (offset : ℕ) → ((s : List ℕ) → frame (K.decode s) ≡ u32 (drop offset s))
    → (s : List ℕ) (n at : ℕ) → map frame (table K n (drop at s)) ≡ frames_from (λ at. at + K.size) offset s n at
unfolding table frames_from
frames_table K frame offset h s zero at = refl
frames_table K frame offset h s (suc n) at =
    rw (h (drop at s), drop-drop offset at s, drop-drop K.size at s)
    (ap {B = List ℕ} (λ l. u32 (drop (at + offset) s) ∷ l) (frames_table K frame offset h s n (at + K.size)))

frames_properties : (s : List ℕ) (n at : ℕ) → map (λ p. p.frame) (frames_in s n at) ≡ frames_from (next_frame s) 0 s n at
unfolding frames_in property_in frames_from
frames_properties s zero at = refl
frames_properties s (suc n) at =
    rw (add-zero at) (ap {B = List ℕ} (λ l. u32 (drop at s) ∷ l) (frames_properties s n (next_frame s at)))

pub file_frames : (model s : List ℕ) (x : Scan) → take_frames (take_of (file_in model s x)) ≡ scan_frames s x
unfolding take_frames take_of file_in section_in scan_frames bone morph camera light self_shadow as_record ◌⊗◌ name number raw byte inverted
file_frames model s x =
    ap₂ ◌++◌ (frames_table bone (λ b. b.frame) 15 (λ t. refl) s x.bones.count x.bones.place)
    (ap₂ ◌++◌ (frames_table morph (λ m. m.frame) 15 (λ t. refl) s x.morphs.count x.morphs.place)
    (ap₂ ◌++◌ (frames_table camera (λ c. c.frame) 0 (λ t. refl) s x.cameras.count x.cameras.place)
    (ap₂ ◌++◌ (frames_table light (λ l. l.frame) 0 (λ t. refl) s x.lights.count x.lights.place)
    (ap₂ ◌++◌ (frames_table self_shadow (λ d. d.frame) 0 (λ t. refl) s x.self_shadows.count x.self_shadows.place)
    (frames_properties s x.properties.count x.properties.place)))))

-- ---- positions

pub positions_length : (p : ℕ) (l : List Property) → length (positions p l) ≡ length l
unfolding positions
positions_length p [] = refl
positions_length p (f ∷ l) = ap suc (positions_length (p + 9 + 21 * length f.ik_states) l)

sixteenths_length : (n : ℕ) (l : List ℕ) → length (sixteenths n l) ≡ n
unfolding sixteenths
sixteenths_length zero l = refl
sixteenths_length (suc n) l = ap suc (sixteenths_length n (drop 16 l))

pub sixteenth_length : (p : ℕ) (l : List Property) → length (sixteenth_positions p l) ≡ places_needed (length l)
unfolding sixteenth_positions
sixteenth_length p l = sixteenths_length (places_needed (length l)) (positions p l)

-- "Place j now holds the position of property frame 16j"
sixteenths_at : (n j : ℕ) (l : List ℕ) → j < n → get_or (sixteenths n l) j 0 ≡ get_or l (16 * j) 0
unfolding sixteenths
sixteenths_at zero j l h = absurd (omega arith)
sixteenths_at (suc n) zero l h = refl
sixteenths_at (suc n) (suc j) l h =
    let e : 16 + 16 * j ≡ 16 * suc j = omega arith in
    sixteenths_at n j (drop 16 l) (omega arith) ∙ get_or-drop 16 l (16 * j) 0 ∙ rw e

pub place_holds : (at : ℕ) (l : List Property) (j : ℕ) → j < places_needed (length l) → get_or (sixteenth_positions at l) j 0 ≡ get_or (positions at l) (16 * j) 0
unfolding sixteenth_positions
place_holds at l j h = sixteenths_at (places_needed (length l)) j (positions at l) h

-- nine bytes, and 21 for each IK state: the next frame
pub next_of : (s : List ℕ) (at : ℕ) → at + 9 + 21 * length (property_in s at).ik_states ≡ next_frame s at
unfolding property_in next_frame
next_of s at = omega (arith, table_length ik_state (u32 (drop (at + 5) s)) (drop (at + 9) s))

-- the positions of these frames: the first, and after it the others'
positions_first : (s : List ℕ) (n at : ℕ) → positions at (frames_in s (suc n) at) ≡ at ∷ positions (next_frame s at) (frames_in s n (next_frame s at))
unfolding positions frames_in
positions_first s n at = rw (next_of s at)

positions_drop : (s : List ℕ) (k n at : ℕ)
    → drop k (positions at (frames_in s (k + n) at)) ≡ positions (frame_end s k at) (frames_in s n (frame_end s k at))
unfolding frame_end
positions_drop s zero n at = rw zero-add
positions_drop s (suc k) n at =
    let e : suc k + n ≡ suc (k + n) = omega arith in
    rw (e, positions_first s (k + n) at) (positions_drop s k n (next_frame s at))

-- every sixteenth of them
sixteenths_places : (s : List ℕ) (k n at : ℕ) → 16 * k < n + 16 → sixteenths k (positions at (frames_in s n at)) ≡ sixteenth_places s k at
unfolding sixteenths sixteenth_places
sixteenths_places s zero n at h = refl
sixteenths_places s (suc k) zero at h = absurd (omega arith)
sixteenths_places s (suc zero) (suc n) at h = rw (positions_first s n at)
sixteenths_places s (suc (suc k)) (suc n) at h =
    let e : 16 + (suc n - 16) ≡ suc n = omega arith in
    let q = positions_drop s 16 (suc n - 16) at in
    let r : drop 16 (positions at (frames_in s (suc n) at)) ≡ positions (frame_end s 16 at) (frames_in s (suc n - 16) (frame_end s 16 at)) = rw e at q in
    let f : get_or (positions at (frames_in s (suc n) at)) 0 0 ≡ at = rw (positions_first s n at) in
    rw (f, r) (ap {B = List ℕ} (λ l. at ∷ l) (sixteenths_places s (suc k) (suc n - 16) (frame_end s 16 at) (omega arith)))

pub sixteenth_positions_places : (s : List ℕ) (n at : ℕ) → sixteenth_positions at (frames_in s n at) ≡ sixteenth_places s (places_needed n) at
unfolding sixteenth_positions places_needed
sixteenth_positions_places s n at = rw (frames_length s n at) (sixteenths_places s (places_needed n) n at (omega arith))

module _ {s : List ℕ} {f : File} {x : Scan} (a : Agrees s f x) where
  pub agreed_count : length f.properties.items ≡ x.properties.count
  unfolding scan_of extent_of
  agreed_count = ap (λ y. y.properties.count) a.scan

  pub agreed_place : (extent_of s f.properties).place ≡ x.properties.place
  unfolding scan_of
  agreed_place = ap (λ y. y.properties.place) a.scan

  pub agreed_frames : f.properties.items ≡ frames_in s x.properties.count x.properties.place
  unfolding file_in
  agreed_frames = ap (λ g. g.properties.items) a.file

  pub agreed_total : x.ik_states ≡ ik_total (frames_in s x.properties.count x.properties.place)
  unfolding scan_of
  agreed_total = sym (ap (λ y. y.ik_states) a.scan) ∙ ap ik_total agreed_frames

  pub agreed_numbers : take_frames (take_of f) ≡ scan_frames s x
  agreed_numbers = ap (λ g. take_frames (take_of g)) a.file ∙ file_frames f.model s x

-- what opening answers, by places
pub open_by_places : (m : Manner) (s : List ℕ) (places : ℕ) → open_file m s places ≡ and_then (scan_file m s) (open_scan s places)
unfolding open_file opened and_then open_scan opening_of opening_at smallest_frame largest_frame
open_by_places m s places = go (read_file m s) (scan_file m s) (file_agrees m s)
  where
    go : (x : Step File) (y : Answer Scan) → Matches s (model_of s) x y → opened s places x ≡ and_then y (open_scan s places)
    go (refused k) (declined j) a = ap declined a
    go (refused k) (given x) a = absurd a
    go (got f r) (declined j) a = absurd a
    go (got f r) (given x) a = rw (agreed_count a.1, agreed_numbers a.1, a.1.scan)

-- the scratch at exit, by places
pub scratch_by_places : (m : Manner) (s scratch : List ℕ) → scratch_after m s scratch ≡ scan_scratch s scratch (scan_file m s)
unfolding scratch_after scratch_of scan_scratch
scratch_by_places m s scratch = go (read_file m s) (scan_file m s) (file_agrees m s)
  where
    go : (x : Step File) (y : Answer Scan) → Matches s (model_of s) x y → scratch_of s scratch x ≡ scan_scratch s scratch y
    go (refused k) (declined j) a = refl
    go (refused k) (given x) a = absurd a
    go (got f r) (declined j) a = absurd a
    go (got f r) (given x) a =
        rw (agreed_count a.1, agreed_place a.1, agreed_frames a.1, sixteenth_positions_places s x.properties.count x.properties.place)

-- a file that reads as a take opens with scratch enough, and one that opens reads as a take
pub take_opens : (m : Manner) (s : List ℕ) (t : Take) (places : ℕ) → read_take m s ≡ given t → places_needed (length t.properties) ≤ places
    → (o : Opening) × (open_file m s places ≡ given o)
unfolding read_take answer take_of open_file opened unless
take_opens m s t places r h = go (read_file m s) r
  where
    go : (x : Step File) → answer x ≡ given t → (o : Opening) × (opened s places x ≡ given o)
    go (refused k) e = let z : ◌≡◌ {A = ℕ} 0 1 = cc in absurd (omega arith)
    go (got f u) e =
        let q : take_of f ≡ t = cc in
        let n : places_needed (length f.properties.items) ≤ places = subst (λ v. places_needed (length v.properties) ≤ places) (sym q) h in
        (opening_of s f, rw (le-leb (places_needed (length f.properties.items)) places n))

pub opened_reads : (m : Manner) (s : List ℕ) (o : Opening) (places : ℕ) → open_file m s places ≡ given o → (t : Take) × (read_take m s ≡ given t)
unfolding read_take answer open_file opened
opened_reads m s o places h = go (read_file m s) h
  where
    go : (x : Step File) → opened s places x ≡ given o → (t : Take) × (answer x ≡ given t)
    go (refused k) e = let z : ◌≡◌ {A = ℕ} 0 1 = cc in absurd (omega arith)
    go (got f u) e = (take_of f, refl)

-- ---- acceptance

-- "with scratch enough": not fewer places than a sixteenth of the property frames, rounded up
abbrev pub ScratchEnough : Manner → List ℕ → ℕ → Type 0
ScratchEnough m s places = (t : Take) → read_take m s ≡ given t → places_needed (length t.properties) ≤ places

-- "The reader accepts a file when opening it, with scratch enough, gives no refusal": it reads as a take exactly then
pub accepts : (m : Manner) (s : List ℕ) (places : ℕ) → ScratchEnough m s places
    → ((t : Take) × (read_take m s ≡ given t)) ↔ ((o : Opening) × (open_file m s places ≡ given o))
accepts m s places h = (λ x. take_opens m s x.0 places x.1 (h x.0 x.1), λ x. opened_reads m s x.0 places x.1)

-- the places of length / 9 frames are always enough, since a property frame has at least nine bytes
pub ninth_enough : (m : Manner) (s : List ℕ) (places : ℕ) → places_needed (length s / 9) ≤ places → ScratchEnough m s places
unfolding read_take answer take_of places_needed
ninth_enough m s places n t e = go (read_file m s) (scan_file m s) (file_agrees m s) e
  where
    go : (x : Step File) (y : Answer Scan) → Matches s (model_of s) x y → answer x ≡ given t → places_needed (length t.properties) ≤ places
    go (refused k) y a e = let z : ◌≡◌ {A = ℕ} 0 1 = cc in absurd (omega arith)
    go (got f r) (declined j) a e = absurd a
    go (got f r) (given x) a e =
        let q : take_of f ≡ t = cc in
        let k : places_needed (length f.properties.items) ≤ places = omega (arith, agreed_count a.1, a.1.inside.properties.ends) in
        subst (λ u. places_needed (length u.properties) ≤ places) q k
