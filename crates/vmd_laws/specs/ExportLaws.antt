-- Export and joining by places: what is written in terms of a scan, and how long it is.
use Rattle.std.specs.Prelude.{ℕ, ◌+◌, ◌≡◌, refl, ◌&&◌, List, [], ◌∷◌, ◌++◌, length, drop, leb}
use Rattle.std.proofs.Common.{ap, sym, ◌∙◌, subst, arith, length-append}
use Rattle.vmd_format.specs.Answer.{Answer, declined, given, and_then, map_answer}
use Rattle.vmd_format.specs.Records.{Property, bone, morph, camera, light, self_shadow}
use Rattle.vmd_format.specs.Read.{Step, refused, got, Manner}
use Rattle.vmd_format.specs.Take.{Take, File, take_of, Edition, read_file, answer, read_take, write_edition, write_take}
use Rattle.vmd_format.specs.Opening.{ik_total, Scan}
use Rattle.vmd_format.specs.Fetch.{model_of}
use Rattle.vmd_laws.specs.Places.{scan_file}
use Rattle.vmd_laws.specs.PlacesLaws.{table_length, section_in, frames_in}
use Rattle.vmd_laws.specs.ScanLaws.{frames_length, file_in, Inside, Matches, file_agrees}
use Rattle.vmd_laws.specs.OpeningLaws.{agreed_total}
use Rattle.vmd_format.specs.Join.{export_file, join, fits_u32, fit_together, join_takes, join_files, file_length}
use Rattle.vmd_laws.specs.Lengths.{edition_length}

-- the take of these places
unfoldable pub take_in : List ℕ → Scan → Take
take_in s x = take_of (file_in (model_of s) s x)

-- what a scan of a file says: its records lie in the file, and its IK states are those of its frames
pub record Scanned (s : List ℕ) (x : Scan) : Type 0 where
  pub inside : Inside s x
  pub ik_states : x.ik_states ≡ ik_total (frames_in s x.properties.count x.properties.place)

abbrev TakeMatches : List ℕ → Answer Take → Answer Scan → Type 0
TakeMatches s (declined k) (declined j) = k ≡ j
TakeMatches s (declined k) (given x) = ⊥
TakeMatches s (given t) (declined j) = ⊥
TakeMatches s (given t) (given x) = (t ≡ take_in s x) × Scanned s x

take_agrees : (m : Manner) (s : List ℕ) → TakeMatches s (read_take m s) (scan_file m s)
unfolding read_take answer take_in
take_agrees m s = go (read_file m s) (scan_file m s) (file_agrees m s)
  where
    go : (x : Step File) (y : Answer Scan) → Matches s (model_of s) x y → TakeMatches s (answer x) y
    go (refused k) (declined j) a = a
    go (refused k) (given x) a = a
    go (got f r) (declined j) a = a
    go (got f r) (given x) a = (
      ap take_of a.1.file ∙ ap (λ n. take_of (file_in n s x)) a.0,
      record { inside = a.1.inside; ik_states = agreed_total a.1 },
    )

-- a scan that is given
pub scan_scanned : (m : Manner) (s : List ℕ) (x : Scan) → scan_file m s ≡ given x → Scanned s x
scan_scanned m s x e = go (read_take m s) (scan_file m s) e (take_agrees m s)
  where
    go : (t : Answer Take) (y : Answer Scan) → y ≡ given x → TakeMatches s t y → Scanned s x
    go t (declined j) e a = let z : ◌≡◌ {A = ℕ} 0 1 = cc in absurd (omega arith)
    go (declined k) (given y) e a = absurd a
    go (given t) (given y) e a = let q : y ≡ x = cc in subst (Scanned s) q a.1

pub take_by_places : (m : Manner) (s : List ℕ) → read_take m s ≡ map_answer (take_in s) (scan_file m s)
unfolding map_answer
take_by_places m s = go (read_take m s) (scan_file m s) (take_agrees m s)
  where
    go : (t : Answer Take) (y : Answer Scan) → TakeMatches s t y → t ≡ map_answer (take_in s) y
    go (declined k) (declined j) a = ap declined a
    go (declined k) (given x) a = absurd a
    go (given t) (declined j) a = absurd a
    go (given t) (given x) a = ap given a.0

pub export_by_places : (m : Manner) (s : List ℕ) → export_file m s ≡ map_answer (λ x. write_take (take_in s x)) (scan_file m s)
unfolding export_file map_answer
export_by_places m s = rw (take_by_places m s) (go (scan_file m s))
  where
    go : (y : Answer Scan) → map_answer write_take (map_answer (take_in s) y) ≡ map_answer (λ x. write_take (take_in s x)) y
    go (declined k) = refl
    go (given x) = refl

pub join_by_places : (m : Manner) (a b : List ℕ)
    → join_files m a b ≡ and_then (scan_file m a) (λ x. and_then (scan_file m b) (λ y. join_takes (take_in a x) (take_in b y)))
unfolding join_files and_then map_answer
join_by_places m a b = rw (take_by_places m a, take_by_places m b) (go (scan_file m a) (scan_file m b))
  where
    go : (x y : Answer Scan)
        → and_then (map_answer (take_in a) x) (λ t. and_then (map_answer (take_in b) y) (λ u. join_takes t u))
        ≡ and_then x (λ x. and_then y (λ y. join_takes (take_in a x) (take_in b y)))
    go (declined k) y = refl
    go (given x) (declined k) = refl
    go (given x) (given y) = refl

-- ---- counts and lengths

-- the numbers of records that a scan has
pub record Counts (t : Take) (x : Scan) : Type 0 where
  pub bones : length t.bones ≡ x.bones.count
  pub morphs : length t.morphs ≡ x.morphs.count
  pub cameras : length t.cameras ≡ x.cameras.count
  pub lights : length t.lights ≡ x.lights.count
  pub self_shadows : length t.self_shadows ≡ x.self_shadows.count
  pub properties : length t.properties ≡ x.properties.count
  pub ik_states : ik_total t.properties ≡ x.ik_states

pub scan_counts : (s : List ℕ) (x : Scan) → Scanned s x → Counts (take_in s x) x
unfolding take_in take_of file_in section_in
scan_counts s x c = record {
  bones = table_length bone x.bones.count (drop x.bones.place s);
  morphs = table_length morph x.morphs.count (drop x.morphs.place s);
  cameras = table_length camera x.cameras.count (drop x.cameras.place s);
  lights = table_length light x.lights.count (drop x.lights.place s);
  self_shadows = table_length self_shadow x.self_shadows.count (drop x.self_shadows.place s);
  properties = frames_length s x.properties.count x.properties.place;
  ik_states = sym c.ik_states;
}

ik_append : (l m : List Property) → ik_total (l ++ m) ≡ ik_total l + ik_total m
unfolding ik_total
ik_append [] m = omega arith
ik_append (p ∷ l) m = omega (arith, ik_append l m)

pub scan_length : (e : Edition) (t : Take) (x : Scan) → Counts t x
    → length (write_edition e t)
    ≡ file_length e x.bones.count x.morphs.count x.cameras.count x.lights.count x.self_shadows.count x.properties.count x.ik_states
scan_length e t x c = edition_length e t ∙ rw (c.bones, c.morphs, c.cameras, c.lights, c.self_shadows, c.properties, c.ik_states)

pub join_length : (e : Edition) (t u : Take) (x y : Scan) → Counts t x → Counts u y
    → length (write_edition e (join t u))
    ≡ file_length e (x.bones.count + y.bones.count) (x.morphs.count + y.morphs.count) (x.cameras.count + y.cameras.count)
    (x.lights.count + y.lights.count) (x.self_shadows.count + y.self_shadows.count) (x.properties.count + y.properties.count)
    (x.ik_states + y.ik_states)
unfolding join
join_length e t u x y c d =
    edition_length e (join t u)
    ∙ rw (
      length-append t.bones u.bones,
      length-append t.morphs u.morphs,
      length-append t.cameras u.cameras,
      length-append t.lights u.lights,
      length-append t.self_shadows u.self_shadows,
      length-append t.properties u.properties,
      ik_append t.properties u.properties,
    )
    (rw (
      c.bones,
      c.morphs,
      c.cameras,
      c.lights,
      c.self_shadows,
      c.properties,
      c.ik_states,
      d.bones,
      d.morphs,
      d.cameras,
      d.lights,
      d.self_shadows,
      d.properties,
      d.ik_states,
    ))

-- the six sums of a join, in counts
pub join_fits : (t u : Take) (x y : Scan) → Counts t x → Counts u y
    → fit_together t u
    ≡ (leb (x.bones.count + y.bones.count) 4294967295 && leb (x.morphs.count + y.morphs.count) 4294967295
    && leb (x.cameras.count + y.cameras.count) 4294967295 && leb (x.lights.count + y.lights.count) 4294967295
    && leb (x.self_shadows.count + y.self_shadows.count) 4294967295 && leb (x.properties.count + y.properties.count) 4294967295)
unfolding fit_together fits_u32
join_fits t u x y c d =
    rw (c.bones, c.morphs, c.cameras, c.lights, c.self_shadows, c.properties, d.bones, d.morphs, d.cameras, d.lights, d.self_shadows, d.properties)
