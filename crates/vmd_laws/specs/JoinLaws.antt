-- What joined takes come to: well formed, with the empty take on either side, three together.
use Rattle.std.specs.Prelude.{ℕ, ◌+◌, ◌≤◌, ◌<◌, ◌^◌, ◌≡◌, refl, true, List, [], ◌∷◌, ◌++◌, length}
use Rattle.std.proofs.Math.Bool.{and-eq-true_iff}
use Rattle.std.proofs.Common.{append_assoc, append-nil, arith, le-leb, leb-true, length-append}
use Rattle.vmd_laws.specs.BytesLaws.{Name}
use Rattle.vmd_laws.specs.ReadLaws.{All, all_append}
use Rattle.vmd_format.specs.Take.{Take}
use Rattle.vmd_laws.specs.TakeLaws.{WellFormed}
use Rattle.vmd_format.specs.Join.{joined_model, join, fits_u32, fit_together}

-- "The counts of two takes added up fit 32 bits when, section by section, each of the six sums of their numbers of records
-- is at most 4,294,967,295."
pub record Fit (t u : Take) : Type 0 where
  pub bones : length t.bones + length u.bones ≤ 4294967295
  pub morphs : length t.morphs + length u.morphs ≤ 4294967295
  pub cameras : length t.cameras + length u.cameras ≤ 4294967295
  pub lights : length t.lights + length u.lights ≤ 4294967295
  pub self_shadows : length t.self_shadows + length u.self_shadows ≤ 4294967295
  pub properties : length t.properties + length u.properties ≤ 4294967295

-- the same of three takes
pub record Fit₃ (t u v : Take) : Type 0 where
  pub bones : length t.bones + length u.bones + length v.bones ≤ 4294967295
  pub morphs : length t.morphs + length u.morphs + length v.morphs ≤ 4294967295
  pub cameras : length t.cameras + length u.cameras + length v.cameras ≤ 4294967295
  pub lights : length t.lights + length u.lights + length v.lights ≤ 4294967295
  pub self_shadows : length t.self_shadows + length u.self_shadows + length v.self_shadows ≤ 4294967295
  pub properties : length t.properties + length u.properties + length v.properties ≤ 4294967295

-- "an accepted take of no records and no model name"
unfoldable pub empty : Take
empty = record { model = []; bones = []; morphs = []; cameras = []; lights = []; self_shadows = []; properties = [] }

model_name : (m n : List ℕ) → Name 20 m → Name 20 n → Name 20 (joined_model m n)
unfolding joined_model
model_name [] n h k = k
model_name (b ∷ m) n h k = h

section_join : {A : Type 0} (G : A → Type 0) (l m : List A) → length l + length m ≤ 4294967295
    → (length l < 2 ^ 32) × All G l → (length m < 2 ^ 32) × All G m → (length (l ++ m) < 2 ^ 32) × All G (l ++ m)
section_join G l m n h k = (simp length-append (omega arith), all_append G l m h.1 k.1)

pub join_well_formed : {t u : Take} → Fit t u → WellFormed t → WellFormed u → WellFormed (join t u)
unfolding join
join_well_formed {t} {u} f w v = record {
  model = model_name t.model u.model w.model v.model;
  bones = section_join _ t.bones u.bones f.bones w.bones v.bones;
  morphs = section_join _ t.morphs u.morphs f.morphs w.morphs v.morphs;
  cameras = section_join _ t.cameras u.cameras f.cameras w.cameras v.cameras;
  lights = section_join _ t.lights u.lights f.lights w.lights v.lights;
  self_shadows = section_join _ t.self_shadows u.self_shadows f.self_shadows w.self_shadows v.self_shadows;
  properties = section_join _ t.properties u.properties f.properties w.properties v.properties;
}

-- the test of the six sums is what it tests
pub fit_test : {t u : Take} → Fit t u → fit_together t u ≡ true
unfolding fit_together fits_u32
fit_test {t} {u} f =
    rw (le-leb _ _ f.bones, le-leb _ _ f.morphs, le-leb _ _ f.cameras, le-leb _ _ f.lights, le-leb _ _ f.self_shadows, le-leb _ _ f.properties)

pub test_fit : (t u : Take) → fit_together t u ≡ true → Fit t u
unfolding fit_together fits_u32
test_fit t u e =
    let p = (and-eq-true_iff _ _).0 e in
    let s = (and-eq-true_iff _ _).0 p.0 in
    let l = (and-eq-true_iff _ _).0 s.0 in
    let c = (and-eq-true_iff _ _).0 l.0 in
    let m = (and-eq-true_iff _ _).0 c.0 in
    record {
      bones = leb-true _ _ m.0;
      morphs = leb-true _ _ m.1;
      cameras = leb-true _ _ c.1;
      lights = leb-true _ _ l.1;
      self_shadows = leb-true _ _ s.1;
      properties = leb-true _ _ p.1;
    }

pub join_empty_left : (t : Take) → join empty t ≡ t
unfolding join empty joined_model
join_empty_left t = refl

model_nil : (m : List ℕ) → joined_model m [] ≡ m
unfolding joined_model
model_nil [] = refl
model_nil (b ∷ m) = refl

pub join_empty_right : (t : Take) → join t empty ≡ t
unfolding join empty
join_empty_right t = simp (append-nil, model_nil)

model_assoc : (m n o : List ℕ) → joined_model (joined_model m n) o ≡ joined_model m (joined_model n o)
unfolding joined_model
model_assoc [] n o = refl
model_assoc (b ∷ m) n o = refl

pub join_assoc : (t u v : Take) → join (join t u) v ≡ join t (join u v)
unfolding join
join_assoc t u v = simp (append_assoc, model_assoc)

pub fit_left : {t : Take} → WellFormed t → Fit empty t
unfolding empty
fit_left w = omega arith

pub fit_right : {t : Take} → WellFormed t → Fit t empty
unfolding empty
fit_right w = omega arith

pub fit_first : {t u v : Take} → Fit₃ t u v → Fit t u
fit_first f = omega (arith, f)

pub fit_last : {t u v : Take} → Fit₃ t u v → Fit u v
fit_last f = omega (arith, f)

-- the lengths of a joined take's sections
joined_lengths : (t u : Take) → (length (t.bones ++ u.bones) ≡ length t.bones + length u.bones)
    × (length (t.morphs ++ u.morphs) ≡ length t.morphs + length u.morphs)
    × (length (t.cameras ++ u.cameras) ≡ length t.cameras + length u.cameras)
    × (length (t.lights ++ u.lights) ≡ length t.lights + length u.lights)
    × (length (t.self_shadows ++ u.self_shadows) ≡ length t.self_shadows + length u.self_shadows)
    × (length (t.properties ++ u.properties) ≡ length t.properties + length u.properties)
joined_lengths t u = search length-append

pub fit_then : {t u v : Take} → Fit₃ t u v → Fit (join t u) v
unfolding join
fit_then {t} {u} {v} f = omega (arith, f, joined_lengths t u)

pub fit_before : {t u v : Take} → Fit₃ t u v → Fit t (join u v)
unfolding join
fit_before {t} {u} {v} f = omega (arith, f, joined_lengths u v)
