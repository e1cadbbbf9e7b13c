-- Laws of tidied takes, for every way of cutting names.
use Rattle.std.specs.Prelude.{ℕ, ◌+◌, ◌≤◌, ◌<◌, ◌^◌, ◌≡◌, refl}
use mathlib.Core.List.{List, [], ◌∷◌}
use Rattle.std.proofs.Common.{arith}
use Rattle.std.proofs.Math.ListN.{length}
use Rattle.vmd_laws.specs.ReadLaws.{All}
use Rattle.vmd_format.specs.Records.{Property}
use Rattle.vmd_format.specs.Take.{Take, write_take}
use Rattle.vmd_laws.specs.TakeLaws.{WellFormed}
use Rattle.vmd_format.specs.Opening.{ik_total}
use Rattle.vmd_format.specs.Join.{join}
use Rattle.vmd_laws.specs.JoinLaws.{Fit}
use Rattle.vmd_laws.specs.Lengths.{export_length}
use Rattle.vmd_tracks.specs.Tracks.{tidy_section, one_track}
use Rattle.vmd_tracks.proofs.TrackLaws.{tidy_section_twice, tidy_section_join, all_tidy}
use Rattle.vmd_tracks.proofs.DroppedLaws.{sum_over, made_up, kept_and_dropped}
use Rattle.vmd_keys.specs.Names.{registration_name}
use Rattle.vmd_count.specs.DistinctLaws.{Member}
use Rattle.vmd_tracks.proofs.RankedLaws.{members}
use Rattle.vmd_tracks.specs.Tidy.{tidy_by, tidy}
use Rattle.vmd_tidy.specs.Tidied.{Counts, counts_of, dropped_by, tidied_file}

-- each record of the second take is one of the first's, in every field
pub record AllOf (t u : Take) : Type 0 where
  pub bones : All (λ b. Member b t.bones) u.bones
  pub morphs : All (λ m. Member m t.morphs) u.morphs
  pub cameras : All (λ c. Member c t.cameras) u.cameras
  pub lights : All (λ l. Member l t.lights) u.lights
  pub self_shadows : All (λ s. Member s t.self_shadows) u.self_shadows
  pub properties : All (λ p. Member p t.properties) u.properties

module _ (cut : List ℕ → List ℕ) where
  -- LAW: tidying twice is tidying once
  pub tidy_twice : (t : Take) → tidy_by cut (tidy_by cut t) ≡ tidy_by cut t
  unfolding tidy_by
  tidy_twice t = simp (tidy_section_twice)

  -- LAW: tidying a join is tidying the join of the two tidied takes
  pub tidy_join : (t u : Take) → tidy_by cut (join (tidy_by cut t) (tidy_by cut u)) ≡ tidy_by cut (join t u)
  unfolding tidy_by join
  tidy_join t u = simp (tidy_section_join)

  section_tidy : {A : Type 0} (key : A → List ℕ) (frame : A → ℕ) (G : A → Type 0) (l : List A)
      → (length l < 2 ^ 32) × All G l → (length (tidy_section key frame l) < 2 ^ 32) × All G (tidy_section key frame l)
  section_tidy key frame G l h = (omega (arith, kept_and_dropped key frame l), all_tidy key frame G l h.1)

  pub tidy_well_formed : {t : Take} → WellFormed t → WellFormed (tidy_by cut t)
  unfolding tidy_by
  tidy_well_formed {t} w = record {
    model = w.model;
    bones = section_tidy _ _ _ t.bones w.bones;
    morphs = section_tidy _ _ _ t.morphs w.morphs;
    cameras = section_tidy _ _ _ t.cameras w.cameras;
    lights = section_tidy _ _ _ t.lights w.lights;
    self_shadows = section_tidy _ _ _ t.self_shadows w.self_shadows;
    properties = section_tidy _ _ _ t.properties w.properties;
  }

  pub tidy_fit : {t u : Take} → Fit t u → Fit (tidy_by cut t) (tidy_by cut u)
  unfolding tidy_by
  tidy_fit {t} {u} f = record {
    bones = shorter _ _ t.bones u.bones f.bones;
    morphs = shorter _ _ t.morphs u.morphs f.morphs;
    cameras = shorter _ _ t.cameras u.cameras f.cameras;
    lights = shorter _ _ t.lights u.lights f.lights;
    self_shadows = shorter _ _ t.self_shadows u.self_shadows f.self_shadows;
    properties = shorter _ _ t.properties u.properties f.properties;
  }
    where
      shorter : {A : Type 0} (key : A → List ℕ) (frame : A → ℕ) (l m : List A) → length l + length m ≤ 4294967295
          → length (tidy_section key frame l) + length (tidy_section key frame m) ≤ 4294967295
      shorter key frame l m h = omega (arith, kept_and_dropped key frame l, kept_and_dropped key frame m)

  -- LAW: "kept and dropped together make up the records read"
  pub record Together (t : Take) (k d : Counts) : Type 0 where
    pub bones : k.bones + d.bones ≡ length t.bones
    pub morphs : k.morphs + d.morphs ≡ length t.morphs
    pub cameras : k.cameras + d.cameras ≡ length t.cameras
    pub lights : k.lights + d.lights ≡ length t.lights
    pub self_shadows : k.self_shadows + d.self_shadows ≡ length t.self_shadows
    pub properties : k.properties + d.properties ≡ length t.properties

  pub tidy_together : (t : Take) → Together t (counts_of (tidy_by cut t)) (dropped_by cut t)
  unfolding tidy_by counts_of dropped_by
  tidy_together t = record {
    bones = kept_and_dropped _ _ t.bones;
    morphs = kept_and_dropped _ _ t.morphs;
    cameras = kept_and_dropped _ _ t.cameras;
    lights = kept_and_dropped _ _ t.lights;
    self_shadows = kept_and_dropped _ _ t.self_shadows;
    properties = kept_and_dropped _ _ t.properties;
  }

  -- LAW: "A tidied record keeps its full name" (02 k)
  pub tidy_members : (t : Take) → AllOf t (tidy_by cut t)
  unfolding tidy_by
  tidy_members t = record {
    bones = section_members _ _ t.bones;
    morphs = section_members _ _ t.morphs;
    cameras = section_members _ _ t.cameras;
    lights = section_members _ _ t.lights;
    self_shadows = section_members _ _ t.self_shadows;
    properties = section_members _ _ t.properties;
  }
    where
      section_members : {A : Type 0} (key : A → List ℕ) (frame : A → ℕ) (l : List A) → All (λ a. Member a l) (tidy_section key frame l)
      section_members key frame l = all_tidy key frame (λ a. Member a l) l (members l)

-- ---- a tidied file is never longer than the export

states_sum : (l : List Property) → ik_total l ≡ sum_over (λ p. length p.ik_states) l
unfolding ik_total sum_over
states_sum [] = refl
states_sum (p ∷ l) = rw (states_sum l)

fewer_states : (l : List Property) → ik_total (tidy_section one_track (λ p. p.frame) l) ≤ ik_total l
fewer_states l =
    let k = tidy_section one_track (λ p. p.frame) l in
    omega (arith, states_sum k, states_sum l, made_up one_track (λ p. p.frame) (λ p. length p.ik_states) l)

-- LAW: a tidied take is not written longer, for every way of cutting names
pub never_longer_by : (cut : List ℕ → List ℕ) (t : Take) → length (write_take (tidy_by cut t)) ≤ length (write_take t)
unfolding counts_of
never_longer_by cut t =
    let k = tidy_together cut t in
    let states : ik_total (tidy_by cut t).properties ≤ ik_total t.properties = (unfold tidy_by in fewer_states t.properties) in
    omega (arith, states, export_length t, export_length (tidy_by cut t), k.bones, k.morphs, k.cameras, k.lights, k.self_shadows, k.properties)

-- LAW: an output of the export's length can hold the tidied file
pub never_longer : (t : Take) → length (tidied_file t) ≤ length (write_take t)
unfolding tidied_file tidy
never_longer t = never_longer_by registration_name t
