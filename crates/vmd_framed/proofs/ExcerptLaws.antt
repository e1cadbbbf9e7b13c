-- Laws of an excerpt: of a section, and of a take.
use Rattle.std.specs.Prelude.{ℕ, ◌+◌, ◌-◌, ◌≤◌, ◌<◌, ◌^◌, min, ◌≡◌, Bool, length}
use Rattle.std.proofs.Math.Path.{refl, ap, ap₂}
use Rattle.std.proofs.Common.{sym, ◌∙◌}
use Rattle.std.proofs.Math.Bool.{true, false}
use Rattle.std.proofs.lemmas.Bool.{false≢true}
use mathlib.Core.List.{List, [], ◌∷◌, ◌++◌, map, map-append}
use native.Mathlib.Omega.{arith}
use Rattle.std.proofs.Math.ListN.{length-map}
use Rattle.vmd_format.specs.Characters.{between}
use Rattle.vmd_format.specs.Records.{Property}
use Rattle.vmd_format.specs.Take.{Take, newer, write_take}
use Rattle.vmd_format.specs.Opening.{ik_total}
use Rattle.vmd_format.specs.Join.{join, file_length}
use Rattle.vmd_laws.specs.CharacterLaws.{between_true, true_between}
use Rattle.vmd_laws.specs.ReadLaws.{All}
use Rattle.vmd_laws.specs.TakeLaws.{WellFormed}
use Rattle.vmd_laws.specs.JoinLaws.{Fit}
use Rattle.vmd_laws.specs.Lengths.{edition_length}
use Rattle.vmd_keys.specs.Names.{keep_if, select}
use Rattle.vmd_count.specs.DistinctLaws.{select_append, select_short}
use Rattle.vmd_framed.specs.Excerpt.{Framed, bone_framed, morph_framed, camera_framed, light_framed, self_shadow_framed, property_framed, moved, excerpt_section, excerpt}

-- ---- between

not_between : (first last n : ℕ) → (first ≤ n → n ≤ last → ⊥) → between first last n ≡ false
not_between first last n h = go (between first last n) refl
  where
    go : (b : Bool) → between first last n ≡ b → b ≡ false
    go true e = let p = between_true first last n e in absurd (h p.0 p.1)
    go false e = refl

-- a frame between two, of which the first is subtracted, and then between two others
between_twice : (f l g k n : ℕ) → between f l n ≡ true → between g k (n - f) ≡ between (f + g) (min l (f + k)) n
between_twice f l g k n e = go (between g k (n - f)) refl (between_true f l n e)
  where
    go : (b : Bool) → between g k (n - f) ≡ b → (f ≤ n) × (n ≤ l) → b ≡ between (f + g) (min l (f + k)) n
    go true d p = let q = between_true g k (n - f) d in sym (true_between _ _ _ (omega arith) (omega arith))
    go false d p = sym (not_between _ _ _ (λ x y. false≢true (sym d ∙ true_between g k (n - f) (omega arith) (omega arith))))

between_neither : (f l g k n : ℕ) → between f l n ≡ false → between (f + g) (min l (f + k)) n ≡ false
between_neither f l g k n e = not_between _ _ _ (λ x y. false≢true (sym e ∙ true_between f l n (omega arith) (omega arith)))

-- ---- a section

-- the frame of a record at another frame, and the other way round
pub record Frames {A : Type 0} (F : Framed A) : Type 0 where
  pub put : (n : ℕ) (a : A) → F.frame (F.at_frame n a) ≡ n
  pub again : (n k : ℕ) (a : A) → F.at_frame n (F.at_frame k a) ≡ F.at_frame n a
  pub own : (a : A) → F.at_frame (F.frame a) a ≡ a

module _ {A : Type 0} (F : Framed A) (first last : ℕ) where
  pub first_kept : (a : A) (l : List A) → between first last (F.frame a) ≡ true
      → excerpt_section F first last (a ∷ l) ≡ moved F first a ∷ excerpt_section F first last l
  unfolding excerpt_section select keep_if
  first_kept a l e = rw e

  pub first_dropped : (a : A) (l : List A) → between first last (F.frame a) ≡ false
      → excerpt_section F first last (a ∷ l) ≡ excerpt_section F first last l
  unfolding excerpt_section select keep_if
  first_dropped a l e = rw e

  pub section_append : (l m : List A) → excerpt_section F first last (l ++ m) ≡ excerpt_section F first last l ++ excerpt_section F first last m
  unfolding excerpt_section
  section_append l m = ap (map (moved F first)) (select_append _ l m)
      ∙ map-append (moved F first) (select (λ a. between first last (F.frame a)) l) (select (λ a. between first last (F.frame a)) m)

  pub all_kept : (l : List A) → All (λ a. between first last (F.frame a) ≡ true) l → excerpt_section F first last l ≡ map (moved F first) l
  all_kept [] h = unfold excerpt_section select in refl
  all_kept (a ∷ l) h = first_kept a l h.0 ∙ ap {B = List A} (λ r. moved F first a ∷ r) (all_kept l h.1)

  pub none_kept : (l : List A) → All (λ a. between first last (F.frame a) ≡ false) l → excerpt_section F first last l ≡ []
  none_kept [] h = unfold excerpt_section select in refl
  none_kept (a ∷ l) h = first_dropped a l h.0 ∙ none_kept l h.1

  pub section_short : (l : List A) → length (excerpt_section F first last l) ≤ length l
  unfolding excerpt_section
  section_short l =
      let e = length-map (select (λ a. between first last (F.frame a)) l) (moved F first) in
      omega (arith, select_short (λ a. between first last (F.frame a)) l)

  -- what holds of every record, and of it at an earlier frame, holds of what stays
  pub all_moved : (G : A → Type 0) → ((a : A) (n : ℕ) → n ≤ F.frame a → G a → G (F.at_frame n a)) → (l : List A) → All G l → All G (excerpt_section F first last l)
  all_moved G k [] h = unfold excerpt_section select in tt
  all_moved G k (a ∷ l) h = go (between first last (F.frame a)) refl (all_moved G k l h.1)
    where
      go : (b : Bool) → between first last (F.frame a) ≡ b → All G (excerpt_section F first last l) → All G (excerpt_section F first last (a ∷ l))
      go true e r = rw (first_kept a l e) (unfold moved in (k a (F.frame a - first) (omega arith) h.0, r))
      go false e r = rw (first_dropped a l e) r

module _ {A : Type 0} {F : Framed A} (w : Frames F) where
  -- "An excerpt from 0 to 4,294,967,295"
  pub section_whole : (l : List A) → All (λ a. F.frame a < 2 ^ 32) l → excerpt_section F 0 4294967295 l ≡ l
  section_whole [] h = unfold excerpt_section select in refl
  section_whole (a ∷ l) h =
      first_kept F 0 4294967295 a l (true_between 0 4294967295 (F.frame a) (omega arith) (omega (arith, h.0)))
      ∙ ap₂ {C = List A} (λ b r. b ∷ r) (unfold moved in ap (λ (n : ℕ). F.at_frame n a) (omega arith) ∙ w.own a) (section_whole l h.1)

  moved_twice : (f g : ℕ) (a : A) → moved F g (moved F f a) ≡ moved F (f + g) a
  unfolding moved
  moved_twice f g a =
      ap (λ (n : ℕ). F.at_frame (n - g) (F.at_frame (F.frame a - f) a)) (w.put (F.frame a - f) a)
      ∙ w.again (F.frame a - f - g) (F.frame a - f) a ∙ ap (λ (n : ℕ). F.at_frame n a) (omega arith)

  -- an excerpt of an excerpt
  pub section_twice : (f l g k : ℕ) (s : List A) → excerpt_section F g k (excerpt_section F f l s) ≡ excerpt_section F (f + g) (min l (f + k)) s
  section_twice f l g k [] = unfold excerpt_section select in refl
  section_twice f l g k (a ∷ s) = go (between f l (F.frame a)) refl (section_twice f l g k s)
    where
      both : List A → List A
      both t = excerpt_section F g k (excerpt_section F f l t)

      once : List A → List A
      once t = excerpt_section F (f + g) (min l (f + k)) t

      same : between f l (F.frame a) ≡ true → between g k (F.frame (moved F f a)) ≡ between (f + g) (min l (f + k)) (F.frame a)
      same e = unfold moved in (rw (w.put (F.frame a - f) a) (between_twice f l g k (F.frame a) e))

      inner : (b : Bool) → between g k (F.frame (moved F f a)) ≡ b → between (f + g) (min l (f + k)) (F.frame a) ≡ b → both s ≡ once s
          → excerpt_section F g k (moved F f a ∷ excerpt_section F f l s) ≡ once (a ∷ s)
      inner true d e r =
          first_kept F g k (moved F f a) (excerpt_section F f l s) d ∙ ap₂ {C = List A} (λ b t. b ∷ t) (moved_twice f g a) r
          ∙ sym (first_kept F (f + g) (min l (f + k)) a s e)
      inner false d e r =
          first_dropped F g k (moved F f a) (excerpt_section F f l s) d ∙ r ∙ sym (first_dropped F (f + g) (min l (f + k)) a s e)

      go : (b : Bool) → between f l (F.frame a) ≡ b → both s ≡ once s → both (a ∷ s) ≡ once (a ∷ s)
      go true e r =
          ap (excerpt_section F g k) (first_kept F f l a s e) ∙ inner (between g k (F.frame (moved F f a))) refl (sym (same e)) r
      go false e r =
          ap (excerpt_section F g k) (first_dropped F f l a s e) ∙ r
          ∙ sym (first_dropped F (f + g) (min l (f + k)) a s (between_neither f l g k (F.frame a) e))

-- no frame lies between two of which the first is above the last
pub section_none : {A : Type 0} (F : Framed A) (first last : ℕ) → last < first → (l : List A) → excerpt_section F first last l ≡ []
section_none F first last h [] = unfold excerpt_section select in refl
section_none F first last h (a ∷ l) = first_dropped F first last a l (not_between first last (F.frame a) (λ x y. omega arith)) ∙ section_none F first last h l

-- ---- the kinds

pub bone_frames : Frames bone_framed
unfolding bone_framed
bone_frames = record { put = λ n a. refl; again = λ n k a. refl; own = λ a. refl }

pub morph_frames : Frames morph_framed
unfolding morph_framed
morph_frames = record { put = λ n a. refl; again = λ n k a. refl; own = λ a. refl }

pub camera_frames : Frames camera_framed
unfolding camera_framed
camera_frames = record { put = λ n a. refl; again = λ n k a. refl; own = λ a. refl }

pub light_frames : Frames light_framed
unfolding light_framed
light_frames = record { put = λ n a. refl; again = λ n k a. refl; own = λ a. refl }

pub self_shadow_frames : Frames self_shadow_framed
unfolding self_shadow_framed
self_shadow_frames = record { put = λ n a. refl; again = λ n k a. refl; own = λ a. refl }

pub property_frames : Frames property_framed
unfolding property_framed
property_frames = record { put = λ n a. refl; again = λ n k a. refl; own = λ a. refl }

-- ---- a take

-- a take of a model name and no records
unfoldable pub name_only : List ℕ → Take
name_only n = record { model = n; bones = []; morphs = []; cameras = []; lights = []; self_shadows = []; properties = [] }

module _ (first last : ℕ) where
  -- "The excerpt of a join .. equals the join of the excerpts."
  pub excerpt_join : (t u : Take) → excerpt first last (join t u) ≡ join (excerpt first last t) (excerpt first last u)
  unfolding excerpt join
  excerpt_join t u =
      rw (
        section_append bone_framed first last t.bones u.bones,
        section_append morph_framed first last t.morphs u.morphs,
        section_append camera_framed first last t.cameras u.cameras,
        section_append light_framed first last t.lights u.lights,
        section_append self_shadow_framed first last t.self_shadows u.self_shadows,
        section_append property_framed first last t.properties u.properties,
      )

  -- no section has more records
  pub excerpt_fit : {t u : Take} → Fit t u → Fit (excerpt first last t) (excerpt first last u)
  unfolding excerpt
  excerpt_fit {t} {u} f = record {
    bones = omega (arith, f.bones, section_short bone_framed first last t.bones, section_short bone_framed first last u.bones);
    morphs = omega (arith, f.morphs, section_short morph_framed first last t.morphs, section_short morph_framed first last u.morphs);
    cameras = omega (arith, f.cameras, section_short camera_framed first last t.cameras, section_short camera_framed first last u.cameras);
    lights = omega (arith, f.lights, section_short light_framed first last t.lights, section_short light_framed first last u.lights);
    self_shadows = omega (arith, f.self_shadows, section_short self_shadow_framed first last t.self_shadows, section_short self_shadow_framed first last u.self_shadows);
    properties = omega (arith, f.properties, section_short property_framed first last t.properties, section_short property_framed first last u.properties);
  }

  section_formed : {A : Type 0} (F : Framed A) (G : A → Type 0) → ((a : A) (n : ℕ) → n ≤ F.frame a → G a → G (F.at_frame n a)) → (l : List A)
      → (length l < 2 ^ 32) × All G l → (length (excerpt_section F first last l) < 2 ^ 32) × All G (excerpt_section F first last l)
  section_formed F G k l h = (omega (arith, h.0, section_short F first last l), all_moved F first last G k l h.1)

  pub excerpt_well_formed : {t : Take} → WellFormed t → WellFormed (excerpt first last t)
  unfolding excerpt bone_framed morph_framed camera_framed light_framed self_shadow_framed property_framed
  excerpt_well_formed {t} w = record {
    model = w.model;
    bones = section_formed bone_framed _ (λ a n h g. (g.0, (omega (arith, g.1.0), g.1.1))) t.bones w.bones;
    morphs = section_formed morph_framed _ (λ a n h g. (g.0, (omega (arith, g.1.0), g.1.1))) t.morphs w.morphs;
    cameras = section_formed camera_framed _ (λ a n h g. (omega (arith, g.0), g.1)) t.cameras w.cameras;
    lights = section_formed light_framed _ (λ a n h g. (omega (arith, g.0), g.1)) t.lights w.lights;
    self_shadows = section_formed self_shadow_framed _ (λ a n h g. (omega (arith, g.0), g.1)) t.self_shadows w.self_shadows;
    properties = section_formed property_framed _ (λ a n h g. (omega (arith, g.0), g.1, g.2)) t.properties w.properties;
  }

  states_fewer : (l : List Property) → ik_total (excerpt_section property_framed first last l) ≤ ik_total l
  unfolding ik_total
  states_fewer [] = unfold excerpt_section select in (omega arith)
  states_fewer (p ∷ l) = go (between first last (property_framed.frame p)) refl (states_fewer l)
    where
      go : (b : Bool) → between first last (property_framed.frame p) ≡ b → ik_total (excerpt_section property_framed first last l) ≤ ik_total l
          → ik_total (excerpt_section property_framed first last (p ∷ l)) ≤ ik_total (p ∷ l)
      go true e r = rw (first_kept property_framed first last p l e) (unfold moved property_framed in (omega (arith, r)))
      go false e r = rw (first_dropped property_framed first last p l e) (omega (arith, r))

  -- an excerpt is not longer than the export
  pub never_longer : (t : Take) → length (write_take (excerpt first last t)) ≤ length (write_take t)
  unfolding write_take excerpt file_length
  never_longer t =
      omega (
        arith,
        edition_length newer (excerpt first last t),
        edition_length newer t,
        section_short bone_framed first last t.bones,
        section_short morph_framed first last t.morphs,
        section_short camera_framed first last t.cameras,
        section_short light_framed first last t.lights,
        section_short self_shadow_framed first last t.self_shadows,
        section_short property_framed first last t.properties,
        states_fewer t.properties,
      )

  -- where the first frame is above the last, nothing stays but the model name
  pub excerpt_none : last < first → (t : Take) → excerpt first last t ≡ name_only t.model
  unfolding excerpt name_only
  excerpt_none h t =
      rw (
        section_none bone_framed first last h t.bones,
        section_none morph_framed first last h t.morphs,
        section_none camera_framed first last h t.cameras,
        section_none light_framed first last h t.lights,
        section_none self_shadow_framed first last h t.self_shadows,
        section_none property_framed first last h t.properties,
      )

all_frames : {A : Type 0} (F : Framed A) (G : A → Type 0) → ((a : A) → G a → F.frame a < 2 ^ 32) → (l : List A) → All G l → All (λ a. F.frame a < 2 ^ 32) l
all_frames F G k [] h = tt
all_frames F G k (a ∷ l) h = (k a h.0, all_frames F G k l h.1)

-- "An excerpt from 0 to 4,294,967,295 is the export."
pub excerpt_whole : {t : Take} → WellFormed t → excerpt 0 4294967295 t ≡ t
unfolding excerpt bone_framed morph_framed camera_framed light_framed self_shadow_framed property_framed
excerpt_whole {t} w =
    rw (
      section_whole bone_frames t.bones (all_frames bone_framed _ (λ a g. g.1.0) t.bones w.bones.1),
      section_whole morph_frames t.morphs (all_frames morph_framed _ (λ a g. g.1.0) t.morphs w.morphs.1),
      section_whole camera_frames t.cameras (all_frames camera_framed _ (λ a g. g.0) t.cameras w.cameras.1),
      section_whole light_frames t.lights (all_frames light_framed _ (λ a g. g.0) t.lights w.lights.1),
      section_whole self_shadow_frames t.self_shadows (all_frames self_shadow_framed _ (λ a g. g.0) t.self_shadows w.self_shadows.1),
      section_whole property_frames t.properties (all_frames property_framed _ (λ a g. g.0) t.properties w.properties.1),
    )

-- an excerpt of an excerpt
pub excerpt_twice : (f l g k : ℕ) (t : Take) → excerpt g k (excerpt f l t) ≡ excerpt (f + g) (min l (f + k)) t
unfolding excerpt
excerpt_twice f l g k t =
    rw (
      section_twice bone_frames f l g k t.bones,
      section_twice morph_frames f l g k t.morphs,
      section_twice camera_frames f l g k t.cameras,
      section_twice light_frames f l g k t.lights,
      section_twice self_shadow_frames f l g k t.self_shadows,
      section_twice property_frames f l g k t.properties,
    )
