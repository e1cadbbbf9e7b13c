-- "as `last_vmd_keys_per_frame` does": that function step by step, and that a track's last records by frame are what it gives.
use Rattle.std.specs.Prelude.{ℕ, ◌/◌, ◌≤◌, ◌<◌, ◌≡◌, Bool, true, false, leb, eqb}
use Rattle.std.proofs.Math.Path.{refl, ap, sym}
use Rattle.std.proofs.Common.{◌∙◌, le-leb, eq-eqb, ne_eqb}
use mathlib.Core.List.{List, [], ◌∷◌}
use native.Mathlib.Omega.{arith}
use Rattle.std.proofs.Math.Decide.{ℕ_discrete}
use Rattle.std.proofs.lemmas.Bool.{lt-leb}
use Rattle.vmd_tracks.specs.Tracks.{put, put_all, lasts}
use Rattle.vmd_tracks.proofs.TrackLaws.{Order, before, level, after, order, put_lt, put_eq, put_gt}

-- ---- the original

-- `keys.reverse()`
unfoldable pub turned_onto : {A : Type 0} → List A → List A → List A
turned_onto [] r = r
turned_onto (a ∷ l) r = turned_onto l (a ∷ r)

abbrev pub turned : {A : Type 0} → List A → List A
turned l = turned_onto l []

-- `keys.sort_by_key(&frame)`, "stable: the last file record is now first": records of one frame stay in their order
unfoldable pub insert_if : {A : Type 0} → Bool → A → A → List A → List A → List A
insert_if true a b l r = a ∷ b ∷ l
insert_if false a b l r = b ∷ r

unfoldable pub insert : {A : Type 0} → (A → ℕ) → A → List A → List A
insert frame a [] = a ∷ []
insert frame a (b ∷ l) = insert_if (leb (frame a) (frame b)) a b l (insert frame a l)

unfoldable pub sorted : {A : Type 0} → (A → ℕ) → List A → List A
sorted frame [] = []
sorted frame (a ∷ l) = insert frame a (sorted frame l)

-- `keys.dedup_by_key(|key| frame(key))`: of records of one frame in a row the first
unfoldable pub other_if : {A : Type 0} → Bool → A → List A → List A → List A
other_if true b l r = l
other_if false b l r = b ∷ r

unfoldable pub after_frame : {A : Type 0} → (A → ℕ) → ℕ → List A → List A
after_frame frame f [] = []
after_frame frame f (b ∷ l) = other_if (eqb f (frame b)) b (after_frame frame f l) (after_frame frame (frame b) l)

unfoldable pub dedup : {A : Type 0} → (A → ℕ) → List A → List A
dedup frame [] = []
dedup frame (a ∷ l) = a ∷ after_frame frame (frame a) l

-- `last_vmd_keys_per_frame`
abbrev pub last_keys_per_frame : {A : Type 0} → (A → ℕ) → List A → List A
last_keys_per_frame frame keys = dedup frame (sorted frame (turned keys))

-- ---- its steps

module _ {A : Type 0} (frame : A → ℕ) where
  insert_le : (a b : A) (l : List A) → frame a ≤ frame b → insert frame a (b ∷ l) ≡ a ∷ b ∷ l
  unfolding insert insert_if
  insert_le a b l h = rw (le-leb (frame a) (frame b) h)

  insert_gt : (a b : A) (l : List A) → frame b < frame a → insert frame a (b ∷ l) ≡ b ∷ insert frame a l
  unfolding insert insert_if
  insert_gt a b l h = rw (lt-leb (frame a) (frame b) h)

  same_frame : (f : ℕ) (b : A) (l : List A) → f ≡ frame b → after_frame frame f (b ∷ l) ≡ after_frame frame f l
  unfolding after_frame other_if
  same_frame f b l h = rw (eq-eqb f (frame b) h)

  other_frame : (f : ℕ) (b : A) (l : List A) → ¬ (f ≡ frame b) → after_frame frame f (b ∷ l) ≡ b ∷ after_frame frame (frame b) l
  unfolding after_frame other_if
  other_frame f b l h = rw (ne_eqb f (frame b) h)

  -- a record of a later frame, after those of one
  after_insert : (f : ℕ) (a : A) (l : List A) → f < frame a → after_frame frame f (insert frame a l) ≡ put frame a (after_frame frame f l)
  after_insert f a [] h = unfold insert put in other_frame f a [] (λ (e : f ≡ frame a). omega arith) ∙ (unfold after_frame in refl)
  after_insert f a (c ∷ l) h = go (order frame a c) (ℕ_discrete f (frame c)) (after_insert f a l h) (λ k. after_insert (frame c) a l k)
    where
      far : frame a ≤ frame c → ¬ (f ≡ frame c)
      far k = λ (e : f ≡ frame c). omega arith

      go : Order frame a c → Dec (f ≡ frame c) → after_frame frame f (insert frame a l) ≡ put frame a (after_frame frame f l)
          → (frame c < frame a → after_frame frame (frame c) (insert frame a l) ≡ put frame a (after_frame frame (frame c) l))
          → after_frame frame f (insert frame a (c ∷ l)) ≡ put frame a (after_frame frame f (c ∷ l))
      go (before q) d e k =
          rw (
            insert_le a c l (omega arith),
            other_frame f a (c ∷ l) (λ (e : f ≡ frame a). omega arith),
            other_frame (frame a) c l (λ (e : frame a ≡ frame c). omega arith),
            other_frame f c l (far (omega arith)),
            put_lt frame a c (after_frame frame (frame c) l) q,
          )
      go (level q) d e k =
          rw (
            insert_le a c l (omega arith),
            other_frame f a (c ∷ l) (λ (e : f ≡ frame a). omega arith),
            same_frame (frame a) c l q,
            other_frame f c l (far (omega arith)),
            put_eq frame a c (after_frame frame (frame c) l) q,
            q,
          )
      go (after q) (yes d) e k = rw (insert_gt a c l q, same_frame f c (insert frame a l) d, same_frame f c l d) e
      go (after q) (no d) e k =
          rw (insert_gt a c l q, other_frame f c (insert frame a l) d, other_frame f c l d, put_gt frame a c (after_frame frame (frame c) l) q, k q)

  dedup_insert : (a : A) (l : List A) → dedup frame (insert frame a l) ≡ put frame a (dedup frame l)
  dedup_insert a [] = unfold insert dedup put after_frame in refl
  dedup_insert a (b ∷ l) = go (order frame a b)
    where
      go : Order frame a b → dedup frame (insert frame a (b ∷ l)) ≡ put frame a (dedup frame (b ∷ l))
      go (before q) =
          rw (insert_le a b l (omega arith))
          (unfold dedup in rw (other_frame (frame a) b l (λ (e : frame a ≡ frame b). omega arith), put_lt frame a b (after_frame frame (frame b) l) q))
      go (level q) =
          rw (insert_le a b l (omega arith)) (unfold dedup in rw (same_frame (frame a) b l q, put_eq frame a b (after_frame frame (frame b) l) q, q))
      go (after q) =
          rw (insert_gt a b l q) (unfold dedup in rw (after_insert (frame b) a l q, put_gt frame a b (after_frame frame (frame b) l) q))

  put_turned : (l r : List A) → dedup frame (sorted frame (turned_onto l r)) ≡ put_all frame (dedup frame (sorted frame r)) l
  unfolding turned_onto put_all
  put_turned [] r = refl
  put_turned (a ∷ l) r = put_turned l (a ∷ r) ∙ ap (λ s. put_all frame s l) (unfold sorted in dedup_insert a (sorted frame r))

  -- LAW: "as `last_vmd_keys_per_frame` does"
  pub lasts_original : (keys : List A) → lasts frame keys ≡ last_keys_per_frame frame keys
  unfolding lasts
  lasts_original keys = sym (put_turned keys [] ∙ (unfold sorted dedup in refl))

-- each step, computed: of two digits the first is the frame
pub steps_told :
    (turned {A = ℕ} (31 ∷ 12 ∷ 33 ∷ 14 ∷ []) ≡ 14 ∷ 33 ∷ 12 ∷ 31 ∷ [])
    × (sorted (λ n. n / 10) (14 ∷ 33 ∷ 12 ∷ 31 ∷ []) ≡ 14 ∷ 12 ∷ 33 ∷ 31 ∷ [])
    × (dedup (λ n. n / 10) (14 ∷ 12 ∷ 33 ∷ 31 ∷ 15 ∷ []) ≡ 14 ∷ 33 ∷ 15 ∷ [])
unfolding turned_onto insert_if insert sorted other_if after_frame dedup
steps_told = (refl, refl, refl)
