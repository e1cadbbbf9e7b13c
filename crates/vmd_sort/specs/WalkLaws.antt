-- Laws of places one after another.
use Prim.Native.Nat.{ℕ, zero, suc, ◌+◌, ◌*◌, ◌≤◌, ◌<◌}
use Rattle.std.specs.Prelude.{◌≡◌, length, drop}
use Rattle.std.proofs.Math.Path.{refl, ap}
use mathlib.Core.List.{List, [], ◌∷◌, ◌++◌}
use native.Mathlib.Omega.{arith}
use Rattle.vmd_format.specs.Bytes.{u32}
use Rattle.vmd_laws.specs.ReadLaws.{All}
use Rattle.vmd_format.specs.Fetch.{next_frame}
use Rattle.vmd_tracks.specs.Sorted.{Sorted}
use Rattle.vmd_records.specs.declared.VmdKind.{VmdKind}
use Rattle.vmd_records.specs.Kinds.{size_of}
use Rattle.vmd_sort.specs.KindLaws.{kind_some}
use Rattle.vmd_sort.specs.Walk.{step, places_by, end_by}

-- ---- steps

pub step_frame : (s : List ℕ) (p : ℕ) → step s 0 p ≡ next_frame s p
unfolding step
step_frame s p = refl

pub step_states : (s : List ℕ) (w p : ℕ) → w ≡ 0 → step s w p ≡ p + 9 + u32 (drop (p + 5) s) * 21
step_states s w p e = rw e (unfold step next_frame in refl)

pub step_fixed : (s : List ℕ) (w p : ℕ) → 0 < w → step s w p ≡ p + w
unfolding step
step_fixed s zero p h = absurd (omega arith)
step_fixed s (suc k) p h = refl

pub step_kind : (s : List ℕ) (k : VmdKind) (p : ℕ) → step s (size_of k) p ≡ p + size_of k
step_kind s k p = step_fixed s (size_of k) p (kind_some k)

pub step_past : (s : List ℕ) (w p : ℕ) → p < step s w p
unfolding step
step_past s zero p = unfold next_frame in omega arith
step_past s (suc k) p = omega arith

module _ (next : ℕ → ℕ) where
  pub places_snoc : (n at : ℕ) → places_by next (n + 1) at ≡ places_by next n at ++ (end_by next n at ∷ [])
  unfolding places_by end_by
  places_snoc zero at = refl
  places_snoc (suc n) at = let e : suc n + 1 ≡ suc (n + 1) = omega arith in rw e (ap {B = List ℕ} (λ r. at ∷ r) (places_snoc n (next at)))

  pub end_snoc : (n at : ℕ) → end_by next (n + 1) at ≡ next (end_by next n at)
  unfolding end_by
  end_snoc zero at = refl
  end_snoc (suc n) at = let e : suc n + 1 ≡ suc (n + 1) = omega arith in rw e (end_snoc n (next at))

  pub places_count : (n at : ℕ) → length (places_by next n at) ≡ n
  unfolding places_by
  places_count zero at = refl
  places_count (suc n) at = ap suc (places_count n (next at))

  module _ (up : (p : ℕ) → p < next p) where
    pub end_past : (n at : ℕ) → at ≤ end_by next n at
    unfolding end_by
    end_past zero at = omega arith
    end_past (suc n) at = let h = end_past n (next at) in let k = up at in omega arith

    -- each place and its step lie before the end
    pub places_lie : (n at top : ℕ) → end_by next n at ≤ top → All (λ p. next p ≤ top) (places_by next n at)
    unfolding places_by end_by
    places_lie zero at top h = tt
    places_lie (suc n) at top h = (let k = end_past n (next at) in omega arith, places_lie n (next at) top h)

    -- the place after each lies before the end
    pub end_within : (i n at : ℕ) → i < n → next (end_by next i at) ≤ end_by next n at
    unfolding end_by
    end_within i zero at h = absurd (omega arith)
    end_within zero (suc n) at h = end_past n (next at)
    end_within (suc i) (suc n) at h = end_within i n (next at) (omega arith)

    from_on : (n at low : ℕ) → low ≤ at → All (λ p. low ≤ p) (places_by next n at)
    unfolding places_by
    from_on zero at low h = tt
    from_on (suc n) at low h = (h, from_on n (next at) low (let k = up at in omega arith))

    pub places_rise : (n at : ℕ) → Sorted (λ p. p) (places_by next n at)
    unfolding places_by
    places_rise zero at = tt
    places_rise (suc n) at = (later (places_by next n (next at)) (from_on n (next at) (suc at) (up at)), places_rise n (next at))
      where
        later : (l : List ℕ) → All (λ p. suc at ≤ p) l → All (λ p. at < p) l
        later l h = h
