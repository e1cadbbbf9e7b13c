-- The keys that a pass looks for, and what its places hold. Definitions only.
use Rattle.std.specs.Prelude.{ℕ, zero, suc, ◌+◌, ◌-◌, ◌≤◌, ◌<◌, ◌≡◌, Bool, true, not, ◌&&◌, List, ltb, length, get_or}
use Rattle.vmd_laws.specs.ReadLaws.{All}
use Rattle.vmd_keys.specs.Names.{select}
use Rattle.vmd_tracks.specs.Tracks.{lasts}
use Rattle.vmd_tracks.specs.Sorted.{Sorted}

-- whether a place's key lies above the floor's, and not above the ceiling's. They are a place and 1, or 0 for none.
unfoldable pub above : (ℕ → ℕ) → ℕ → ℕ → Bool
above f zero x = true
above f (suc g) x = ltb (f g) (f x)

unfoldable pub between : (ℕ → ℕ) → ℕ → ℕ → ℕ → Bool
between f floor zero x = above f floor x
between f floor (suc g) x = above f floor x && not (above f (suc g) x)

-- places in file order, before a place
pub record Rising (p : ℕ) (u : List ℕ) : Type 0 where
  pub sorted : Sorted (λ x. x) u
  pub before : All (λ x. x < p) u

-- held places, for those of l that have been passed: by their keys the last ones between floor and ceiling are the same
pub record Holds (f : ℕ → ℕ) (floor ceil p : ℕ) (u l : List ℕ) : Type 0 where
  pub rising : Rising p u
  pub same : lasts f u ≡ lasts f (select (between f floor ceil) l)
  pub marked : ¬ (ceil ≡ 0) → (above f floor (ceil - 1) ≡ true) × (0 < length u)

-- of k places the first m stay, and where that is not all of them the last of these is the new ceiling c
pub data Cut (k : ℕ) (l : List ℕ) (ceil m c : ℕ) : Type 0 where
  whole : k ≤ 16384 → m ≡ k → c ≡ ceil → Cut k l ceil m c
  part : 16384 < k → m ≡ 16384 → c ≡ get_or l 16383 0 + 1 → Cut k l ceil m c
