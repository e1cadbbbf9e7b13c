-- Writes one after another. Definitions only.
use Rattle.std.specs.Prelude.{◌≡◌, ℕ, ◌+◌, ◌≤◌, List, length}
use Rattle.vmd_bytes.specs.Slices.{splice}

-- there is room for these bytes from a place on
pub record Room (l : List ℕ) (to : ℕ) (bytes : List ℕ) : Type 0 where
  pub room : to + length bytes ≤ length l

-- they were written there, every other byte kept, and the place after them is given
pub record Wrote (l : List ℕ) (to : ℕ) (bytes out : List ℕ) (place : ℕ) : Type 0 where
  pub holds : out ≡ splice l to bytes
  pub ends : place ≡ to + length bytes

-- Of w, which is to be written at `to` of l, what is left is v: to write it at `at` of x makes up the whole.
pub record Rest (l : List ℕ) (to : ℕ) (w x : List ℕ) (at : ℕ) (v : List ℕ) : Type 0 where
  pub room : Room x at v
  pub whole : splice x at v ≡ splice l to w
  pub ends : at + length v ≡ to + length w
  pub kept : length x ≡ length l
