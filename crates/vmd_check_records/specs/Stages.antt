-- The steps in which record bytes are checked. vmd_checks shows that together all steps are the format's checks. Definitions only.
use Rattle.std.specs.Prelude.{ℕ, zero, suc, Bool, ◌&&◌, List, length, drop}
use Rattle.vmd_format.specs.Bytes.{u32}
use Rattle.vmd_format.specs.Read.{Step, refused, got}
use Rattle.vmd_format.specs.Records.{Property}
use Rattle.vmd_format.specs.Parts.{finite}

-- n floats one after another, by their bits, after those that were finite so far
unfoldable pub finite_words : Bool → ℕ → List ℕ → Bool
finite_words b zero s = b
finite_words b (suc n) s = finite_words (b && finite (u32 s)) n (drop 4 s)

-- property frames read until the end: how many
pub data Counted : Type 0 where
  not_whole : Counted
  whole : ℕ → Counted

unfoldable pub counted : Step (List Property) → Counted
counted (refused k) = not_whole
counted (got l s) = whole (length l)
