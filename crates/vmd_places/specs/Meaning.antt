-- Where an IK state stands. Definitions only.
use Rattle.std.specs.Prelude.{ℕ, List}
use Rattle.vmd_format.specs.Answer.{Answer, and_then}
use Rattle.vmd_format.specs.Opening.{Extent}
use Rattle.vmd_format.specs.Fetch.{record_place, property_place, ik_extent}

-- where IK state j of property frame i stands
unfoldable pub ik_place : Extent → List ℕ → ℕ → ℕ → List ℕ → Answer ℕ
ik_place p scratch i j s = and_then (property_place p scratch i s) λ at. record_place 21 (ik_extent s at) j s
