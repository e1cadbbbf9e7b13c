-- The layout of a property frame without its IK states has one size. Assumes nothing.
use Rattle.std.specs.Prelude.{refl}
use Rattle.vmd_format.specs.Bytes.{u32_bytes}
use Rattle.vmd_format.specs.Layout.{number, flag, ◌⊗◌}
use Rattle.vmd_laws.specs.SizedLaws.{Sized}
use Rattle.vmd_records.specs.PropertyRow.{property_row}

pub property_sized : Sized property_row 9
unfolding number flag ◌⊗◌ u32_bytes
property_sized = record { size = refl; wide = λ p. refl }
