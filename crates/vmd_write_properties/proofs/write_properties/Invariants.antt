-- `vmd_write_properties::write_properties` meets its contract. Assumes nothing.
use Rattle.std.proofs.Common.{◌-◌}
use Rattle.vmd_format.specs.Read.{write_all}
use Rattle.vmd_laws.specs.PlacesLaws.{frames_in}
use Rattle.vmd_format.specs.Take.{property}
use Rattle.vmd_write_properties.proofs.Properties.{Walking}
use Rattle.vmd_write_properties.proofs.write_properties.Given as goal

abbrev pub invariant-loop : goal.invariant-loop
invariant-loop l = Walking l.src l.initial.out l.to (write_all property.write (frames_in l.src l.n l.at)) l.out l.p l.q (l.n - l.counter)
