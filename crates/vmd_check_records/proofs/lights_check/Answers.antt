-- `vmd_check_records::lights_check` meets its contract. Assumes nothing.
use borrow.Author.Rules.{rules}
use Rattle.vmd_laws.specs.SizedLaws.{light_sized}
use Rattle.vmd_check_records.proofs.Records.{slice_in_turn}
use Rattle.vmd_check_records.proofs.lights_check.Goals as goal

pub returns : goal.returns
returns c =
    slice_in_turn _ light_sized c.args.bytes.now (c.check_each.ensures _ (λ i r h p. search rules))
