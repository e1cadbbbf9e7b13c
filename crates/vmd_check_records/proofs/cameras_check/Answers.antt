-- `vmd_check_records::cameras_check` meets its contract. Assumes nothing.
use borrow.Author.Rules.{rules}
use Rattle.vmd_laws.specs.SizedLaws.{camera_sized}
use Rattle.vmd_check_records.proofs.Records.{slice_in_turn}
use Rattle.vmd_check_records.proofs.cameras_check.Goals as goal

pub returns : goal.returns
returns c =
    slice_in_turn _ camera_sized c.args.bytes.now (c.check_each.ensures _ (λ i r h p. search rules))
