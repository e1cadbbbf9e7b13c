-- `vmd_check_records::self_shadows_check` meets its contract. Assumes nothing.
use borrow.Author.Rules.{rules}
use Rattle.vmd_laws.specs.SizedLaws.{self_shadow_sized}
use Rattle.vmd_check_records.proofs.Records.{slice_in_turn}
use Rattle.vmd_check_records.proofs.self_shadows_check.Goals as goal

pub returns : goal.returns
returns c =
    slice_in_turn _ self_shadow_sized c.args.bytes.now (c.check_each.ensures _ (λ i r h p. search rules))
