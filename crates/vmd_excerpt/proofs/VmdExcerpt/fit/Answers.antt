-- `vmd_excerpt::VmdExcerpt::fit` meets its contract. Assumes nothing.
use Rattle.vmd_excerpt.proofs.StageLaws.{export_fits, own_fits}
use Rattle.vmd_excerpt.proofs.VmdExcerpt.fit.Goals as goal

pub returns-in-Ok : goal.returns-in-Ok
returns-in-Ok c =
    let e = c.args.self.now in
    export_fits e.span.first e.span.last e.take.file.now _ e.take.scanned c.args.limit _ (rw c.counts.ensures at c.in-Ok.ensures)

pub returns-in_ok-size-in-Err : goal.returns-in_ok-size-in-Err
returns-in_ok-size-in-Err c =
    let e = c.args.self.now in
    own_fits e.span.first e.span.last e.take.file.now _ c.args.limit _ c.in_ok-size-in-Err.ensures
