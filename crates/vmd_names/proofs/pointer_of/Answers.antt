-- `vmd_names::pointer_of` meets its contract. Assumes nothing.
use Rattle.vmd_format.specs.Names.{lead, trail}
use Rattle.vmd_format.specs.Characters.{pointer}
use Rattle.vmd_names.proofs.Names.{no_number, number_there}
use Rattle.vmd_names.proofs.pointer_of.Goals as goal

pub returns-in_err-lead : goal.returns-in_err-lead
unfolding lead
returns-in_err-lead c = rw (c.from_residual.ensures, no_number (lead c.args.a) _ c.in_err-lead.ensures)

pub returns-in_err-trail : goal.returns-in_err-trail
unfolding lead trail
returns-in_err-trail c =
    rw (c.from_residual-in_err-trail.ensures, (number_there (lead c.args.a) _ _ c.in_ok-lead.ensures).0, no_number (trail c.args.b) _ c.in_err-trail.ensures)

pub returns : goal.returns
unfolding lead trail pointer
returns c =
    let l = number_there (lead c.args.a) _ _ c.in_ok-lead.ensures in
    let t = number_there (trail c.args.b) _ _ c.in_ok-trail.ensures in
    rw (l.0, t.0, l.1, t.1)
