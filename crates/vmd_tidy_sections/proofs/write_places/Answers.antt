-- `vmd_tidy_sections::write_places` meets its contract. Assumes nothing.
use mathlib.Core.Path.{sym, ap}
use native.Mathlib.Omega.{arith}
use Rattle.vmd_format.specs.Read.{write_all}
use Rattle.vmd_tidy_sections.specs.Sections.{written_at}
use Rattle.vmd_tidy_sections.specs.RunLaws.{left_start, left_end, run_room, run_then}
use Rattle.vmd_tidy_sections.proofs.write_places.Goals as goal

pub loop-i-init : goal.loop-i-init
loop-i-init c = left_start _ _ _ _ c.requires.1

pub write_run-q-requires : goal.write_run-q-requires
write_run-q-requires c =
    let a = c.args in
    let e = c.run_length-count.ensures in
    run_room _ _ _ _ c.run_length-count.result c.loop-i.invariant e.1 (ap (write_all (written_at a.stride a.s.now)) (sym e.2))

pub loop-i-preserved : goal.loop-i-preserved
loop-i-preserved c =
    let a = c.args in
    let e = c.run_length-count.ensures in
    run_then _ _ _ _ c.run_length-count.result c.loop-i.invariant e.1 (ap (write_all (written_at a.stride a.s.now)) (sym e.2)) c.write_run-q.ensures

pub returns : goal.returns
returns c = left_end _ _ _ _ (omega arith) c.loop-i.invariant
