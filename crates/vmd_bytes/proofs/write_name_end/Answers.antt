use Rattle.std.proofs.Common.{sym, refl, ◌∙◌, arith, length-set}
use Rattle.vmd_bytes.proofs.Laws.{name_start, live_start, name_byte, live_byte}
use Rattle.vmd_bytes.proofs.write_name_end.Goals as goal

pub loop-i-init : goal.loop-i-init
loop-i-init c = (refl, sym (live_start _ _ _), sym (name_start _ _ _ _ _))

pub loop-i-preserved : goal.loop-i-preserved
loop-i-preserved c =
    let s = c.args in
    let i = c.loop-i.i in (
      simp length-set (omega arith),
      c.live_after-on.ensures ∙ rw c.loop-i.invariant.1 (live_byte s.src.now s.at i s.live (omega arith)),
      rw (c.kept.ensures, c.live_after-on.ensures, c.loop-i.invariant.1, c.loop-i.invariant.2)
          (name_byte s.src.now s.out.now s.at s.to i s.live (omega arith) (omega arith)),
    )
