use mathlib.Core.Path.{sym, ◌∙◌}
use native.Mathlib.Nat.{sub-zero}
use native.Mathlib.Omega.{arith}
use Rattle.vmd_laws.specs.PlacesLaws.{walk_done, walk_short, walk_over}
use Rattle.vmd_scan.proofs.Laws.{walk_turn}
use Rattle.vmd_scan.proofs.walk_property_frames.Goals as goal

pub loop-init : goal.loop-init
loop-init c = record { inside = omega arith; states = omega arith; walked = rw sub-zero }

pub returns-then-file-at-lt-SIZE : goal.returns-then-file-at-lt-SIZE
returns-then-file-at-lt-SIZE c = sym (walk_short _ _ _ _ (omega arith) (omega arith)) ∙ c.loop.invariant.walked

pub returns-then-file-at : goal.returns-then-file-at
returns-then-file-at c =
    sym (walk_over _ _ _ _ _ (omega arith) (omega arith) c.read_u32_le-count.ensures (omega arith)) ∙ c.loop.invariant.walked

pub loop-preserved : goal.loop-preserved
loop-preserved c =
    let a = c.args in record {
      inside = omega arith;
      states = omega arith;
      walked =
          walk_turn a.file.now a.n c.loop.counter c.loop.at c.loop.ik_states c.read_u32_le-count.result (omega arith) (omega arith)
          c.read_u32_le-count.ensures (omega arith)
          ∙ c.loop.invariant.walked;
    }

pub returns : goal.returns
returns c = sym (walk_done _ _ _ _ (omega arith)) ∙ c.loop.invariant.walked
