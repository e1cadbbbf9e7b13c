-- `vmd_split::properties_fit` meets its contract. Assumes nothing.
use mathlib.Core.Path.{sym}
use Prim.Native.Nat.{◌+◌, ◌*◌}
use native.Mathlib.Omega.{arith}
use borrow.Author.Tests.{lt-leb}
use Rattle.vmd_split.proofs.Room.{states_fit}
use Rattle.vmd_split.proofs.properties_fit.Goals as goal

pub returns-then-bytes-heads : goal.returns-then-bytes-heads
returns-then-bytes-heads c =
    sym (lt-leb (9 * c.args.frames + 21 * c.args.ik_states) c.args.bytes (omega (arith, c.if-bytes-heads.true)))

pub returns : goal.returns
returns c = states_fit _ _ _ c.if-bytes-heads.false
