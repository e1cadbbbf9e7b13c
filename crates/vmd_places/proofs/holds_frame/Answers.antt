-- `vmd_places::holds_frame` meets its contract. Assumes nothing.
use Prim.Native.Nat.{◌+◌, ◌-◌}
use mathlib.Core.Path.{sym}
use native.Mathlib.Omega.{arith}
use lib.ListN.{length}
use borrow.Author.Tests.{lt-leb}
use Rattle.vmd_laws.specs.PlacesLaws.{leb_same}
use Rattle.vmd_places.proofs.holds_frame.Goals as goal

pub returns-then-file-at : goal.returns-then-file-at
returns-then-file-at c = let a = c.args in sym (lt-leb (a.at + 9) (length a.file.now) (omega arith))

pub returns : goal.returns
returns c =
    let a = c.args in
    leb_same 9 (length a.file.now - a.at) (a.at + 9) (length a.file.now) (λ h. omega arith) (λ h. omega arith)
