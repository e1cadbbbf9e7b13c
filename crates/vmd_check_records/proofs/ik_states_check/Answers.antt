-- `vmd_check_records::ik_states_check` meets its contract. Assumes nothing.
use Prim.Native.Nat.{◌+◌, ◌*◌}
use mathlib.Core.Path.{◌≡◌, ◌∙◌}
use lib.ListN.{drop}
use native.Mathlib.Omega.{arith}
use borrow.Author.Rules.{rules}
use Rattle.vmd_format.specs.Records.{ik_state}
use Rattle.vmd_format.specs.Parts.{ik_check}
use Rattle.vmd_laws.specs.SizedLaws.{ik_state_sized}
use Rattle.vmd_check_records.proofs.Records.{in_turn}
use Rattle.vmd_check_records.proofs.ik_states_check.Goals as goal

pub returns : goal.returns
returns c =
    let a = c.args in
    let e : a.place + 0 * 21 ≡ a.place = omega arith in
    c.check_each.ensures (λ j. ik_check (ik_state.decode (drop (a.place + j * 21) a.bytes.now))) (λ i r h p. search rules)
    ∙ in_turn ik_check ik_state_sized a.bytes.now (λ j. a.place + j * 21) (λ i. omega arith) a.n 0 ∙ rw e
