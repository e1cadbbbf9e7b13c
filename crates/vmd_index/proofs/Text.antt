-- Laws of what is printed. Assumes nothing.
use Rattle.std.proofs.Common.{◌≡◌, ℕ, ◌+◌, ◌≤◌, List, length, ap, ◌∙◌, arith, lit≤}
use Rattle.vmd_bytes.specs.Written.{Room, Wrote}
use Rattle.vmd_bytes.proofs.Laws.{length_splice}
use Rattle.vmd_text.specs.Text.{decimal, text}
use Rattle.vmd_text.proofs.Laws.{wrote_more}
use Rattle.vmd_index.specs.declared.Cause.{Cause}
use Rattle.vmd_index.specs.declared.Cause.TheVariants.{NoEntry, TooLarge, NotAbove}
use Rattle.vmd_index.specs.Output.{reason, message}

-- ---- the message of a fault

reason_short : (c : Cause) → length (reason c) ≤ 48
unfolding reason text
reason_short NoEntry = lit≤ tt
reason_short TooLarge = lit≤ tt
reason_short NotAbove = lit≤ tt

-- there is room for the reason
pub reason_fits : (l m k : List ℕ) (n : ℕ) (c : Cause) (at to : ℕ) → length l ≡ 128 → Wrote l 0 (text "presence-table: line ") m at
    → Wrote m at (decimal n) k to → to ≤ at + 20 → Room k to (reason c)
unfolding text
reason_fits l m k n c at to h a d b =
    let e : length m ≡ length l = ap length a.holds ∙ length_splice l 0 (text "presence-table: line ") (omega arith) in
    let f : length k ≡ length m = ap length d.holds ∙ length_splice m at (decimal n) (omega (arith, d.ends, a.ends)) in
    record { room = omega (arith, a.ends, reason_short c) }

pub message_done : (l m k e : List ℕ) (n : ℕ) (c : Cause) (at to end : ℕ) → length l ≡ 128 → Wrote l 0 (text "presence-table: line ") m at
    → Wrote m at (decimal n) k to → to ≤ at + 20 → Wrote k to (reason c) e end → Wrote l 0 (message n c) e end
unfolding message text
message_done l m k e n c at to end h a d b t =
    let r : end ≤ length l = omega (arith, a.ends, t.ends, reason_short c) in
    wrote_more (wrote_more a d (omega (arith, t.ends))) t r
