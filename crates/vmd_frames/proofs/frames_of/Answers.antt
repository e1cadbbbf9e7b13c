-- `vmd_frames::frames_of` meets its contract. Assumes nothing.
use mathlib.Core.Path.{sym, ◌∙◌}
use native.Mathlib.Omega.{arith}
use Rattle.vmd_laws.specs.BytesLaws.{Bytes}
use Rattle.vmd_format.specs.Opening.{record_count}
use Rattle.vmd_frames.proofs.Frames.{frames_none, frames_some}
use Rattle.vmd_frames.proofs.frames_of.Goals as goal

pub returns-then-records-eq0 : goal.returns-then-records-eq0
unfolding record_count
returns-then-records-eq0 c = frames_none _ _ (sym (rw c.counts.ensures at c.records-records.ensures) ∙ c.if-records-eq0.true)

pub returns : goal.returns
unfolding record_count
returns c =
    let bytes : Bytes c.args.file.now = λ j. omega (arith, c.shared_slice_known-1.given j) in
    c.all_frames.ensures ∙ frames_some _ _ bytes (λ e. c.if-records-eq0.false (rw c.counts.ensures at c.records-records.ensures ∙ e))
