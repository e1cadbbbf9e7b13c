-- `vmd_places::frame_place` meets its contract. Assumes nothing.
use mathlib.Core.Path.{sym, ◌∙◌}
use Rattle.vmd_format.specs.Answer.{unless}
use Rattle.vmd_format.specs.Fetch.{frame_place}
use Rattle.vmd_places.proofs.frame_place.Goals as goal

pub returns-then-holds_frame : goal.returns-then-holds_frame
unfolding frame_place unless
returns-then-holds_frame c = rw (sym c.holds_frame.ensures ∙ c.if-holds_frame.true)

pub returns : goal.returns
unfolding frame_place unless
returns c = rw (sym c.holds_frame.ensures ∙ c.if-holds_frame.false)
