-- `vmd_excerpt_sections::frame_at` meets its contract. Assumes nothing.
use mathlib.Core.Path.{sym, ◌∙◌}
use Rattle.vmd_excerpt_sections.specs.RowLaws.{frame_there}
use Rattle.vmd_excerpt_sections.proofs.frame_at.Goals as goal

pub returns : goal.returns
returns c =
    c.read_u32_le.ensures ∙ rw c.frame_offset.ensures (sym (frame_there c.args.kind c.args.s.now c.args.at))
