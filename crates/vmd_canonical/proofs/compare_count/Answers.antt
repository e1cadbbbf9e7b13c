-- `vmd_canonical::compare_count` meets its contract. Assumes nothing.
use mathlib.Core.Path.{ap, ◌∙◌}
use Rattle.vmd_format.specs.Bytes.{u32_bytes}
use Rattle.vmd_form.specs.Compare.{compare_at}
use Rattle.vmd_canonical.proofs.compare_count.Goals as goal

pub returns : goal.returns
unfolding u32_bytes
returns c = c.compare_bytes.ensures ∙ ap (compare_at c.args.file.now c.args.at) c.to_le_bytes.ensures
