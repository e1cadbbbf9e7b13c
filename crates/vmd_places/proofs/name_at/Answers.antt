-- `vmd_places::name_at` meets its contract. Assumes nothing.
use mathlib.Core.Path.{ap, ◌∙◌}
use lib.ListN.{length}
use Rattle.vmd_format.specs.Bytes.{before_zero}
use Rattle.vmd_places.specs.Parts.{file_part, name_in}
use Rattle.vmd_places.proofs.Parts.{range_is}
use Rattle.vmd_places.proofs.name_at.Goals as goal

pub returns : goal.returns
unfolding name_in
returns c =
    let a = c.args in
    c.file_part.ensures ∙ ap (λ l. file_part a.at (length l)) (c.trim_fixed_bytes-n.ensures ∙ ap before_zero (range_is a.file.now a.at a.width))
