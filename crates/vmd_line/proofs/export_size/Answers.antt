-- `vmd_line::export_size` meets its contract. Assumes nothing.
use mathlib.Core.Path.{◌∙◌}
use native.Mathlib.Omega.{arith}
use Rattle.vmd_format.specs.Join.{file_length}
use Rattle.vmd_scan.specs.Meaning.{scan_is}
use Rattle.vmd_line.specs.Line.{export_size}
use Rattle.vmd_line.proofs.Laws.{size_value}
use Rattle.vmd_line.proofs.export_size.Goals as goal

pub returns : goal.returns
unfolding export_size file_length
returns c =
    c.unwrap_or.ensures
    ∙ size_value (scan_is c.args.sections) (omega (arith, c.requires, c.well_formed)) _ (rw c.counts.ensures at c.file_size.ensures)
