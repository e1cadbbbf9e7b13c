-- `vmd_check_records::camera_check` meets its contract. Assumes nothing.
use mathlib.Core.Path.{ap, ◌∙◌}
use Rattle.vmd_format.specs.Refusal.{not_finite}
use Rattle.vmd_format.specs.Parts.{need}
use Rattle.vmd_check_records.proofs.Records.{camera_there}
use Rattle.vmd_check_records.proofs.camera_check.Goals as goal

pub returns : goal.returns
returns c =
    c.need.ensures ∙ ap (λ b. need b not_finite) c.finite_words.ensures ∙ camera_there c.args.bytes.now c.args.at
