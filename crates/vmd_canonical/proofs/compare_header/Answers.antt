-- `vmd_canonical::compare_header` meets its contract. Assumes nothing.
use mathlib.Core.Path.{sym, ap, ◌∙◌}
use native.Mathlib.Omega.{arith}
use Rattle.vmd_format.specs.Take.{magic}
use Rattle.vmd_form.specs.Compare.{compare_at}
use Rattle.vmd_form.specs.CompareLaws.{compared_stands}
use Rattle.vmd_form.specs.Rows.{name_field}
use Rattle.vmd_form.proofs.WholeLaws.{magic_bytes, magic_newer, header_agrees, header_differs}
use Rattle.vmd_compare.proofs.Handed.{handed_on}
use Rattle.vmd_canonical.proofs.compare_header.Goals as goal

pub returns-in_err-name : goal.returns-in_err-name
unfolding magic
returns-in_err-name c =
    handed_on _ _ c.from_residual.ensures.1 ∙ sym (header_differs c.requires _ (sym c.in_err-name.ensures))

pub compare_name-requires : goal.compare_name-requires
unfolding magic
compare_name-requires c =
    let d = compared_stands 0 c.args.file.now magic_bytes _ (sym c.in_ok-name.ensures) in
    omega (arith, d.next, (magic_newer c.requires _ (sym c.in_ok-name.ensures)).long)

pub returns : goal.returns
unfolding magic
returns c =
    let s = c.args.file.now in
    let d = compared_stands 0 s magic_bytes _ (sym c.in_ok-name.ensures) in
    c.compare_name.ensures ∙ ap (λ q. compare_at s q (name_field s 20 q)) d.next ∙ sym (header_agrees c.requires _ (sym c.in_ok-name.ensures))
