-- `vmd_tidy::tidy_file` meets its contract. Assumes nothing.
use mathlib.Core.Path.{refl, sym, ap, ◌∙◌}
use native.Mathlib.Omega.{arith}
use lib.ListN.{length}
use Rattle.vmd_format.specs.Answer.{map_answer, left, given}
use Rattle.vmd_laws.specs.ExportLaws.{take_in}
use Rattle.vmd_base.specs.Meaning.{manner_of}
use Rattle.vmd_base.proofs.Refused.{handed_on}
use Rattle.vmd_scan.specs.Meaning.{scan_is}
use Rattle.vmd_tidy.specs.Tidied.{cleared}
use Rattle.vmd_tidy.specs.StageLaws.{read_refused, largest_is, tidied_bytes, reported, cleared_is, wrote_left}
use Rattle.vmd_tidy.proofs.Laws.{tidying_found}
use Rattle.vmd_tidy.proofs.tidy_file.Goals as goal

pub returns-in_err-take : goal.returns-in_err-take
unfolding map_answer left cleared
returns-in_err-take c =
    let e = read_refused (manner_of c.args.manner) c.args.file.now (length c.args.scratch.now) (length c.args.out.now) _ (sym c.in_err-take.ensures.found) in
    record { result_value = handed_on _ _ _ c.from_residual.ensures.1 ∙ rw e refl; out_after = rw e refl; scratch_left = rw e refl }

pub returns-in_err-places : goal.returns-in_err-places
unfolding map_answer left cleared
returns-in_err-places c =
    let t = c.in_ok-take.ensures in
    let e = tidying_found (manner_of c.args.manner) c.args.file.now (length c.args.scratch.now) (length c.args.out.now) t.found t.same c.in_err-places.ensures.found in
    record { result_value = handed_on _ _ _ c.from_residual-in_err-places.ensures.1 ∙ rw e refl; out_after = rw e refl; scratch_left = rw e refl }

pub write_file-tidied-requires : goal.write_file-tidied-requires
write_file-tidied-requires c =
    let p = c.in_ok-places.ensures.needed in
    (omega (arith, p.0, p.1), record { room = omega (arith, p.2) })

pub clear_places-requires : goal.clear_places-requires
clear_places-requires c = omega (arith, c.in_ok-places.ensures.needed.1, c.write_file-tidied.ensures.3.long)

pub returns : goal.returns
unfolding map_answer left cleared
returns c =
    let s = c.in_ok-take.take.file.now in
    let x = scan_is c.in_ok-take.take.sections in
    let h = c.in_ok-take.take.scanned in
    let t = c.in_ok-take.ensures in
    let p = c.in_ok-places.ensures in
    let w = c.write_file-tidied.ensures in
    let e = tidying_found (manner_of c.args.manner) c.args.file.now (length c.args.scratch.now) (length c.args.out.now) t.found t.same p.found in
    record {
      result_value = rw e (ap given (reported s x h _ _ _ (w.0.ends ∙ omega arith) w.1 w.2));
      out_after = rw e (wrote_left (take_in s x) _ _ _ _ (tidied_bytes s x) w.0);
      scratch_left = rw e (cleared_is _ (take_in s x) _ _ _ (largest_is s x h ∙ sym p.needed.0) (rw (← p.needed.0) at w.3) c.clear_places.ensures);
    }
