-- `vmd_frames::all_frames` meets its contract. Assumes nothing.
use Rattle.vmd_scan.specs.Meaning.{scan_is}
use Rattle.vmd_laws.specs.Places.{scan_frames}
use Rattle.vmd_frames.proofs.Frames.{with_append}
use Rattle.vmd_laws.specs.InsideLaws.{inside_reaches}
use Rattle.vmd_frames.proofs.all_frames.Goals as goal

pub with_properties-requires : goal.with_properties-requires
with_properties-requires c =
    inside_reaches c.args.file.now (scan_is c.args.sections) c.requires

pub returns : goal.returns
unfolding scan_frames
returns c =
    simp with_append
    (rw (
      c.with_properties.ensures,
      c.with_records-self_shadows.ensures,
      c.with_records-lights.ensures,
      c.with_records-cameras.ensures,
      c.with_records-morphs.ensures,
      c.with_records-bones.ensures,
      c.none.ensures,
    ))
