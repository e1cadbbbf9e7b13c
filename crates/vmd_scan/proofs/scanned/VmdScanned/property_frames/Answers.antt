-- `vmd_scan::scanned::VmdScanned::property_frames` meets its contract. Assumes nothing.
use Rattle.vmd_laws.specs.InsideLaws.{inside_reaches}
use Rattle.vmd_scan.proofs.scanned.VmdScanned.property_frames.Goals as goal

pub invariant_of-result : goal.invariant_of-result
invariant_of-result c =
    let x = c.args.self.now in
    record { begins = x.scanned.inside.properties.place; reached = inside_reaches _ _ x.scanned.inside; bytes = x.bytes }
