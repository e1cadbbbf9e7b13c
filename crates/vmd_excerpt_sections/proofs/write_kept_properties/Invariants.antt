-- `vmd_excerpt_sections::write_kept_properties` meets its contract. Assumes nothing.
use Prim.Native.Nat.{◌-◌}
use Rattle.vmd_framed.specs.Excerpt.{property_framed}
use Rattle.vmd_laws.specs.PlacesLaws.{frames_in}
use Rattle.vmd_laws.specs.Places.{Reaches}
use Rattle.vmd_format.specs.Take.{property}
use Rattle.vmd_excerpt_sections.specs.RowLaws.{Keeping}
use Rattle.vmd_excerpt_sections.proofs.write_kept_properties.Given as goal

abbrev pub invariant-loop : goal.invariant-loop
invariant-loop l =
    let x = l.properties.section in
    Reaches l.file (x.count - l.counter) l.p
    × Keeping property_framed property.write l.span.first l.span.last (frames_in l.file x.count x.place) l.initial.out l.to l.out l.q l.kept (frames_in l.file (x.count - l.counter) l.p)
