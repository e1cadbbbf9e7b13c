-- `vmd_excerpt_sections::count_properties` meets its contract. Assumes nothing.
use mathlib.Core.Path.{◌≡◌}
use Prim.Native.Nat.{◌+◌, ◌-◌, ◌*◌, ◌≤◌}
use lib.ListN.{length}
use Rattle.vmd_laws.specs.Places.{Reaches}
use Rattle.vmd_format.specs.Opening.{ik_total}
use Rattle.vmd_excerpt_sections.specs.Rows.{kept_frames}
use Rattle.vmd_excerpt_sections.proofs.count_properties.Given as goal

abbrev pub invariant-loop : goal.invariant-loop
invariant-loop l =
    let x = l.properties.section in
    let f = l.span.first in
    let t = l.span.last in
    Reaches l.file (x.count - l.counter) l.p
    × (l.kept + length (kept_frames f t l.file (x.count - l.counter) l.p) ≡ length (kept_frames f t l.file x.count x.place))
    × (l.states + ik_total (kept_frames f t l.file (x.count - l.counter) l.p) ≡ ik_total (kept_frames f t l.file x.count x.place))
    × (l.states ≤ 4294967295 * l.counter)
