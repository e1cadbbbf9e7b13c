use mathlib.Core.Path.{◌≡◌, ap, sym, ◌∙◌}
use Prim.Native.Nat.{◌+◌, ◌-◌}
use native.Mathlib.Omega.{arith}
use lib.ListN.{drop}
use Rattle.vmd_framed.specs.Excerpt.{property_framed}
use Rattle.vmd_laws.specs.WalkLaws.{reaches_first, frames_first, frames_none}
use Rattle.vmd_laws.specs.PlacesLaws.{property_in, table_length}
use Rattle.vmd_format.specs.Characters.{between}
use Rattle.vmd_format.specs.Records.{ik_state}
use Rattle.vmd_format.specs.Fetch.{next_frame}
use Rattle.vmd_format.specs.Bytes.{u32}
use Rattle.vmd_excerpt_sections.specs.RowLaws.{frames_few, count_turn, count_end, states_turn, states_end, number_most}
use Rattle.vmd_excerpt_sections.specs.Rows.{kept_frames}
use Rattle.vmd_excerpt_sections.proofs.count_properties.Goals as goal

pub read_u32_le-requires : goal.read_u32_le-requires
unfolding next_frame
read_u32_le-requires c = let r = (reaches_first c.args.properties.file.now (c.args.properties.section.count - c.loop.counter) c.loop.p (omega arith) c.loop.invariant.0).0 in omega arith

pub overflow_add-p : goal.overflow_add-p
unfolding next_frame
overflow_add-p c = let r = (reaches_first c.args.properties.file.now (c.args.properties.section.count - c.loop.counter) c.loop.p (omega arith) c.loop.invariant.0).0 in omega arith

pub read_u32_le-here-requires : goal.read_u32_le-here-requires
unfolding next_frame
read_u32_le-here-requires c = let r = (reaches_first c.args.properties.file.now (c.args.properties.section.count - c.loop.counter) c.loop.p (omega arith) c.loop.invariant.0).0 in omega arith

pub next_if-kept-requires : goal.next_if-kept-requires
next_if-kept-requires c = omega (arith, c.loop.invariant.1, frames_few c.args.span.first c.args.span.last c.args.properties.file.now c.args.properties.section.count c.args.properties.section.place)

pub overflow_add-states : goal.overflow_add-states
overflow_add-states c = omega (arith, c.loop.invariant.3, c.states_if-states.ensures, number_most c.contains-on.result c.read_u32_le-here.result)

pub next_property_frame-p-requires : goal.next_property_frame-p-requires
next_property_frame-p-requires c = (reaches_first c.args.properties.file.now (c.args.properties.section.count - c.loop.counter) c.loop.p (omega arith) c.loop.invariant.0).0

pub loop-preserved : goal.loop-preserved
unfolding kept_frames property_in property_framed
loop-preserved c =
    let s = c.args.properties.file.now in
    let l = c.loop in
    let left = c.args.properties.section.count - l.counter in
    let first = c.args.span.first in
    let last = c.args.span.last in
    let e : c.args.properties.section.count - (l.counter + 1) ≡ left - 1 = omega arith in
    let h = reaches_first s left l.p (omega arith) l.invariant.0 in
    let f = frames_first s left l.p (omega arith) in
    let o = c.contains-on.ensures ∙ ap (between first last) c.read_u32_le.ensures in
    let m = number_most c.contains-on.result c.read_u32_le-here.result in
    rw (e, c.next_property_frame-p.ensures) (
      h.1,
      rw c.next_if-kept.ensures (count_turn property_framed first last l.kept _ c.contains-on.result f o l.invariant.1),
      rw c.states_if-states.ensures (states_turn first last l.states _ c.read_u32_le-here.result c.contains-on.result f o
          (c.read_u32_le-here.ensures ∙ sym (table_length ik_state (u32 (drop (l.p + 5) s)) (drop (l.p + 9) s))) l.invariant.2),
      omega (arith, l.invariant.3, c.states_if-states.ensures, m),
    )

pub overflow_cast-result : goal.overflow_cast-result
overflow_cast-result c = omega (arith, c.loop.invariant.1, frames_few c.args.span.first c.args.span.last c.args.properties.file.now c.args.properties.section.count c.args.properties.section.place)

pub returns : goal.returns
unfolding kept_frames
returns c =
    let n = frames_none c.args.properties.file.now (c.args.properties.section.count - c.loop.counter) c.loop.p (omega arith) in
    (count_end property_framed c.args.span.first c.args.span.last c.loop.kept _ n c.loop.invariant.1, states_end c.args.span.first c.args.span.last c.loop.states _ n c.loop.invariant.2)
