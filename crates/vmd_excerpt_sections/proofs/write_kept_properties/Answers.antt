use mathlib.Core.Path.{◌≡◌, ap, sym, ◌∙◌}
use Prim.Native.Nat.{◌+◌, ◌-◌}
use native.Mathlib.Nat.{sub-zero}
use native.Mathlib.Omega.{arith}
use Rattle.vmd_framed.specs.Excerpt.{property_framed}
use Rattle.vmd_laws.specs.WalkLaws.{reaches_first, frames_first, frames_none}
use Rattle.vmd_laws.specs.CharacterLaws.{between_true}
use Rattle.vmd_laws.specs.PlacesLaws.{property_in, frames_in}
use Rattle.vmd_format.specs.Characters.{between}
use Rattle.vmd_format.specs.Fetch.{next_frame}
use Rattle.vmd_excerpt_sections.specs.RowLaws.{one_room, one_more, one_kept, one_dropped}
use Rattle.vmd_excerpt_sections.specs.RowLaws.{frames_few, keeping_start, keeping_end}
use Rattle.vmd_excerpt_sections.specs.Rows.{kept_frames}
use Rattle.vmd_excerpt_sections.proofs.write_kept_properties.Goals as goal
use Rattle.vmd_excerpt_sections.proofs.write_kept_properties.Goals.{then-contains, else-contains}

pub loop-init : goal.loop-init
unfolding kept_frames
loop-init c = rw sub-zero (c.args.properties.reached, keeping_start c.requires)

pub read_u32_le-requires : goal.read_u32_le-requires
unfolding next_frame
read_u32_le-requires c = let r = (reaches_first c.args.properties.file.now (c.args.properties.section.count - c.loop.counter) c.loop.p (omega arith) c.loop.invariant.0).0 in omega arith

pub write_moved_property-q-requires : goal.write_moved_property-q-requires
unfolding property_in property_framed
write_moved_property-q-requires c = let s = c.args.properties.file.now in
    let f = frames_first s (c.args.properties.section.count - c.loop.counter) c.loop.p (omega arith) in
    let e = ap (between c.args.span.first c.args.span.last) (sym c.read_u32_le.ensures) ∙ sym c.contains.ensures ∙ c.if-contains.true in
    let h = (reaches_first s (c.args.properties.section.count - c.loop.counter) c.loop.p (omega arith) c.loop.invariant.0).0 in
    (h, (between_true _ _ _ e).0, one_room (property_in s c.loop.p) (frames_in s ((c.args.properties.section.count - c.loop.counter) - 1) (next_frame s c.loop.p)) c.loop.invariant.1 f e)

pub overflow_add-kept : goal.overflow_add-kept
unfolding property_in property_framed kept_frames
overflow_add-kept c = let s = c.args.properties.file.now in
    let f = frames_first s (c.args.properties.section.count - c.loop.counter) c.loop.p (omega arith) in
    let e = ap (between c.args.span.first c.args.span.last) (sym c.read_u32_le.ensures) ∙ sym c.contains.ensures ∙ c.if-contains.true in
    omega (arith, one_more (property_in s c.loop.p) (frames_in s ((c.args.properties.section.count - c.loop.counter) - 1) (next_frame s c.loop.p)) c.loop.invariant.1 f e, frames_few c.args.span.first c.args.span.last s c.args.properties.section.count c.args.properties.section.place)

pub next_property_frame-p-requires : goal.next_property_frame-p-requires
next_property_frame-p-requires c = (reaches_first c.args.properties.file.now (c.args.properties.section.count - c.loop.counter) c.loop.p (omega arith) c.loop.invariant.0).0

pub loop-preserved : goal.loop-preserved
unfolding property_in property_framed
loop-preserved c = let s = c.args.properties.file.now in
    let f = frames_first s (c.args.properties.section.count - c.loop.counter) c.loop.p (omega arith) in
    let r = reaches_first s (c.args.properties.section.count - c.loop.counter) c.loop.p (omega arith) c.loop.invariant.0 in
    let b = ap (between c.args.span.first c.args.span.last) (sym c.read_u32_le.ensures) ∙ sym c.contains.ensures in
    let others = frames_in s ((c.args.properties.section.count - c.loop.counter) - 1) (next_frame s c.loop.p) in
    let e : c.args.properties.section.count - (c.loop.counter + 1) ≡ c.args.properties.section.count - c.loop.counter - 1 = omega arith in
    rw (e, c.next_property_frame-p.ensures) (
      r.1,
      elim c.if-contains.branch [
        | then-contains t ↦ rw (t.out-is, t.q-is, t.kept-is) (one_kept (property_in s c.loop.p) others c.loop.invariant.1 f (b ∙ t.if-contains.true) t.write_moved_property-q.ensures)
        | else-contains t ↦ rw (t.out-is, t.q-is, t.kept-is) (one_dropped (property_in s c.loop.p) others c.loop.invariant.1 f (b ∙ t.if-contains.false))
      ],
    )

pub returns : goal.returns
unfolding kept_frames
returns c = keeping_end c.loop.invariant.1 (frames_none c.args.properties.file.now (c.args.properties.section.count - c.loop.counter) c.loop.p (omega arith))
