use mathlib.Core.Bool.{Bool, true, false, not, beq}
use mathlib.Core.Path.{◌≡◌, refl, sym, ap, ◌∙◌}
use Prim.Native.Nat.{◌+◌, ◌*◌}
use Rattle.vmd_records.specs.Kinds.{size_of}
use Rattle.vmd_format.specs.Characters.{between}
use Rattle.vmd_excerpt_sections.specs.RowLaws.{run_start, run_turn}
use Rattle.vmd_excerpt_sections.proofs.run_length.Goals as goal

-- two that are not told apart
alike : (x y : Bool) → not (beq x y) ≡ false → y ≡ x
alike true true e = refl
alike true false e = sym e
alike false true e = e
alike false false e = refl

pub loop-k-init : goal.loop-k-init
loop-k-init c = run_start c.args.kind c.args.s.now c.args.at c.args.span.first c.args.span.last c.args.on c.requires.2

pub loop-k-preserved : goal.loop-k-preserved
loop-k-preserved c =
    let w = c.args.span in
    let f = rw c.size-size.ensures at c.frame_at.ensures in
    run_turn c.args.kind c.args.s.now c.args.at w.first w.last c.args.on c.loop-k.k (c.args.at + c.loop-k.k * size_of c.args.kind) refl
    (alike c.contains.result c.args.on c.if-contains-on.false ∙ c.contains.ensures ∙ ap (between w.first w.last) f) c.loop-k.invariant
