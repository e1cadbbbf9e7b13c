-- How a loop over records goes on. Assumes nothing.
use Prim.Native.Nat.{ℕ, ◌+◌, ◌-◌}
use mathlib.Core.Path.{◌≡◌, sym, ◌∙◌, subst}
use native.Mathlib.Omega.{arith}
use Rattle.std.specs.Prelude.{List, length, drop}
use Rattle.vmd_format.specs.Fetch.{next_frame}
use Rattle.vmd_format.specs.Take.{property}
use Rattle.vmd_laws.specs.PlacesLaws.{property_in}
use Rattle.vmd_laws.specs.WalkLaws.{frame_ends}
use Rattle.vmd_form.specs.Compare.{agrees, compare_at}
use Rattle.vmd_form.specs.CompareLaws.{compared_stands}
use Rattle.vmd_form.specs.RowLaws.{Left, left_turn}
use Rattle.vmd_form.specs.FrameLaws.{FramesLeft, frames_turn}

module _ {s : List ℕ} {at n p left : ℕ} (q rest : ℕ) (r : rest + 1 ≡ left) where
  pub row_turn : {f : ℕ → List ℕ} {w : ℕ} → Left s f w at n p left → length (f p) ≡ w → agrees q ≡ compare_at s p (f p) → Left s f w at n (p + w) rest
  row_turn {f} {w} i k e =
      let h : left - 1 ≡ rest = omega arith in
      subst (λ (t : ℕ). Left s f w at n (p + w) t) h (left_turn i (omega arith) k q e)

  -- at the place that comparing the frame gave
  pub frame_turn : FramesLeft s at n p left → agrees q ≡ compare_at s p (property.write (property_in s p)) → FramesLeft s at n q rest
  frame_turn i e =
      let d = compared_stands p (drop p s) (property.write (property_in s p)) q (sym e) in
      let g : next_frame s p ≡ q = sym (d.next ∙ frame_ends s p) in
      let h : left - 1 ≡ rest = omega arith in
      subst (λ (t : ℕ). FramesLeft s at n q t) h (subst (λ (t : ℕ). FramesLeft s at n t (left - 1)) g (frames_turn i (omega arith) q e))
