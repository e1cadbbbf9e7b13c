-- Rows that stand in a file, and what is seen in their bytes: zeros after names, flags that are 0 or 1. Assumes nothing.
use Prim.Native.Nat.{ℕ, zero, suc, ◌+◌, ◌-◌, ◌*◌, ◌≤◌, ◌<◌}
use Rattle.std.specs.Prelude.{◌≡◌, Bool, true, false, leb, length, get_or, take, drop}
use Rattle.std.proofs.Math.Path.{refl, ap, subst}
use Rattle.std.proofs.Common.{sym, ◌∙◌, leb-true, leb-false}
use mathlib.Core.List.{List, []}
use native.Mathlib.Omega.{arith}
use Rattle.std.proofs.Math.Nat.{zero-mul}
use Rattle.vmd_form.specs.Compare.{agrees, compare_at}
use Rattle.vmd_form.specs.CompareLaws.{compared_stands, next_agrees}
use Rattle.vmd_form.specs.FieldLaws.{none_agrees, flag_agrees, flag_differs, name_agrees, agrees_zeros}
use Rattle.vmd_form.specs.Form.{ZerosAfter, ZeroOrOne}
use Rattle.vmd_form.specs.RowLaws.{named_agrees, camera_is, ik_agrees}
use Rattle.vmd_form.specs.Rows.{rows, name_field, flag_field, named_row, camera_row, ik_row}
use Rattle.vmd_form.specs.StageLaws.{Both, both_agree}

-- ---- a row

-- a flag that stands is 0 or 1
pub flag_plain : (s : List ℕ) (at q : ℕ) → at + 1 ≤ length s → compare_at s at (flag_field s at) ≡ agrees q → ZeroOrOne s at
flag_plain s at q h e = go (leb (get_or s at 0) 1) refl
  where
    go : (x : Bool) → leb (get_or s at 0) 1 ≡ x → ZeroOrOne s at
    go true f = leb-true (get_or s at 0) 1 f
    go false f = let d = flag_differs s at h (leb-false (get_or s at 0) 1 f) in let z : ◌≡◌ {A = ℕ} 0 1 = cc in absurd (omega arith)

module _ (s : List ℕ) (at : ℕ) where
  pub named_plain : (w q : ℕ) → 15 ≤ w → at + w ≤ length s → compare_at s at (named_row s w at) ≡ agrees q → ZerosAfter s at 15
  unfolding named_row
  named_plain w q k h e = let b = both_agree s at (name_field s 15 at) (take (w - 15) (drop (at + 15) s)) q e in agrees_zeros s at 15 (omega arith) b.between b.first

  pub plain_named : (w : ℕ) → 15 ≤ w → at + w ≤ length s → ZerosAfter s at 15 → compare_at s at (named_row s w at) ≡ agrees (at + w)
  plain_named w k h z = named_agrees s at w (at + 15) k h (name_agrees s at 15 (omega arith) z)

  pub camera_plain : (q : ℕ) → at + 61 ≤ length s → compare_at s at (camera_row s at) ≡ agrees q → ZeroOrOne s (at + 60)
  camera_plain q h e = flag_plain s (at + 60) q (omega arith) (sym (camera_is s at h) ∙ e)

  pub plain_camera : at + 61 ≤ length s → ZeroOrOne s (at + 60) → compare_at s at (camera_row s at) ≡ agrees (at + 61)
  plain_camera h z = let d : at + 60 + 1 ≡ at + 61 = omega arith in camera_is s at h ∙ flag_agrees s (at + 60) (omega arith) z ∙ ap agrees d

  pub ik_plain : (q : ℕ) → at + 21 ≤ length s → compare_at s at (ik_row s at) ≡ agrees q → ZerosAfter s at 20 × ZeroOrOne s (at + 20)
  ik_plain q h e =
      let b : Both s at (name_field s 20 at) (flag_field s (at + 20)) q = (unfold ik_row in both_agree s at (name_field s 20 at) (flag_field s (at + 20)) q e) in
      let k = ik_agrees s at b.between b.first in
      (agrees_zeros s at 20 (omega arith) b.between b.first, flag_plain s (at + 20) q (omega arith) (sym k.1 ∙ e))

  pub plain_ik : at + 21 ≤ length s → ZerosAfter s at 20 → ZeroOrOne s (at + 20) → compare_at s at (ik_row s at) ≡ agrees (at + 21)
  plain_ik h z f =
      let d : at + 20 + 1 ≡ at + 21 = omega arith in
      (ik_agrees s at (at + 20) (name_agrees s at 20 (omega arith) z)).1 ∙ flag_agrees s (at + 20) (omega arith) f ∙ ap agrees d

-- ---- rows

module _ (s : List ℕ) (f : ℕ → List ℕ) (w : ℕ) (k : (p : ℕ) → p + w ≤ length s → length (f p) ≡ w) where
  -- each row stands where all do
  pub each_row : (n at q : ℕ) → at + n * w ≤ length s → compare_at s at (rows f w n at) ≡ agrees q
      → (i : ℕ) → i < n → compare_at s (at + i * w) (f (at + i * w)) ≡ agrees (at + i * w + w)
  unfolding rows
  each_row zero at q h e i l = absurd (omega arith)
  each_row (suc n) at q h e i l = go (both_agree s at (f at) (rows f w n (at + w)) q e) (each_row n (at + w) q (omega arith)) i l
    where
      go : Both s at (f at) (rows f w n (at + w)) q
          → (compare_at s (at + w) (rows f w n (at + w)) ≡ agrees q → (i : ℕ) → i < n → compare_at s (at + w + i * w) (f (at + w + i * w)) ≡ agrees (at + w + i * w + w))
          → (i : ℕ) → i < suc n → compare_at s (at + i * w) (f (at + i * w)) ≡ agrees (at + i * w + w)
      go b r i l =
          let d = compared_stands at (drop at s) (f at) b.between b.first in
          let m : b.between ≡ at + w = omega (arith, d.next, k at (omega arith)) in
          two i l (b.first ∙ ap agrees m) (subst (λ (j : ℕ). compare_at s j (rows f w n (at + w)) ≡ agrees q) m b.second) r
        where
          two : (i : ℕ) → i < suc n → compare_at s at (f at) ≡ agrees (at + w) → compare_at s (at + w) (rows f w n (at + w)) ≡ agrees q
              → (compare_at s (at + w) (rows f w n (at + w)) ≡ agrees q → (i : ℕ) → i < n → compare_at s (at + w + i * w) (f (at + w + i * w)) ≡ agrees (at + w + i * w + w))
              → compare_at s (at + i * w) (f (at + i * w)) ≡ agrees (at + i * w + w)
          two zero l e g r = let z : at ≡ at + 0 * w = rw zero-mul (omega arith) in subst (λ (j : ℕ). compare_at s j (f j) ≡ agrees (j + w)) z e
          two (suc i) l e g r = let z : at + w + i * w ≡ at + suc i * w = omega arith in subst (λ (j : ℕ). compare_at s j (f j) ≡ agrees (j + w)) z (r g i (omega arith))

  pub all_rows : (n at : ℕ) → at + n * w ≤ length s → ((i : ℕ) → i < n → compare_at s (at + i * w) (f (at + i * w)) ≡ agrees (at + i * w + w))
      → compare_at s at (rows f w n at) ≡ agrees (at + n * w)
  unfolding rows
  all_rows zero at h r = none_agrees s at [] refl ∙ ap agrees (rw zero-mul (omega arith))
  all_rows (suc n) at h r =
      let z : at + 0 * w ≡ at = rw zero-mul (omega arith) in
      let e : compare_at s at (f at) ≡ agrees (at + w) = subst (λ (j : ℕ). compare_at s j (f j) ≡ agrees (j + w)) z (r 0 (omega arith)) in
      let g : at + w + n * w ≡ at + suc n * w = omega arith in
      next_agrees s at (f at) (rows f w n (at + w)) (at + w) e
      ∙ all_rows n (at + w) (omega arith) (λ (i : ℕ) (l : i < n). (let y : at + suc i * w ≡ at + w + i * w = omega arith in subst (λ (j : ℕ). compare_at s j (f j) ≡ agrees (j + w)) y (r (suc i) (omega arith))))
      ∙ ap agrees g
