-- A name that code found in its field, and eight bytes of one. Assumes nothing.
use Rattle.std.specs.Prelude.{ℕ, ◌+◌, ◌-◌, ◌≤◌, ◌≡◌, true, List, length, take, drop, replicate}
use Rattle.std.proofs.Common.{sym, ap, ◌∙◌, arith, length-drop, length-take-le}
use Rattle.std.proofs.Math.Nat.{add-sub_cancel_left}
use Rattle.vmd_format.specs.Bytes.{before_zero}
use Rattle.vmd_bytes.specs.Slices.{run}
use Rattle.vmd_bytes.specs.Fields.{canonical}
use Rattle.vmd_bytes.specs.Words.{digits}
use Rattle.vmd_form.specs.Compare.{compare_at}
use Rattle.vmd_form.specs.FieldLaws.{padded_zeros}
use Rattle.vmd_form.specs.Form.{ZerosAfter}
use Rattle.vmd_form.specs.RowLaws.{name_short, name_split}
use Rattle.vmd_form.specs.Rows.{name_field}

-- eight bytes that are canonical by themselves have nothing but zeros after a zero
pub plain_word : (s : List ℕ) (at x y : ℕ) → at + 8 ≤ length s → digits 8 x ≡ run s at 8 → digits 8 y ≡ canonical true (digits 8 x) → y ≡ x → ZerosAfter s at 8
unfolding run canonical
plain_word s at x y h e f g =
    let k : length (take 8 (drop at s)) ≡ 8 = length-take-le 8 (drop at s) (rw length-drop (omega arith)) in
    padded_zeros s at 8 h (rw (e, k) at (sym f ∙ ap (digits 8) g))

-- the field differs where there is something other than zeros after the name
pub trimmed : (s l : List ℕ) (at w : ℕ) → at + w ≤ length s → l ≡ before_zero (take (at + w - at) (drop at s))
    → (length l ≤ w) × (compare_at s at (name_field s w at) ≡ compare_at s (at + length l) (replicate (w - length l) 0))
trimmed s l at w h e =
    let f : l ≡ before_zero (take w (drop at s)) = rw add-sub_cancel_left at e in
    (rw f (name_short s at w h), name_split s at w (length l) h (ap length f))
