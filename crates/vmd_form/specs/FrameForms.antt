-- Property frames that stand in a file, and what is seen in their bytes. Assumes nothing.
use Prim.Native.Nat.{ℕ, zero, suc, ◌+◌, ◌*◌, ◌≤◌, ◌<◌}
use Rattle.std.specs.Prelude.{◌≡◌, drop}
use Rattle.std.proofs.Math.Path.{refl, ap}
use Rattle.std.proofs.Common.{sym, ◌∙◌, subst}
use mathlib.Core.List.{List, []}
use native.Mathlib.Omega.{arith}
use Rattle.std.proofs.Math.ListN.{length}
use Rattle.vmd_format.specs.Bytes.{u32}
use Rattle.vmd_format.specs.Fetch.{next_frame}
use Rattle.vmd_format.specs.Read.{write_all}
use Rattle.vmd_format.specs.Take.{property}
use Rattle.vmd_laws.specs.BytesLaws.{Bytes}
use Rattle.vmd_laws.specs.Places.{Reaches, frame_end}
use Rattle.vmd_laws.specs.PlacesLaws.{property_in, frames_in}
use Rattle.vmd_laws.specs.WalkLaws.{frame_ends}
use Rattle.vmd_form.specs.Compare.{agrees, compare_at}
use Rattle.vmd_form.specs.CompareLaws.{compared_stands, next_agrees}
use Rattle.vmd_form.specs.FieldLaws.{none_agrees, flag_agrees}
use Rattle.vmd_form.specs.Form.{ZerosAfter, ZeroOrOne, state_place, states_of}
use Rattle.vmd_form.specs.FrameLaws.{frame_agrees, flag_next}
use Rattle.vmd_form.specs.RowForms.{flag_plain, ik_plain, plain_ik, each_row, all_rows}
use Rattle.vmd_form.specs.RowLaws.{ik_length}
use Rattle.vmd_form.specs.Rows.{flag_field, ik_row}
use Rattle.vmd_form.specs.StageLaws.{Both, both_agree}

-- what is seen of the frame at a place
pub record FramePlain (s : List ℕ) (at : ℕ) : Type 0 where
  pub visible : ZeroOrOne s (at + 4)
  pub names : (j : ℕ) → j < states_of s at → ZerosAfter s (state_place at j) 20
  pub enabled : (j : ℕ) → j < states_of s at → ZeroOrOne s (state_place at j + 20)

module _ (s : List ℕ) (b : Bytes s) (at : ℕ) (h : next_frame s at ≤ length s) where
  state_room : (j : ℕ) → j < states_of s at → at + 9 + j * 21 + 21 ≤ length s
  unfolding next_frame states_of
  state_room j l = omega arith

  states_room : at + 9 + states_of s at * 21 ≤ length s
  unfolding next_frame states_of
  states_room = omega arith

  flag_room : at + 4 + 1 ≤ length s
  unfolding next_frame
  flag_room = omega arith

  pub frame_plain : (q : ℕ) → compare_at s at (property.write (property_in s at)) ≡ agrees q → FramePlain s at
  unfolding state_place states_of
  frame_plain q e =
      let k = both_agree s (at + 4) (flag_field s (at + 4)) _ q (sym (flag_next s b at h) ∙ e) in
      let r = each_row s (ik_row s) 21 (λ (p : ℕ) (l : p + 21 ≤ length s). ik_length s p) (states_of s at) (at + 9) q states_room (sym (frame_agrees s b at h k.between k.first) ∙ e) in
      record {
        visible = flag_plain s (at + 4) k.between flag_room k.first;
        names = λ (j : ℕ) (l : j < states_of s at). (ik_plain s (at + 9 + j * 21) _ (state_room j l) (r j l)).0;
        enabled = λ (j : ℕ) (l : j < states_of s at). (ik_plain s (at + 9 + j * 21) _ (state_room j l) (r j l)).1;
      }

  pub plain_frame : FramePlain s at → compare_at s at (property.write (property_in s at)) ≡ agrees (next_frame s at)
  unfolding state_place states_of next_frame
  plain_frame f =
      let d : at + 9 + u32 (drop (at + 5) s) * 21 ≡ next_frame s at = omega arith in
      frame_agrees s b at h (at + 4 + 1) (flag_agrees s (at + 4) flag_room f.visible)
      ∙ all_rows s (ik_row s) 21 (λ (p : ℕ) (l : p + 21 ≤ length s). ik_length s p) (states_of s at) (at + 9) states_room
      (λ (j : ℕ) (l : j < states_of s at). plain_ik s (at + 9 + j * 21) (state_room j l) (f.names j l) (f.enabled j l))
      ∙ ap agrees d

-- ---- frames one after another

module _ (s : List ℕ) (b : Bytes s) where
  pub each_frame : (n at q : ℕ) → Reaches s n at → compare_at s at (write_all property.write (frames_in s n at)) ≡ agrees q
      → (i : ℕ) → i < n → FramePlain s (frame_end s i at)
  unfolding Reaches frames_in write_all frame_end
  each_frame zero at q h e i l = absurd (omega arith)
  each_frame (suc n) at q h e i l = go (both_agree s at (property.write (property_in s at)) _ q e) (each_frame n (next_frame s at) q h.1) i l
    where
      go : Both s at (property.write (property_in s at)) (write_all property.write (frames_in s n (next_frame s at))) q
          → (compare_at s (next_frame s at) (write_all property.write (frames_in s n (next_frame s at))) ≡ agrees q → (i : ℕ) → i < n → FramePlain s (frame_end s i (next_frame s at)))
          → (i : ℕ) → i < suc n → FramePlain s (frame_end s i at)
      go k r zero l = frame_plain s b at h.0 k.between k.first
      go k r (suc i) l =
          let d = compared_stands at (drop at s) (property.write (property_in s at)) k.between k.first in
          let g : k.between ≡ next_frame s at = d.next ∙ frame_ends s at in
          r (subst (λ (j : ℕ). compare_at s j (write_all property.write (frames_in s n (next_frame s at))) ≡ agrees q) g k.second) i (omega arith)

  pub all_frames : (n at : ℕ) → Reaches s n at → ((i : ℕ) → i < n → FramePlain s (frame_end s i at))
      → compare_at s at (write_all property.write (frames_in s n at)) ≡ agrees (frame_end s n at)
  unfolding Reaches frames_in write_all frame_end
  all_frames zero at h r = none_agrees s at [] refl
  all_frames (suc n) at h r =
      next_agrees s at (property.write (property_in s at)) _ (next_frame s at) (plain_frame s b at h.0 (r 0 (omega arith)))
      ∙ all_frames n (next_frame s at) h.1 (λ (i : ℕ) (l : i < n). r (suc i) (omega arith))
