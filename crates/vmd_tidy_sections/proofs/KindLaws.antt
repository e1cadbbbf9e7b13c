-- What the records of a kind are told apart by, and what is kept of them so.
use Rattle.std.specs.Prelude.{ℕ, ◌+◌, ◌*◌, ◌≤◌, ◌≡◌, refl, List, length, drop}
use Rattle.std.proofs.Common.{ap, ◌∙◌, arith}
use Rattle.vmd_format.specs.Bytes.{u32}
use Rattle.vmd_format.specs.Opening.{Extent}
use Rattle.vmd_laws.specs.BytesLaws.{Bytes}
use Rattle.vmd_keys.specs.Names.{track_in}
use Rattle.vmd_tracks.specs.Tracks.{lasts, tidy_section}
use Rattle.vmd_records.specs.declared.VmdKind.{VmdKind}
use Rattle.vmd_records.specs.declared.VmdKind.TheVariants as kind
use Rattle.vmd_records.specs.Kinds.{size_of}
use Rattle.vmd_sort.specs.declared.VmdOrder.TheVariants as order
use Rattle.vmd_sort.specs.Order.{there, key}
use Rattle.vmd_sort.specs.Walk.{step, places_by, end_by}
use Rattle.vmd_tidy_sections.specs.Sections.{order_of, tidied_places, tidied_rows}
use Rattle.vmd_tidy_sections.specs.SectionLaws.{one_kept}
use Rattle.vmd_tidy_sections.specs.CountLaws.{named_count, rows_many}

pub named_wide : (k : VmdKind) → order_of k ≡ order.NameFrame → 19 ≤ size_of k
named_wide kind.Bone e = omega arith
named_wide kind.Morph e = omega arith
named_wide kind.Camera e = absurd cc
named_wide kind.Light e = absurd cc
named_wide kind.SelfShadow e = absurd cc

module _ (s : List ℕ) (x : Extent) where
  pub named_ends : (k : VmdKind) → order_of k ≡ order.NameFrame → x.place + x.count * size_of k ≤ length s → x.place + size_of k * x.count ≤ length s
  named_ends kind.Bone e h = omega arith
  named_ends kind.Morph e h = omega arith
  named_ends kind.Camera e h = absurd cc
  named_ends kind.Light e h = absurd cc
  named_ends kind.SelfShadow e h = absurd cc

  pub named_places : (k : VmdKind) → order_of k ≡ order.NameFrame
      → tidy_section (track_in s) (λ p. u32 (drop (p + 15) s)) (places_by (step s (size_of k)) x.count x.place) ≡ tidied_places k s x
  unfolding tidied_places
  named_places kind.Bone e = refl
  named_places kind.Morph e = refl
  named_places kind.Camera e = absurd cc
  named_places kind.Light e = absurd cc
  named_places kind.SelfShadow e = absurd cc

  pub framed_places : (k : VmdKind) → ¬ (order_of k ≡ order.NameFrame) → end_by (step s (size_of k)) x.count x.place ≤ length s
      → lasts (there s) (places_by (step s (size_of k)) x.count x.place) ≡ tidied_places k s x
  unfolding tidied_places
  framed_places kind.Bone d h = absurd (d refl)
  framed_places kind.Morph d h = absurd (d refl)
  framed_places kind.Camera d h = one_kept s 61 x.count x.place (omega arith) h
  framed_places kind.Light d h = one_kept s 28 x.count x.place (omega arith) h
  framed_places kind.SelfShadow d h = one_kept s 9 x.count x.place (omega arith) h

  pub keys_kept : Bytes s → (k : VmdKind) → end_by (step s (size_of k)) x.count x.place ≤ length s
      → length (lasts (key (order_of k) s) (places_by (step s (size_of k)) x.count x.place)) ≡ length (tidied_rows k s x)
  unfolding tidied_places
  keys_kept bs kind.Bone h = named_count s bs 111 x.count x.place (omega arith) h ∙ rows_many kind.Bone s x
  keys_kept bs kind.Morph h = named_count s bs 23 x.count x.place (omega arith) h ∙ rows_many kind.Morph s x
  keys_kept bs kind.Camera h = ap length (framed_places kind.Camera (λ e. absurd cc) h) ∙ rows_many kind.Camera s x
  keys_kept bs kind.Light h = ap length (framed_places kind.Light (λ e. absurd cc) h) ∙ rows_many kind.Light s x
  keys_kept bs kind.SelfShadow h = ap length (framed_places kind.SelfShadow (λ e. absurd cc) h) ∙ rows_many kind.SelfShadow s x
