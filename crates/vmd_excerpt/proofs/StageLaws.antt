-- Laws of an excerpt by where its records stand: its bytes, its length, and what is answered.
use Rattle.std.specs.Prelude.{ℕ, ◌≤◌, ◌<◌, ◌≡◌, refl, Bool, true, false, leb, length, replicate}
use Rattle.std.proofs.Common.{ap, sym, ◌∙◌, arith, le-leb}
use mathlib.Core.List.{List, ◌++◌, append_assoc}
use Rattle.std.proofs.lemmas.Bool.{lt-leb}
use Rattle.std.proofs.lemmas.List.{length-replicate}
use Rattle.vmd_format.specs.Refusal.{Refusal, first_above_last, output_too_short}
use Rattle.vmd_format.specs.Answer.{declined, given, map_answer, unless, within}
use Rattle.vmd_format.specs.Read.{Manner}
use Rattle.vmd_format.specs.Take.{newer, write_header, write_sections, write_edition, write_take, take_of}
use Rattle.vmd_format.specs.Opening.{Scan, ik_total}
use Rattle.vmd_format.specs.Fetch.{model_of}
use Rattle.vmd_format.specs.Join.{file_length}
use Rattle.vmd_laws.specs.Lengths.{edition_length}
use Rattle.vmd_laws.specs.Places.{scan_file}
use Rattle.vmd_laws.specs.PlacesLaws.{section_in}
use Rattle.vmd_laws.specs.ScanLaws.{file_in}
use Rattle.vmd_laws.specs.ExportLaws.{Scanned, take_in, take_by_places, scan_counts, scan_length}
use Rattle.vmd_bytes.specs.Written.{Room, Rest}
use Rattle.vmd_bytes.proofs.Writes.{rest_as}
use Rattle.vmd_output.proofs.Saves.{saves_room}
use Rattle.vmd_records.specs.declared.VmdKind.TheVariants as kind
use Rattle.vmd_framed.specs.Excerpt.{excerpt}
use Rattle.vmd_excerpt.specs.Excerpted.{excerpt_file}
use Rattle.vmd_framed.proofs.ExcerptLaws.{never_longer}
use Rattle.vmd_excerpt_sections.specs.Rows.{kept_rows, kept_frames}
use Rattle.vmd_excerpt.specs.Stages.{bone_bytes, morph_bytes, camera_bytes, light_bytes, shadow_bytes, frame_bytes, front_bytes, back_bytes}

module _ (first last : ℕ) (s : List ℕ) (x : Scan) where
  abbrev pub bytes : List ℕ
  bytes = write_take (excerpt first last (take_in s x))

  -- ---- bytes one after another

  file_bytes : bytes ≡ write_header newer (model_of s) ++ (front_bytes first last s x ++ back_bytes first last s x)
  unfolding write_take write_edition write_sections front_bytes back_bytes excerpt take_in take_of file_in section_in kept_rows kept_frames
  file_bytes = simp append_assoc

  module _ {out : List ℕ} {to : ℕ} where
    pub front_rest : Room out to (front_bytes first last s x)
        → Rest out to (front_bytes first last s x) out to (bone_bytes first last s x ++ (morph_bytes first last s x ++ camera_bytes first last s x))
    front_rest h = rest_as (unfold front_bytes in refl) h

    pub back_rest : Room out to (back_bytes first last s x)
        → Rest out to (back_bytes first last s x) out to (light_bytes first last s x ++ (shadow_bytes first last s x ++ frame_bytes first last s x))
    back_rest h = rest_as (unfold back_bytes in refl) h

    pub file_rest : Room out to bytes → (m : List ℕ) → m ≡ model_of s
        → Rest out to bytes out to (write_header newer m ++ (front_bytes first last s x ++ back_bytes first last s x))
    file_rest h m e = rest_as (file_bytes ∙ ap (λ n. write_header newer n ++ (front_bytes first last s x ++ back_bytes first last s x)) (sym e)) h

  -- ---- lengths

  pub count_sizes : (b m c l d p k : ℕ)
      → b ≡ length (kept_rows kind.Bone first last s x.bones.count x.bones.place)
      → m ≡ length (kept_rows kind.Morph first last s x.morphs.count x.morphs.place)
      → c ≡ length (kept_rows kind.Camera first last s x.cameras.count x.cameras.place)
      → l ≡ length (kept_rows kind.Light first last s x.lights.count x.lights.place)
      → d ≡ length (kept_rows kind.SelfShadow first last s x.self_shadows.count x.self_shadows.place)
      → p ≡ length (kept_frames first last s x.properties.count x.properties.place)
      → k ≡ ik_total (kept_frames first last s x.properties.count x.properties.place)
      → file_length newer b m c l d p k ≡ length bytes
  unfolding write_take excerpt take_in take_of file_in section_in kept_rows kept_frames
  count_sizes b m c l d p k e₁ e₂ e₃ e₄ e₅ e₆ e₇ =
      rw (e₁, e₂, e₃, e₄, e₅, e₆, e₇) (sym (edition_length newer (excerpt first last (take_in s x))))

  -- an output that can hold the export can hold the excerpt
  pub export_room : Scanned s x → {out : List ℕ} (n : ℕ)
      → given n ≡ within (length out) (file_length newer x.bones.count x.morphs.count x.cameras.count x.lights.count x.self_shadows.count x.properties.count x.ik_states)
      → Room out 0 bytes
  unfolding write_take
  export_room h {out} n e =
      let r = saves_room (write_edition newer (take_in s x)) (scan_length newer (take_in s x) x (scan_counts s x h)) {out = out} n e in
      record { room = omega (arith, r.room, never_longer first last (take_in s x)) }

  -- so it is within a limit where the export is
  pub export_fits : Scanned s x → (limit n : ℕ)
      → given n ≡ within limit (file_length newer x.bones.count x.morphs.count x.cameras.count x.lights.count x.self_shadows.count x.properties.count x.ik_states)
      → given (length bytes) ≡ within limit (length bytes)
  unfolding within unless
  export_fits h limit n e =
      let r = export_room h {out = replicate limit 0} n (rw length-replicate e) in
      rw (le-leb (length bytes) limit (omega (arith, r.room, length-replicate {A = ℕ} limit 0)))

  -- and where its own length was found to be
  pub own_fits : (limit n : ℕ) → given n ≡ within limit (length bytes) → given (length bytes) ≡ within limit (length bytes)
  unfolding within unless
  own_fits limit n e = go (leb (length bytes) limit) e
    where
      go : (b : Bool) → given n ≡ unless b output_too_short (given (length bytes)) → given (length bytes) ≡ unless b output_too_short (given (length bytes))
      go true e = refl
      go false e = let z : ◌≡◌ {A = ℕ} 0 1 = cc in absurd (omega arith)

-- ---- what is written

module _ (m : Manner) (first last : ℕ) (s : List ℕ) where
  pub file_above : last < first → excerpt_file m first last s ≡ declined first_above_last
  unfolding excerpt_file unless
  file_above h = rw (lt-leb first last h)

  pub file_refused : first ≤ last → (k : Refusal) → scan_file m s ≡ declined k → excerpt_file m first last s ≡ declined k
  unfolding excerpt_file unless map_answer
  file_refused h k e = rw (le-leb first last h, take_by_places m s, e)

  pub file_scanned : first ≤ last → (x : Scan) → scan_file m s ≡ given x → given (bytes first last s x) ≡ excerpt_file m first last s
  unfolding excerpt_file unless map_answer
  file_scanned h x e = rw (le-leb first last h, take_by_places m s, e)
