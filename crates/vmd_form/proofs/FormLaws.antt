-- A file equals its export exactly where it has the form that a technician sees (02 l): "This is shown to be the same as being
-- accepted with" that form. Assumes nothing.
use Rattle.std.specs.Prelude.{ℕ, zero, suc, ◌+◌, ◌-◌, ◌*◌, ◌≤◌, ◌<◌, ◌≡◌, refl, ◌↔◌, Bool, true, false, drop}
use Rattle.std.proofs.Math.Path.{ap, ap₂, sym}
use Rattle.std.proofs.Common.{◌∙◌, subst, arith, mul-le-mul_right, get_or-append-add}
use mathlib.Core.List.{List, [], ◌∷◌, ◌++◌, append_assoc}
use Rattle.std.proofs.Math.ListN.{length, get_or, take, length-drop}
use Rattle.std.proofs.Math.Seq.{get_or-take, take-add, length-take-le, ext_get_or, get_or-drop}
use Rattle.vmd_format.specs.Bytes.{u32, u32_bytes, padded}
use Rattle.vmd_format.specs.Answer.{given}
use Rattle.vmd_format.specs.Layout.{Layout}
use Rattle.vmd_format.specs.Read.{table, write_all}
use Rattle.vmd_format.specs.Records.{bone, morph, camera, light, self_shadow}
use Rattle.vmd_format.specs.Take.{magic, older_magic, newer, edition, edition_if, same, property, write_header, write_take}
use Rattle.vmd_format.specs.Opening.{Extent, Scan}
use Rattle.vmd_format.specs.Fetch.{model_of}
use Rattle.vmd_laws.specs.BytesLaws.{Bytes}
use Rattle.vmd_laws.specs.ExportLaws.{take_in}
use Rattle.vmd_laws.specs.Lengths.{header_length}
use Rattle.vmd_laws.specs.Places.{Reaches, frame_end}
use Rattle.vmd_laws.specs.PlacesLaws.{frames_in}
use Rattle.vmd_laws.specs.Rewriting.{light_rewrites, self_shadow_rewrites}
use Rattle.vmd_laws.specs.SizedLaws.{Sized, bone_sized, morph_sized, camera_sized, light_sized, self_shadow_sized}
use Rattle.vmd_laws.specs.WalkLaws.{walk_passed}
use Rattle.vmd_form.proofs.ChangeLaws.{same_is}
use Rattle.vmd_form.specs.Compare.{agrees, compare_at}
use Rattle.vmd_form.specs.CompareLaws.{compared_stands, stands_compared, next_agrees}
use Rattle.vmd_form.specs.FieldLaws.{name_agrees, agrees_zeros}
use Rattle.vmd_form.specs.Form.{ZerosAfter, ZeroOrOne, Counted, end_of, frame_place, Form}
use Rattle.vmd_form.specs.FrameForms.{FramePlain, each_frame, all_frames}
use Rattle.vmd_form.specs.FrameLaws.{number_agrees}
use Rattle.vmd_form.specs.Laying.{Laid, found, gone, HeaderRead, ScannedFrom, section_bytes, frames_bytes}
use Rattle.vmd_form.specs.RowForms.{named_plain, plain_named, camera_plain, plain_camera, each_row, all_rows}
use Rattle.vmd_form.specs.RowLaws.{named_length, camera_length, bone_rows, morph_rows, camera_rows}
use Rattle.vmd_form.specs.RowLaws as row
use Rattle.vmd_form.specs.Rows.{rows, named_row, camera_row}
use Rattle.vmd_form.specs.StageLaws.{both_agree, count_found, counted_bytes, counted_frames, section_stands}
use Rattle.vmd_form.proofs.WholeLaws.{magic_bytes, header_bytes, newer_places, magic_newer, header_agrees, file_bytes}
use Rattle.vmd_form.specs.Whole.{front_bytes, back_bytes}

-- ---- a section that stands: its count is there, and then its records stand

pub record SectionForm (size : ℕ) (s : List ℕ) (at : ℕ) (p : Extent) (v : List ℕ) (r : ℕ) : Type 0 where
  pub counted : Counted size s at
  pub place : p.place ≡ at + 4
  pub inside : p.place + p.count * size ≤ length s
  pub records : compare_at s p.place v ≡ agrees r

module _ {size : ℕ} {s : List ℕ} (b : Bytes s) {at : ℕ} {p : Extent} (l : Laid size s at p) (v : List ℕ) (r : ℕ) where
  pub section_form : compare_at s at (u32_bytes p.count ++ v) ≡ agrees r → SectionForm size s at p v r
  section_form e =
      let k = both_agree s at (u32_bytes p.count) v r e in
      let f = count_found l k.between k.first in
      record {
        counted = f.counted;
        place = f.place;
        inside = omega (arith, f.place, f.ends);
        records = subst (λ (i : ℕ). compare_at s i v ≡ agrees r) (f.next ∙ sym f.place) k.second;
      }

  -- a count that is there is the number of records
  pub laid_found : Counted size s at → (p.count ≡ u32 (drop at s)) × (p.place ≡ at + 4)
  laid_found c = go l
    where
      go : Laid size s at p → (p.count ≡ u32 (drop at s)) × (p.place ≡ at + 4)
      go (found d n q) = (n, q)
      go (gone g n q) = absurd (g c)

  pub form_section : Counted size s at → compare_at s p.place v ≡ agrees r → compare_at s at (u32_bytes p.count ++ v) ≡ agrees r
  form_section c e =
      let f = laid_found c in
      next_agrees s at (u32_bytes p.count) v (at + 4) (rw f.0 (number_agrees s b at c.present)) ∙ subst (λ (i : ℕ). compare_at s i v ≡ agrees r) f.1 e

  pub form_inside : Counted size s at → p.place + p.count * size ≤ length s
  form_inside c = let f = laid_found c in rw (f.0, f.1) (omega (arith, c.present, c.not_oversized))

-- ---- the header

abbrev zeros : List ℕ
zeros = 0 ∷ 0 ∷ 0 ∷ 0 ∷ []

zeros_at : (n : ℕ) → get_or zeros n 0 ≡ 0
zeros_at zero = refl
zeros_at (suc zero) = refl
zeros_at (suc (suc zero)) = refl
zeros_at (suc (suc (suc zero))) = refl
zeros_at (suc (suc (suc (suc n)))) = refl

reserved_in : (i : ℕ) → 26 ≤ i → get_or magic_bytes i 0 ≡ 0
unfolding magic
reserved_in i h =
    let d : 26 + (i - 26) ≡ i = omega arith in
    subst (λ (j : ℕ). get_or magic_bytes j 0 ≡ 0) d (get_or-append-add magic zeros (i - 26) 0 ∙ zeros_at (i - 26))

-- the newer edition is told by its magic
newer_told : (s : List ℕ) → edition s ≡ given newer → take 26 s ≡ magic
unfolding edition edition_if
newer_told s e = (same_is (take 26 s) magic).0 (go (same (take 26 s) magic) (same (take 26 s) older_magic) e)
  where
    go : (x y : Bool) → edition_if x y ≡ given newer → x ≡ true
    go true y f = refl
    go false true f = let z : ◌≡◌ {A = ℕ} 0 1 = cc in absurd (omega arith)
    go false false f = let z : ◌≡◌ {A = ℕ} 0 1 = cc in absurd (omega arith)

module _ {s : List ℕ} (c : HeaderRead s) where
  pub record HeaderForm : Type 0 where
    pub reserved : (i : ℕ) → 26 ≤ i → i < 30 → get_or s i 0 ≡ 0
    pub newer_edition : edition s ≡ given newer
    pub name : ZerosAfter s 30 20

  pub header_form : (q : ℕ) → compare_at s 0 (write_header newer (model_of s)) ≡ agrees q → HeaderForm
  unfolding magic
  header_form q e =
      let k = both_agree s 0 magic_bytes (padded 20 (model_of s)) q (sym (ap (compare_at s 0) (header_bytes (model_of s))) ∙ e) in
      let n = magic_newer c k.between k.first in
      let d = compared_stands 0 s magic_bytes k.between k.first in
      record {
        reserved = λ (i : ℕ) (h : 26 ≤ i) (l : i < 30). sym (get_or-take 30 s i 0 l) ∙ ap (λ (t : List ℕ). get_or t i 0) d.bytes ∙ reserved_in i h;
        newer_edition = n.edition_is;
        name = agrees_zeros s 30 20 n.long q (sym (header_agrees c k.between k.first) ∙ e);
      }

  pub form_header : HeaderForm → compare_at s 0 (write_header newer (model_of s)) ≡ agrees 50
  unfolding magic
  form_header f =
      let n = newer_places c f.newer_edition in
      let four : take 4 (drop 26 s) ≡ zeros =
      ext_get_or 0 (take 4 (drop 26 s)) zeros (length-take-le 4 (drop 26 s) (rw length-drop (omega (arith, n.long))))
      (λ (i : ℕ) (h : i < length (take 4 (drop 26 s))).
      (let l : i < 4 = omega (arith, h, length-take-le 4 (drop 26 s) (rw length-drop (omega (arith, n.long)))) in
      get_or-take 4 (drop 26 s) i 0 l ∙ get_or-drop 26 s i 0 ∙ f.reserved (26 + i) (omega arith) (omega arith) ∙ sym (zeros_at i))) in
      let whole : take 30 s ≡ magic_bytes = take-add 26 4 s ∙ ap₂ ◌++◌ (newer_told s f.newer_edition) four in
      let e = stands_compared 0 s magic_bytes whole in
      header_agrees c 30 e ∙ name_agrees s 30 20 n.long f.name

-- ---- each section

module _ {A : Type 0} (K : Layout A) {size : ℕ} (k : Sized K size) {s : List ℕ} (b : Bytes s) {at : ℕ} {p : Extent} (l : Laid size s at p) where
  abbrev written : List ℕ
  written = write_all K.encode (table K p.count (drop p.place s))

  piece : (r : ℕ) → compare_at s at (section_bytes K s p) ≡ agrees r → SectionForm size s at p written r × (r ≡ end_of size p)
  piece r e = (section_form b l written r (sym (ap (compare_at s at) (counted_bytes K s p)) ∙ e), (section_stands k l r e).ends)

  section_from : Counted size s at → (p.place + p.count * size ≤ length s → compare_at s p.place written ≡ agrees (p.place + p.count * size))
      → compare_at s at (section_bytes K s p) ≡ agrees (end_of size p)
  unfolding end_of
  section_from c e = ap (compare_at s at) (counted_bytes K s p) ∙ form_section b l written _ c (e (form_inside b l written 0 c))

-- bones and morphs, whose bytes are these rows
module _ (s : List ℕ) (w n at : ℕ) (k : 15 ≤ w) (h : at + n * w ≤ length s) (v : List ℕ) (d : v ≡ rows (named_row s w) w n at) where
  row_room : (i : ℕ) → i < n → at + i * w + w ≤ length s
  row_room i l = let m : suc i * w ≤ n * w = mul-le-mul_right w l in omega (arith, m)

  row_wide : (p : ℕ) → p + w ≤ length s → length (named_row s w p) ≡ w
  row_wide p m = named_length s p w k m

  names_plain : (q : ℕ) → compare_at s at v ≡ agrees q → (i : ℕ) → i < n → ZerosAfter s (at + i * w) 15
  names_plain q e i l = named_plain s (at + i * w) w _ k (row_room i l) (each_row s (named_row s w) w row_wide n at q h (sym (ap (compare_at s at) d) ∙ e) i l)

  plain_names : ((i : ℕ) → i < n → ZerosAfter s (at + i * w) 15) → compare_at s at v ≡ agrees (at + n * w)
  plain_names z =
      ap (compare_at s at) d ∙ all_rows s (named_row s w) w row_wide n at h (λ (i : ℕ) (l : i < n). plain_named s (at + i * w) w k (row_room i l) (z i l))

module _ (s : List ℕ) (b : Bytes s) (n at : ℕ) (h : at + n * 61 ≤ length s) where
  cameras_plain : (q : ℕ) → compare_at s at (write_all camera.encode (table camera n (drop at s))) ≡ agrees q → (i : ℕ) → i < n → ZeroOrOne s (at + i * 61 + 60)
  cameras_plain q e i l =
      camera_plain s (at + i * 61) _ (omega arith) (each_row s (camera_row s) 61 (λ (p : ℕ) (m : p + 61 ≤ length s). camera_length s p m) n at q h (sym (ap (compare_at s at) (camera_rows s b n at h)) ∙ e) i l)

  plain_cameras : ((i : ℕ) → i < n → ZeroOrOne s (at + i * 61 + 60)) → compare_at s at (write_all camera.encode (table camera n (drop at s))) ≡ agrees (at + n * 61)
  plain_cameras z =
      ap (compare_at s at) (camera_rows s b n at h)
      ∙ all_rows s (camera_row s) 61 (λ (p : ℕ) (m : p + 61 ≤ length s). camera_length s p m) n at h
      (λ (i : ℕ) (l : i < n). plain_camera s (at + i * 61) (omega arith) (z i l))

-- ---- the whole file

module _ {s : List ℕ} {x : Scan} (b : Bytes s) (c : ScannedFrom s x) where
  abbrev export : List ℕ
  export = write_take (take_in s x)

  abbrev frames : List ℕ
  frames = write_all property.write (frames_in s x.properties.count x.properties.place)

  reaches : Reaches s x.properties.count x.properties.place
  reaches = (walk_passed s _ _ 0 _ c.scanned.inside.walked).reaches

  -- the sections one after another, each from where the one before ends
  record Pieces (r : ℕ) : Type 0 where
    header : HeaderForm c.header
    sections : c.header.at ≡ 50
    bones : compare_at s 50 (section_bytes bone s x.bones) ≡ agrees (end_of 111 x.bones)
    morphs : compare_at s (end_of 111 x.bones) (section_bytes morph s x.morphs) ≡ agrees (end_of 23 x.morphs)
    cameras : compare_at s (end_of 23 x.morphs) (section_bytes camera s x.cameras) ≡ agrees (end_of 61 x.cameras)
    lights : compare_at s (end_of 61 x.cameras) (section_bytes light s x.lights) ≡ agrees (end_of 28 x.lights)
    self_shadows : compare_at s (end_of 28 x.lights) (section_bytes self_shadow s x.self_shadows) ≡ agrees (end_of 9 x.self_shadows)
    properties : compare_at s (end_of 9 x.self_shadows) (frames_bytes s x.properties) ≡ agrees r

  -- what is compared after a section that stands
  record After {A : Type 0} (K : Layout A) (size at : ℕ) (p : Extent) (w : List ℕ) (r : ℕ) : Type 0 where
    here : compare_at s at (section_bytes K s p) ≡ agrees (end_of size p)
    rest : compare_at s (end_of size p) w ≡ agrees r

  after : {A : Type 0} (K : Layout A) {size : ℕ} → Sized K size → {at : ℕ} (p : Extent) → Laid size s at p → (w : List ℕ) (r : ℕ)
      → compare_at s at (section_bytes K s p ++ w) ≡ agrees r → After K size at p w r
  after K {size} k {at} p l w r e =
      let q = both_agree s at (section_bytes K s p) w r e in
      let d = (section_stands k l q.between q.first).ends in
      record { here = q.first ∙ ap agrees d; rest = subst (λ (i : ℕ). compare_at s i w ≡ agrees r) d q.second }

  abbrev all_sections : List ℕ
  all_sections =
      section_bytes bone s x.bones ++ (section_bytes morph s x.morphs ++ (section_bytes camera s x.cameras
      ++ (section_bytes light s x.lights ++ (section_bytes self_shadow s x.self_shadows ++ frames_bytes s x.properties))))

  sections_grouped : front_bytes s x ++ back_bytes s x ≡ all_sections
  unfolding front_bytes back_bytes
  sections_grouped = simp append_assoc

  pieces : (r : ℕ) → compare_at s 0 export ≡ agrees r → Pieces r
  pieces r e =
      let h = both_agree s 0 (write_header newer (model_of s)) (front_bytes s x ++ back_bytes s x) r (sym (ap (compare_at s 0) (file_bytes s x)) ∙ e) in
      let f = header_form c.header h.between h.first in
      let n = newer_places c.header f.newer_edition in
      let d : h.between ≡ 50 = (compared_stands 0 s (write_header newer (model_of s)) h.between h.first).next ∙ ap (λ (i : ℕ). 0 + i) (header_length newer (model_of s)) in
      let sections : compare_at s 50 all_sections ≡ agrees r =
      subst (λ (i : ℕ). compare_at s i all_sections ≡ agrees r) d (ap (compare_at s h.between) (sym sections_grouped) ∙ h.second) in
      let first : Laid 111 s 50 x.bones = subst (λ (i : ℕ). Laid 111 s i x.bones) n.sections c.laid.bones in
      let p1 = after bone bone_sized x.bones first _ r sections in
      let p2 = after morph morph_sized x.morphs c.laid.morphs _ r p1.rest in
      let p3 = after camera camera_sized x.cameras c.laid.cameras _ r p2.rest in
      let p4 = after light light_sized x.lights c.laid.lights _ r p3.rest in
      let p5 = after self_shadow self_shadow_sized x.self_shadows c.laid.self_shadows _ r p4.rest in
      record {
        header = f;
        sections = n.sections;
        bones = p1.here;
        morphs = p2.here;
        cameras = p3.here;
        lights = p4.here;
        self_shadows = p5.here;
        properties = p5.rest;
      }

  all_pieces : (r : ℕ) → Pieces r → compare_at s 0 export ≡ agrees r
  all_pieces r p =
      ap (compare_at s 0) (file_bytes s x)
      ∙ next_agrees s 0 (write_header newer (model_of s)) (front_bytes s x ++ back_bytes s x) 50 (form_header c.header p.header)
      ∙ ap (compare_at s 50) sections_grouped
      ∙ next_agrees s 50 (section_bytes bone s x.bones) _ (end_of 111 x.bones) p.bones
      ∙ next_agrees s (end_of 111 x.bones) (section_bytes morph s x.morphs) _ (end_of 23 x.morphs) p.morphs
      ∙ next_agrees s (end_of 23 x.morphs) (section_bytes camera s x.cameras) _ (end_of 61 x.cameras) p.cameras
      ∙ next_agrees s (end_of 61 x.cameras) (section_bytes light s x.lights) _ (end_of 28 x.lights) p.lights
      ∙ next_agrees s (end_of 28 x.lights) (section_bytes self_shadow s x.self_shadows) (frames_bytes s x.properties) (end_of 9 x.self_shadows) p.self_shadows
      ∙ p.properties

  -- ---- both ways

  laid_first : c.header.at ≡ 50 → Laid 111 s 50 x.bones
  laid_first e = subst (λ (i : ℕ). Laid 111 s i x.bones) e c.laid.bones

  pieces_form : Pieces (length s) → Form s x
  unfolding frame_place
  pieces_form p =
      let bones = (piece bone bone_sized b (laid_first p.sections) _ p.bones).0 in
      let morphs = (piece morph morph_sized b c.laid.morphs _ p.morphs).0 in
      let cameras = (piece camera camera_sized b c.laid.cameras _ p.cameras).0 in
      let lights = (piece light light_sized b c.laid.lights _ p.lights).0 in
      let shadows = (piece self_shadow self_shadow_sized b c.laid.self_shadows _ p.self_shadows).0 in
      let properties = section_form b c.laid.properties frames (length s) (sym (ap (compare_at s (end_of 9 x.self_shadows)) (counted_frames s x.properties)) ∙ p.properties) in
      let each = each_frame s b x.properties.count x.properties.place (length s) reaches properties.records in
      let end = all_frames s b x.properties.count x.properties.place reaches each in
      record {
        reserved = p.header.reserved;
        newer_edition = p.header.newer_edition;
        counts = record {
          bones = bones.counted;
          morphs = morphs.counted;
          cameras = cameras.counted;
          lights = lights.counted;
          self_shadows = shadows.counted;
          properties = properties.counted;
        };
        names = record {
          model = p.header.name;
          bones = names_plain s 111 x.bones.count x.bones.place (omega arith) bones.inside _ (bone_rows s b x.bones.count x.bones.place bones.inside) _ bones.records;
          morphs = names_plain s 23 x.morphs.count x.morphs.place (omega arith) morphs.inside _ (morph_rows s b x.morphs.count x.morphs.place morphs.inside) _ morphs.records;
          ik_states = λ (i j : ℕ) (l : i < x.properties.count). (each i l).names j;
        };
        flags = record {
          perspective = cameras_plain s b x.cameras.count x.cameras.place cameras.inside _ cameras.records;
          visible = λ (i : ℕ) (l : i < x.properties.count). (each i l).visible;
          enabled = λ (i j : ℕ) (l : i < x.properties.count). (each i l).enabled j;
        };
        none_over = same_end _ _ (sym end ∙ properties.records);
      }
    where
      same_end : (p q : ℕ) → agrees p ≡ agrees q → p ≡ q
      same_end p q e = cc

  form_pieces : Form s x → Pieces (length s)
  unfolding frame_place
  form_pieces f =
      let n = newer_places c.header f.newer_edition in
      let each : (i : ℕ) → i < x.properties.count → FramePlain s (frame_end s i x.properties.place) =
      λ (i : ℕ) (l : i < x.properties.count). record {
        visible = f.flags.visible i l;
        names = λ (j : ℕ). f.names.ik_states i j l;
        enabled = λ (j : ℕ). f.flags.enabled i j l;
      } in
      record {
        header = record { reserved = f.reserved; newer_edition = f.newer_edition; name = f.names.model };
        sections = n.sections;
        bones = section_from bone bone_sized b (laid_first n.sections) f.counts.bones
            λ h. plain_names s 111 x.bones.count x.bones.place (omega arith) h _ (bone_rows s b x.bones.count x.bones.place h) f.names.bones;
        morphs = section_from morph morph_sized b c.laid.morphs f.counts.morphs
            λ h. plain_names s 23 x.morphs.count x.morphs.place (omega arith) h _ (morph_rows s b x.morphs.count x.morphs.place h) f.names.morphs;
        cameras = section_from camera camera_sized b c.laid.cameras f.counts.cameras
            λ h. plain_cameras s b x.cameras.count x.cameras.place h f.flags.perspective;
        lights = section_from light light_sized b c.laid.lights f.counts.lights
            λ h. row.section_agrees s b light_rewrites x.lights.count x.lights.place h;
        self_shadows = section_from self_shadow self_shadow_sized b c.laid.self_shadows f.counts.self_shadows
            λ h. row.section_agrees s b self_shadow_rewrites x.self_shadows.count x.self_shadows.place h;
        properties =
            ap (compare_at s (end_of 9 x.self_shadows)) (counted_frames s x.properties)
            ∙ form_section b c.laid.properties frames (length s) f.counts.properties
            (all_frames s b x.properties.count x.properties.place reaches each ∙ ap agrees f.none_over);
      }

  -- the whole file is compared to its end exactly where it has that form
  pub whole_form : (compare_at s 0 export ≡ agrees (length s)) ↔ Form s x
  whole_form = (λ e. pieces_form (pieces (length s) e), λ f. all_pieces (length s) (form_pieces f))
