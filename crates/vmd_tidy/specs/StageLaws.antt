-- Laws of a scanned take that is tidied section by section.
use Rattle.std.specs.Prelude.{ℕ, ◌+◌, ◌-◌, ◌≤◌, ◌<◌, ◌≡◌, refl, Bool, true, false, List, ◌++◌, leb, drop, replicate}
use Rattle.std.proofs.Math.Path.{ap, sym}
use Rattle.std.proofs.Common.{◌∙◌, append_assoc, zero-add, arith, le-leb, leb-true, drop-drop}
use Rattle.std.proofs.lemmas.Bool.{lt-leb}
use Rattle.std.proofs.Math.ListN.{length}
use Rattle.vmd_format.specs.Refusal.{Refusal, scratch_too_short, output_too_short}
use Rattle.vmd_format.specs.Answer.{declined, given, map_answer, and_then, unless, within, left}
use Rattle.vmd_format.specs.Read.{Manner, fixed, write_counted}
use Rattle.vmd_format.specs.Records.{bone, morph, camera, light, self_shadow}
use Rattle.vmd_format.specs.Fetch.{model_of}
use Rattle.vmd_format.specs.Take.{Take, newer, property, take_of, write_take, write_edition, write_header, write_sections}
use Rattle.vmd_format.specs.Opening.{Scan, ik_total}
use Rattle.vmd_laws.specs.Places.{scan_file}
use Rattle.vmd_laws.specs.ScanLaws.{file_in}
use Rattle.vmd_laws.specs.PlacesLaws.{section_in}
use Rattle.vmd_format.specs.Join.{file_length}
use Rattle.vmd_laws.specs.Lengths.{edition_length}
use Rattle.vmd_laws.specs.InsideLaws.{inside_reaches}
use Rattle.vmd_laws.specs.ExportLaws.{Scanned, take_in, scan_counts, scan_length, take_by_places}
use Rattle.vmd_bytes.specs.Slices.{splice}
use Rattle.vmd_bytes.specs.Written.{Room, Wrote, Rest}
use Rattle.vmd_bytes.proofs.Writes.{rest_as}
use Rattle.vmd_records.specs.declared.VmdKind.TheVariants as kind
use Rattle.vmd_tables.specs.Leading.{Beyond}
use Rattle.vmd_sort.specs.Walk.{step, end_by}
use Rattle.vmd_tidy_sections.specs.Sections.{tidied_rows, tidied_frames}
use Rattle.vmd_tidy_sections.specs.WalkLaws.{reach_ends}
use Rattle.vmd_keys.specs.Names.{registration_name}
use Rattle.vmd_tracks.specs.Tidy.{tidy, tidy_by}
use Rattle.vmd_tidy.specs.Tidied.{Counts, counts_of, dropped_by, largest_section, tidied_file, fitting, tidying, Report, report, cleared}
use Rattle.vmd_tidy.specs.TidyLaws.{never_longer, tidy_together}
use Rattle.vmd_tidy.specs.Stages.{is_given, size_given, largest_count, tidied_at, counts_at, front_bytes, back_bytes, Front, Back, Fewer, Whole}

-- ---- the take

pub tidied_is : (s : List ℕ) (x : Scan) → tidied_at s x ≡ tidy (take_in s x)
unfolding tidied_at tidied_rows tidied_frames tidy tidy_by take_in take_of file_in section_in
tidied_is s x = refl

pub tidied_bytes : (s : List ℕ) (x : Scan) → write_take (tidied_at s x) ≡ tidied_file (take_in s x)
unfolding tidied_file
tidied_bytes s x = ap write_take (tidied_is s x)

pub largest_is : (s : List ℕ) (x : Scan) → Scanned s x → largest_section (take_in s x) ≡ largest_count x
unfolding largest_section largest_count
largest_is s x h = let q = scan_counts s x h in rw (q.bones, q.morphs, q.cameras, q.lights, q.self_shadows, q.properties)

-- ---- property frames lie in the file

pub scan_ends : (s : List ℕ) (x : Scan) → Scanned s x → end_by (step s 0) x.properties.count x.properties.place ≤ length s
scan_ends s x h = reach_ends s x.properties.count x.properties.place h.inside.properties.place (inside_reaches s x h.inside)

-- ---- places beyond

pub beyond_wider : {n m : ℕ} {a b : List ℕ} → n ≤ m → Beyond n a b → Beyond m a b
beyond_wider {n} {m} {a} {b} h k =
    let e : n + (m - n) ≡ m = omega arith in
    record { long = k.long; kept = sym (rw e at (drop-drop (m - n) n b)) ∙ ap (drop (m - n)) k.kept ∙ rw e at (drop-drop (m - n) n a) }

pub record Largest (x : Scan) : Type 0 where
  pub bones : x.bones.count ≤ largest_count x
  pub morphs : x.morphs.count ≤ largest_count x
  pub cameras : x.cameras.count ≤ largest_count x
  pub lights : x.lights.count ≤ largest_count x
  pub self_shadows : x.self_shadows.count ≤ largest_count x
  pub properties : x.properties.count ≤ largest_count x

pub largest : (x : Scan) → Largest x
unfolding largest_count
largest x = record {
  bones = omega arith;
  morphs = omega arith;
  cameras = omega arith;
  lights = omega arith;
  self_shadows = omega arith;
  properties = omega arith;
}

-- ---- lengths

pub within_given : (limit n : ℕ) → is_given (within limit n) ≡ leb n limit
unfolding within unless
within_given limit n = go (leb n limit)
  where
    go : (b : Bool) → is_given (unless b output_too_short (given n)) ≡ b
    go true = refl
    go false = refl

pub tidied_length : (s : List ℕ) (x : Scan) → length (write_take (tidied_at s x))
    ≡ file_length newer (length (tidied_at s x).bones) (length (tidied_at s x).morphs) (length (tidied_at s x).cameras) (length (tidied_at s x).lights)
    (length (tidied_at s x).self_shadows) (length (tidied_at s x).properties) (ik_total (tidied_at s x).properties)
unfolding write_take
tidied_length s x = edition_length newer (tidied_at s x)

-- an output of the export's length can hold the tidied file
pub export_fits : (s : List ℕ) (x : Scan) → Scanned s x → (limit : ℕ)
    → leb (file_length newer x.bones.count x.morphs.count x.cameras.count x.lights.count x.self_shadows.count x.properties.count x.ik_states) limit ≡ true
    → true ≡ leb (length (write_take (tidied_at s x))) limit
export_fits s x h limit e =
    let n : file_length newer x.bones.count x.morphs.count x.cameras.count x.lights.count x.self_shadows.count x.properties.count x.ik_states ≤ limit = leb-true _ _ e in
    let l : length (write_take (take_in s x)) ≡ file_length newer x.bones.count x.morphs.count x.cameras.count x.lights.count x.self_shadows.count x.properties.count x.ik_states =
    (unfold write_take in scan_length newer (take_in s x) x (scan_counts s x h)) in
    let m : length (write_take (tidied_at s x)) ≤ length (write_take (take_in s x)) = rw (tidied_bytes s x) (never_longer (take_in s x)) in
    sym (le-leb (length (write_take (tidied_at s x))) limit (omega arith))

-- ---- bytes

pub file_bytes : (s : List ℕ) (x : Scan) → write_take (tidied_at s x) ≡ write_header newer (tidied_at s x).model ++ (front_bytes s x ++ back_bytes s x)
unfolding write_take write_edition write_sections front_bytes back_bytes tidied_at
file_bytes s x = simp append_assoc

-- ---- numbers

abbrev pub counted : ℕ → ℕ → ℕ → ℕ → ℕ → ℕ → Counts
counted b m c l s p = record { bones = b; morphs = m; cameras = c; lights = l; self_shadows = s; properties = p }

counts_path : (k d : Counts) → k.bones ≡ d.bones → k.morphs ≡ d.morphs → k.cameras ≡ d.cameras → k.lights ≡ d.lights
    → k.self_shadows ≡ d.self_shadows → k.properties ≡ d.properties → k ≡ d
counts_path k d p q r t u v =
    let z : counted k.bones k.morphs k.cameras k.lights k.self_shadows k.properties
    ≡ counted d.bones d.morphs d.cameras d.lights d.self_shadows d.properties = cc in z

module _ (s : List ℕ) (x : Scan) (h : Scanned s x) where
  pub kept_fewer : Fewer (counts_at s x) x
  unfolding counts_at counts_of tidy
  kept_fewer =
      let q = scan_counts s x h in
      let t = tidy_together registration_name (take_in s x) in
      let e = tidied_is s x in
      record {
        bones = omega (arith, ap (λ u. length u.bones) e, t.bones, q.bones);
        morphs = omega (arith, ap (λ u. length u.morphs) e, t.morphs, q.morphs);
        cameras = omega (arith, ap (λ u. length u.cameras) e, t.cameras, q.cameras);
        lights = omega (arith, ap (λ u. length u.lights) e, t.lights, q.lights);
        self_shadows = omega (arith, ap (λ u. length u.self_shadows) e, t.self_shadows, q.self_shadows);
        properties = omega (arith, ap (λ u. length u.properties) e, t.properties, q.properties);
      }

  pub kept_is : counts_at s x ≡ counts_of (tidy (take_in s x))
  unfolding counts_at
  kept_is = ap counts_of (tidied_is s x)

  -- what is not kept was dropped
  pub dropped_is : (k d : Counts) → k ≡ counts_at s x → Whole k d x → d ≡ dropped_by registration_name (take_in s x)
  unfolding counts_of tidy
  dropped_is k d e w =
      let q = scan_counts s x h in
      let t = tidy_together registration_name (take_in s x) in
      let u = e ∙ kept_is in
      counts_path d (dropped_by registration_name (take_in s x))
      (omega (arith, ap (λ c. c.bones) u, t.bones, q.bones, w.bones))
      (omega (arith, ap (λ c. c.morphs) u, t.morphs, q.morphs, w.morphs))
      (omega (arith, ap (λ c. c.cameras) u, t.cameras, q.cameras, w.cameras))
      (omega (arith, ap (λ c. c.lights) u, t.lights, q.lights, w.lights))
      (omega (arith, ap (λ c. c.self_shadows) u, t.self_shadows, q.self_shadows, w.self_shadows))
      (omega (arith, ap (λ c. c.properties) u, t.properties, q.properties, w.properties))

  pub reported : (b : ℕ) (k d : Counts) → b ≡ length (write_take (tidied_at s x)) → k ≡ counts_at s x → Whole k d x
      → ◌≡◌ {A = Report} (record { bytes = b; kept = k; dropped = d }) (report (take_in s x))
  unfolding report
  reported b k d e f w =
      let p = e ∙ ap length (tidied_bytes s x) in
      let q = f ∙ kept_is in
      let r = dropped_is k d f w in
      cc

-- ---- what is answered

module _ (t : Take) (places room : ℕ) where
  pub fitting_short : places < largest_section t → fitting places room t ≡ declined scratch_too_short
  unfolding fitting unless
  fitting_short h = rw (lt-leb (largest_section t) places h)

  pub fitting_over : largest_section t ≤ places → leb (length (tidied_file t)) room ≡ false → fitting places room t ≡ declined output_too_short
  unfolding fitting unless
  fitting_over h e = rw (le-leb (largest_section t) places h, e)

  pub fitting_given : largest_section t ≤ places → leb (length (tidied_file t)) room ≡ true → fitting places room t ≡ given t
  unfolding fitting unless
  fitting_given h e = rw (le-leb (largest_section t) places h, e)

-- what stands in the scratch after a success
pub cleared_is : (n : ℕ) (t : Take) (a b c : List ℕ) → largest_section t ≡ n → Beyond n a b → c ≡ replicate n 0 ++ drop n b → c ≡ cleared a (given t)
unfolding cleared
cleared_is n t a b c e h k = rw (e, ← h.kept) k

pub wrote_left : (t : Take) (out bytes o : List ℕ) (p : ℕ) → bytes ≡ tidied_file t → Wrote out 0 bytes o p → o ≡ left out (given (tidied_file t))
unfolding left splice
wrote_left t out bytes o p e w = rw (← e) (w.holds ∙ rw (zero-add (length bytes)))

pub read_scanned : (m : Manner) (s : List ℕ) (places room : ℕ) (x : Scan) → scan_file m s ≡ given x → tidying m s places room ≡ fitting places room (take_in s x)
unfolding tidying and_then map_answer
read_scanned m s places room x e = rw (take_by_places m s, e)

pub read_refused : (m : Manner) (s : List ℕ) (places room : ℕ) (k : Refusal) → scan_file m s ≡ declined k → tidying m s places room ≡ declined k
unfolding tidying and_then map_answer
read_refused m s places room k e = rw (take_by_places m s, e)

-- ---- sections one after another

module _ (s : List ℕ) (x : Scan) where
  abbrev pub bone_bytes : List ℕ
  bone_bytes = write_counted (fixed bone) (tidied_rows kind.Bone s x.bones)

  abbrev pub morph_bytes : List ℕ
  morph_bytes = write_counted (fixed morph) (tidied_rows kind.Morph s x.morphs)

  abbrev pub camera_bytes : List ℕ
  camera_bytes = write_counted (fixed camera) (tidied_rows kind.Camera s x.cameras)

  abbrev pub light_bytes : List ℕ
  light_bytes = write_counted (fixed light) (tidied_rows kind.Light s x.lights)

  abbrev pub shadow_bytes : List ℕ
  shadow_bytes = write_counted (fixed self_shadow) (tidied_rows kind.SelfShadow s x.self_shadows)

  abbrev pub frame_bytes : List ℕ
  frame_bytes = write_counted property (tidied_frames s x.properties)

  module _ {out : List ℕ} {to : ℕ} where
    pub front_rest : Room out to (front_bytes s x) → Rest out to (front_bytes s x) out to (bone_bytes ++ (morph_bytes ++ camera_bytes))
    front_rest h = rest_as (unfold front_bytes in refl) h

    pub back_rest : Room out to (back_bytes s x) → Rest out to (back_bytes s x) out to (light_bytes ++ (shadow_bytes ++ frame_bytes))
    back_rest h = rest_as (unfold back_bytes in refl) h

    pub file_rest : Room out to (write_take (tidied_at s x)) → (m : List ℕ) → m ≡ model_of s
        → Rest out to (write_take (tidied_at s x)) out to (write_header newer m ++ (front_bytes s x ++ back_bytes s x))
    file_rest h m e = rest_as (file_bytes s x ∙ (unfold tidied_at in ap (λ n. write_header newer n ++ (front_bytes s x ++ back_bytes s x)) (sym e))) h

  -- numbers of records that fit as the tidied file does
  pub count_fits : (limit b m c l d p k : ℕ) → Front s x b m c → Back s x l d p → k ≡ ik_total (tidied_frames s x.properties)
      → leb (file_length newer b m c l d p k) limit ≡ leb (length (write_take (tidied_at s x))) limit
  unfolding tidied_at
  count_fits limit b m c l d p k f g e =
      rw (tidied_length s x, f.bones_are, f.morphs_are, f.cameras_are, g.lights_are, g.shadows_are, g.properties_are, e)

  pub count_sizes : (b m c l d p k : ℕ) → Front s x b m c → Back s x l d p → k ≡ ik_total (tidied_frames s x.properties)
      → length (write_take (tidied_at s x)) ≡ file_length newer b m c l d p k
  unfolding tidied_at
  count_sizes b m c l d p k f g e = rw (f.bones_are, f.morphs_are, f.cameras_are, g.lights_are, g.shadows_are, g.properties_are, e) (tidied_length s x)

  pub counts_kept : (b m c l d p : ℕ) → Front s x b m c → Back s x l d p → counted b m c l d p ≡ counts_at s x
  unfolding counts_at counts_of tidied_at
  counts_kept b m c l d p f g = rw (f.bones_are, f.morphs_are, f.cameras_are, g.lights_are, g.shadows_are, g.properties_are)

pub size_within : (limit n : ℕ) → n ≤ limit → size_given (within limit n) ≡ n
unfolding within unless
size_within limit n h = rw (le-leb n limit h)
