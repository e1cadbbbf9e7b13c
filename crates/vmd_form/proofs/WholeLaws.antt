-- The header and the whole of a file compared with its export. Assumes nothing.
use Rattle.std.specs.Prelude.{ℕ, ◌≤◌, Bool, List, [], ◌∷◌, ◌++◌, length, drop}
use Rattle.std.proofs.Math.Path.{◌≡◌, refl, ap, sym}
use Rattle.std.proofs.Common.{◌∙◌, subst, append_assoc, arith, take-take}
use Rattle.std.proofs.Math.Bool.{true, false}
use borrow.Author.Tests.{leb-true}
use Rattle.std.proofs.Math.Dec.{leb}
use Rattle.std.proofs.Math.ListN.{take}
use Rattle.vmd_format.specs.Bytes.{padded}
use Rattle.vmd_format.specs.Refusal.{Refusal, file_ends_early}
use Rattle.vmd_format.specs.Answer.{declined, given, map_answer, unless}
use Rattle.vmd_format.specs.Read.{Manner}
use Rattle.vmd_format.specs.Records.{bone, morph, camera}
use Rattle.vmd_format.specs.Take.{magic, newer, edition, same, magic_of, take_of, write_header, write_sections, write_edition, write_take}
use Rattle.vmd_format.specs.Opening.{Scan}
use Rattle.vmd_format.specs.Fetch.{model_of}
use Rattle.vmd_laws.specs.BytesLaws.{padded_length}
use Rattle.vmd_laws.specs.ExportLaws.{take_in, export_by_places}
use Rattle.vmd_laws.specs.Places.{place_past, scan_file}
use Rattle.vmd_laws.specs.PlacesLaws.{section_in}
use Rattle.vmd_laws.specs.ScanLaws.{file_in, headed, edition_newer, header_known}
use Rattle.vmd_form.specs.Canonical.{first_change}
use Rattle.vmd_form.specs.Compare.{Compared, agrees, differs, compare_at, and_next, change_at}
use Rattle.vmd_form.specs.CompareLaws.{compared_stands, compare_next, next_agrees, next_differs, change_compared}
use Rattle.vmd_form.specs.Laying.{Laid, HeaderRead, ScannedFrom, Reached, section_bytes}
use Rattle.vmd_form.specs.StageLaws.{both_agree, compare_more, reached_lights}
use Rattle.vmd_form.specs.Whole.{front_bytes, back_bytes}
use Rattle.vmd_form.specs.Rows.{name_field}

-- ---- the header

-- the magic as it is written, with its five zeros
abbrev pub magic_bytes : List ℕ
magic_bytes = magic ++ (0 ∷ 0 ∷ 0 ∷ 0 ∷ [])

pub header_bytes : (m : List ℕ) → write_header newer m ≡ magic_bytes ++ padded 20 m
unfolding write_header magic_of magic
header_bytes m = refl

-- what a file is whose first 30 bytes are those that are written
pub record NewerHeader (s : List ℕ) (c : HeaderRead s) : Type 0 where
  pub edition_is : edition s ≡ given newer
  pub sections : c.at ≡ 50
  pub long : 50 ≤ length s
  pub model : name_field s 20 30 ≡ padded 20 (model_of s)

module _ {s : List ℕ} (c : HeaderRead s) where
  pub newer_places : edition s ≡ given newer → NewerHeader s c
  unfolding place_past unless
  newer_places e = go (leb 50 (length s)) refl (sym c.place ∙ header_known s newer e)
    where
      go : (b : Bool) → leb 50 (length s) ≡ b → given c.at ≡ unless b file_ends_early (given 50) → NewerHeader s c
      go true f g =
          let at : c.at ≡ 50 = cc in
          let h = headed s c.at c.place in
          record {
            edition_is = e;
            sections = at;
            long = leb-true 50 (length s) f;
            model = ap (padded 20) (rw at at h.named);
          }
      go false f g = let z : ◌≡◌ {A = ℕ} 0 1 = cc in absurd (omega arith)

  pub magic_newer : (q : ℕ) → compare_at s 0 magic_bytes ≡ agrees q → NewerHeader s c
  unfolding magic same
  magic_newer q e =
      let d = compared_stands 0 s magic_bytes q e in
      let f : take 26 s ≡ magic = sym (take-take 26 30 s (omega arith)) ∙ ap (take 26) d.bytes in
      newer_places (edition_newer s (rw f refl))

  pub header_agrees : (q : ℕ) → compare_at s 0 magic_bytes ≡ agrees q → compare_at s 0 (write_header newer (model_of s)) ≡ compare_at s 30 (name_field s 20 30)
  unfolding magic
  header_agrees q e =
      let d = compared_stands 0 s magic_bytes q e in
      let g : q ≡ 30 = d.next in
      ap (compare_at s 0) (header_bytes (model_of s)) ∙ next_agrees s 0 magic_bytes (padded 20 (model_of s)) 30 (e ∙ ap agrees g) ∙ ap (compare_at s 30) (sym (magic_newer q e).model)

  pub header_differs : (q : ℕ) → compare_at s 0 magic_bytes ≡ differs q → compare_at s 0 (write_header newer (model_of s)) ≡ differs q
  header_differs q e = ap (compare_at s 0) (header_bytes (model_of s)) ∙ next_differs s 0 magic_bytes (padded 20 (model_of s)) q e

-- the sections begin after a header that stands
pub header_reached : {s : List ℕ} {x : Scan} → ScannedFrom s x → (b : Compared) → b ≡ compare_at s 0 (write_header newer (model_of s)) → Reached 111 s b x.bones
unfolding magic
header_reached {s} {x} c b f q e =
    let k = both_agree s 0 magic_bytes (padded 20 (model_of s)) q (sym (ap (compare_at s 0) (header_bytes (model_of s))) ∙ sym f ∙ e) in
    let n = magic_newer c.header k.between k.first in
    let d = compared_stands 0 s magic_bytes k.between k.first in
    let g = compared_stands k.between (drop k.between s) (padded 20 (model_of s)) q k.second in
    let z : c.header.at ≡ q = omega (arith, n.sections, d.next, g.next, padded_length 20 (model_of s)) in
    (omega (arith, n.sections, n.long, z), subst (λ (i : ℕ). Laid 111 s i x.bones) z c.laid.bones)

-- ---- the whole

pub file_bytes : (s : List ℕ) (x : Scan) → write_take (take_in s x) ≡ write_header newer (model_of s) ++ (front_bytes s x ++ back_bytes s x)
unfolding write_take write_edition write_sections front_bytes back_bytes take_in take_of file_in section_in
file_bytes s x = simp append_assoc

-- the lights are reached after the first three sections
pub front_reached : {s : List ℕ} {x : Scan} → ScannedFrom s x → (c z : Compared) → Reached 111 s c x.bones
    → z ≡ and_next c (λ q. compare_at s q (front_bytes s x)) → Reached 28 s z x.lights
unfolding front_bytes
front_reached {s} {x} from c z h e =
    reached_lights from c _ h refl _ refl z
    (e ∙ sym (compare_more s c (section_bytes bone s x.bones) (section_bytes morph s x.morphs ++ section_bytes camera s x.cameras))
    ∙ sym (compare_more s (and_next c (λ q. compare_at s q (section_bytes bone s x.bones))) (section_bytes morph s x.morphs) (section_bytes camera s x.cameras)))

-- a header, the first three sections and the others, compared one after another
pub whole_compared : (s : List ℕ) (x : Scan) (a b c : Compared) → a ≡ compare_at s 0 (write_header newer (model_of s))
    → b ≡ and_next a (λ q. compare_at s q (front_bytes s x)) → c ≡ and_next b (λ q. compare_at s q (back_bytes s x))
    → c ≡ compare_at s 0 (write_take (take_in s x))
whole_compared s x a b c e f g =
    g ∙ ap (λ (k : Compared). and_next k (λ q. compare_at s q (back_bytes s x))) f ∙ compare_more s a (front_bytes s x) (back_bytes s x)
    ∙ ap (λ (k : Compared). and_next k (λ q. compare_at s q (front_bytes s x ++ back_bytes s x))) e
    ∙ sym (compare_next s 0 (write_header newer (model_of s)) (front_bytes s x ++ back_bytes s x)) ∙ ap (compare_at s 0) (sym (file_bytes s x))

-- a file that is refused has no change
pub refused_change : (m : Manner) (s : List ℕ) (k : Refusal) → scan_file m s ≡ declined k → first_change m s ≡ declined k
unfolding first_change map_answer
refused_change m s k e = rw (export_by_places m s, e)

-- the first change in a file that was scanned
pub scanned_change : (m : Manner) (s : List ℕ) (x : Scan) → scan_file m s ≡ given x
    → first_change m s ≡ given (change_at (length s) (compare_at s 0 (write_take (take_in s x))))
unfolding first_change map_answer
scanned_change m s x e = rw (export_by_places m s, e) (ap given (change_compared 0 s (write_take (take_in s x)) (length s) (omega arith)))
