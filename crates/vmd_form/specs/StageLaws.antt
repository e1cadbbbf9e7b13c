-- Comparing the sections of a file one after another, and the whole of it. Assumes nothing.
use Rattle.std.specs.Prelude.{ℕ, ◌+◌, ◌*◌, ◌≤◌, refl, List, ◌++◌, take, drop}
use Rattle.std.proofs.Math.Path.{◌≡◌}
use Rattle.std.proofs.Common.{ap, sym, ◌∙◌, subst, arith, zero-mul, take-append-drop}
use Rattle.std.proofs.Math.ListN.{length, length-drop}
use Rattle.vmd_format.specs.Bytes.{u32, u32_bytes}
use Rattle.vmd_format.specs.Layout.{Layout}
use Rattle.vmd_format.specs.Read.{fixed, table, write_all, write_counted}
use Rattle.vmd_format.specs.Take.{property}
use Rattle.vmd_format.specs.Records.{bone, morph, camera, light, self_shadow}
use Rattle.vmd_format.specs.Opening.{Extent, Scan}
use Rattle.vmd_laws.specs.PlacesLaws.{table_length, frames_in}
use Rattle.vmd_laws.specs.BytesLaws.{u32_back}
use Rattle.vmd_laws.specs.ScanLaws.{frames_length}
use Rattle.vmd_laws.specs.SizedLaws.{Sized, section_length, bone_sized, morph_sized, camera_sized, light_sized, self_shadow_sized}
use Rattle.vmd_form.specs.Compare.{Compared, agrees, differs, compare_at, and_next}
use Rattle.vmd_form.specs.CompareLaws.{compared_stands, compare_next, next_agrees, next_differs}
use Rattle.vmd_form.specs.Form.{Counted, end_of}
use Rattle.vmd_form.specs.Laying.{Laid, found, gone, ScannedFrom, Reached, section_bytes, frames_bytes}

-- ---- what was compared before

-- both of two pieces stand
pub record Both (s : List ℕ) (at : ℕ) (v w : List ℕ) (r : ℕ) : Type 0 where
  pub between : ℕ
  pub first : compare_at s at v ≡ agrees between
  pub second : compare_at s between w ≡ agrees r

pub both_agree : (s : List ℕ) (at : ℕ) (v w : List ℕ) (r : ℕ) → compare_at s at (v ++ w) ≡ agrees r → Both s at v w r
unfolding and_next
both_agree s at v w r e = go (compare_at s at v) refl (sym (compare_next s at v w) ∙ e)
  where
    go : (x : Compared) → compare_at s at v ≡ x → and_next x (λ q. compare_at s q w) ≡ agrees r → Both s at v w r
    go (agrees q) f g = record { between = q; first = f; second = g }
    go (differs q) f g = let z : ◌≡◌ {A = ℕ} 0 1 = cc in absurd (omega arith)

-- one piece more
pub compare_more : (s : List ℕ) (c : Compared) (v w : List ℕ) → and_next (and_next c (λ q. compare_at s q v)) (λ q. compare_at s q w) ≡ and_next c (λ q. compare_at s q (v ++ w))
unfolding and_next
compare_more s (agrees q) v w = sym (compare_next s q v w)
compare_more s (differs q) v w = refl

-- ---- a section

-- a count that stands where it is to stand is that of a section that is there
zero_front : (t : List ℕ) → take 4 t ≡ u32_bytes 0 → u32 t ≡ 0
unfolding u32_bytes
zero_front t e = sym (ap u32 (take-append-drop 4 t)) ∙ ap (λ (l : List ℕ). u32 (l ++ drop 4 t)) e ∙ u32_back 0 (drop 4 t) (omega arith)

pub record CountFound (size : ℕ) (s : List ℕ) (at : ℕ) (p : Extent) (q : ℕ) : Type 0 where
  pub next : q ≡ at + 4
  pub place : p.place ≡ at + 4
  pub ends : at + 4 + p.count * size ≤ length s
  pub counted : Counted size s at

module _ {size : ℕ} {s : List ℕ} {at : ℕ} {p : Extent} where
  pub count_found : Laid size s at p → (q : ℕ) → compare_at s at (u32_bytes p.count) ≡ agrees q → CountFound size s at p q
  unfolding u32_bytes
  count_found (found c n l) q e =
      let d = compared_stands at (drop at s) (u32_bytes p.count) q e in
      record { next = d.next; place = l; ends = rw n (omega (arith, c.present, c.not_oversized)); counted = c }
  count_found (gone g n l) q e =
      let d = compared_stands at (drop at s) (u32_bytes p.count) q e in
      let f : 4 ≤ length (drop at s) = d.fits in
      let z : u32 (drop at s) ≡ 0 = zero_front (drop at s) (rw n at d.bytes) in
      absurd (g (record { present = omega (arith, f, length-drop at s); not_oversized = rw (z, zero-mul) (omega arith) }))

-- the bytes of a section: its count, and then its records
pub counted_bytes : {A : Type 0} (K : Layout A) (s : List ℕ) (p : Extent)
    → section_bytes K s p ≡ u32_bytes p.count ++ write_all K.encode (table K p.count (drop p.place s))
unfolding write_counted fixed
counted_bytes K s p = rw (table_length K p.count (drop p.place s))

pub counted_frames : (s : List ℕ) (p : Extent) → frames_bytes s p ≡ u32_bytes p.count ++ write_all property.write (frames_in s p.count p.place)
unfolding write_counted
counted_frames s p = rw (frames_length s p.count p.place)

-- a section differs where its count does, and then where its records do
module _ {A : Type 0} (K : Layout A) (s : List ℕ) (at : ℕ) (p : Extent) where
  pub section_differs : (q : ℕ) → compare_at s at (u32_bytes p.count) ≡ differs q → compare_at s at (section_bytes K s p) ≡ differs q
  section_differs q e = ap (compare_at s at) (counted_bytes K s p) ∙ next_differs s at (u32_bytes p.count) _ q e

  pub section_agrees : {size : ℕ} → Laid size s at p → (q : ℕ) → compare_at s at (u32_bytes p.count) ≡ agrees q
      → compare_at s at (section_bytes K s p) ≡ compare_at s q (write_all K.encode (table K p.count (drop q s)))
  section_agrees l q e =
      let f = count_found l q e in
      ap (compare_at s at) (counted_bytes K s p) ∙ next_agrees s at (u32_bytes p.count) _ q e
      ∙ ap (λ (i : ℕ). compare_at s q (write_all K.encode (table K p.count (drop i s)))) (f.place ∙ sym f.next)

module _ (s : List ℕ) (at : ℕ) (p : Extent) where
  pub frames_differ : (q : ℕ) → compare_at s at (u32_bytes p.count) ≡ differs q → compare_at s at (frames_bytes s p) ≡ differs q
  frames_differ q e = ap (compare_at s at) (counted_frames s p) ∙ next_differs s at (u32_bytes p.count) _ q e

  pub frames_agree : Laid 9 s at p → (q : ℕ) → compare_at s at (u32_bytes p.count) ≡ agrees q
      → compare_at s at (frames_bytes s p) ≡ compare_at s q (write_all property.write (frames_in s p.count q))
  frames_agree l q e =
      let f = count_found l q e in
      ap (compare_at s at) (counted_frames s p) ∙ next_agrees s at (u32_bytes p.count) _ q e
      ∙ ap (λ (i : ℕ). compare_at s q (write_all property.write (frames_in s p.count i))) (f.place ∙ sym f.next)

-- where a section ends that stands in the file
pub record SectionStands (size : ℕ) (s : List ℕ) (at : ℕ) (p : Extent) (r : ℕ) : Type 0 where
  pub ends : r ≡ end_of size p
  pub inside : r ≤ length s
  pub counted : Counted size s at
  pub place : p.place ≡ at + 4

module _ {A : Type 0} {K : Layout A} {size : ℕ} (k : Sized K size) {s : List ℕ} {p : Extent} where
  pub section_stands : {at : ℕ} → Laid size s at p → (r : ℕ) → compare_at s at (section_bytes K s p) ≡ agrees r → SectionStands size s at p r
  unfolding end_of
  section_stands {at} l r e =
      let b = both_agree s at (u32_bytes p.count) (write_all K.encode (table K p.count (drop p.place s))) r (sym (ap (compare_at s at) (counted_bytes K s p)) ∙ e) in
      let f = count_found l b.between b.first in
      let d = compared_stands b.between (drop b.between s) (write_all K.encode (table K p.count (drop p.place s))) r b.second in
      record {
        ends = omega (arith, d.next, f.next, f.place, section_length k p.count (drop p.place s));
        inside = omega (arith, d.next, f.next, f.ends, section_length k p.count (drop p.place s));
        counted = f.counted;
        place = f.place;
      }

  -- the next section begins where the one before ends
  pub reached_next : (c : Compared) → Reached size s c p → (r : ℕ) → and_next c (λ q. compare_at s q (section_bytes K s p)) ≡ agrees r → (r ≡ end_of size p) × (r ≤ length s)
  unfolding and_next
  reached_next (agrees q) h r e = let d = section_stands (h q refl).1 r e in (d.ends, d.inside)
  reached_next (differs q) h r e = let z : ◌≡◌ {A = ℕ} 0 1 = cc in absurd (omega arith)

-- what is reached after a section whose end is known
pub reached_after : {size : ℕ} (s : List ℕ) (c : Compared) (e : ℕ) (p : Extent) → ((r : ℕ) → c ≡ agrees r → (r ≡ e) × (r ≤ length s)) → Laid size s e p → Reached size s c p
reached_after {size} s c e p h l q f = let d = h q f in (d.1, subst (λ (i : ℕ). Laid size s i p) (sym d.0) l)

-- ---- sections one after another

-- three pieces more
pub compare_three : (s : List ℕ) (c x y z : Compared) (u v w : List ℕ) → x ≡ and_next c (λ q. compare_at s q u) → y ≡ and_next x (λ q. compare_at s q v)
    → z ≡ and_next y (λ q. compare_at s q w) → z ≡ and_next c (λ q. compare_at s q (u ++ (v ++ w)))
compare_three s c x y z u v w e f g =
    g ∙ ap (λ (k : Compared). and_next k (λ q. compare_at s q w)) (f ∙ ap (λ (k : Compared). and_next k (λ q. compare_at s q v)) e)
    ∙ compare_more s (and_next c (λ q. compare_at s q u)) v w ∙ compare_more s c u (v ++ w)

module _ {s : List ℕ} {x : Scan} (from : ScannedFrom s x) (c b : Compared) where
  module _ (h : Reached 111 s c x.bones) (e : b ≡ and_next c (λ q. compare_at s q (section_bytes bone s x.bones))) where
    pub reached_morphs : Reached 23 s b x.morphs
    reached_morphs = reached_after s b (end_of 111 x.bones) x.morphs (λ (r : ℕ) (f : b ≡ agrees r). reached_next bone_sized c h r (sym e ∙ f)) from.laid.morphs

    module _ (d : Compared) (f : d ≡ and_next b (λ q. compare_at s q (section_bytes morph s x.morphs))) where
      pub reached_cameras : Reached 61 s d x.cameras
      reached_cameras = reached_after s d (end_of 23 x.morphs) x.cameras (λ (r : ℕ) (g : d ≡ agrees r). reached_next morph_sized b reached_morphs r (sym f ∙ g)) from.laid.cameras

      pub reached_lights : (z : Compared) → z ≡ and_next d (λ q. compare_at s q (section_bytes camera s x.cameras)) → Reached 28 s z x.lights
      reached_lights z g = reached_after s z (end_of 61 x.cameras) x.lights (λ (r : ℕ) (k : z ≡ agrees r). reached_next camera_sized d reached_cameras r (sym g ∙ k)) from.laid.lights

  module _ (h : Reached 28 s c x.lights) (e : b ≡ and_next c (λ q. compare_at s q (section_bytes light s x.lights))) where
    pub reached_shadows : Reached 9 s b x.self_shadows
    reached_shadows = reached_after s b (end_of 28 x.lights) x.self_shadows (λ (r : ℕ) (f : b ≡ agrees r). reached_next light_sized c h r (sym e ∙ f)) from.laid.self_shadows

    pub reached_properties : (d : Compared) → d ≡ and_next b (λ q. compare_at s q (section_bytes self_shadow s x.self_shadows)) → Reached 9 s d x.properties
    reached_properties d f = reached_after s d (end_of 9 x.self_shadows) x.properties (λ (r : ℕ) (g : d ≡ agrees r). reached_next self_shadow_sized b reached_shadows r (sym f ∙ g)) from.laid.properties
