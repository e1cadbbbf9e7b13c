-- The frame of a record in its bytes: where it stands, and what another one there makes of the record.
use Rattle.std.specs.Prelude.{ℕ, ◌+◌, ◌≤◌, ◌≡◌, refl, List, [], ◌++◌, length, take, drop}
use Rattle.std.proofs.Common.{ap, ap₂, sym, ◌∙◌, append_assoc, arith, length-append, take-append-drop, length-take-le, take_at, drop-drop}
use Rattle.std.proofs.Math.Seq.{drop-append-add, drop-append_seam}
use Rattle.vmd_format.specs.Bytes.{u32, u32_bytes, padded}
use Rattle.vmd_format.specs.Layout.{number, byte, flag, inverted, name, raw, ◌⊗◌, as_record}
use Rattle.vmd_format.specs.Records.{bone, morph, camera, light, self_shadow, ik_state, property_head}
use Rattle.vmd_format.specs.Read.{fixed, write_counted}
use Rattle.vmd_format.specs.Take.{property}
use Rattle.vmd_laws.specs.BytesLaws.{padded_length}
use Rattle.vmd_bytes.specs.Slices.{splice}
use Rattle.vmd_bytes.proofs.Laws.{length_u32_bytes}
use Rattle.vmd_records.specs.declared.VmdKind.{VmdKind}
use Rattle.vmd_records.specs.declared.VmdKind.TheVariants as kind
use Rattle.vmd_records.specs.Kinds.{layout, size_of, frame_at}
use Rattle.vmd_records.specs.KindLaws.{kind_sized}
use Rattle.vmd_framed.specs.Excerpt.{Framed, bone_framed, morph_framed, camera_framed, light_framed, self_shadow_framed, property_framed}
use Rattle.vmd_excerpt_sections.specs.Rows.{framed}

-- ---- the bytes of a record before and after its frame

pub record FrameIn {A : Type 0} (F : Framed A) (encode : A → List ℕ) (o : ℕ) : Type 0 where
  pub before : A → List ℕ
  pub after : A → List ℕ
  pub wide : (a : A) → length (before a) ≡ o
  pub own : (a : A) → encode a ≡ before a ++ (u32_bytes (F.frame a) ++ after a)
  pub put : (n : ℕ) (a : A) → encode (F.at_frame n a) ≡ before a ++ (u32_bytes n ++ after a)

pub kind_frame : (k : VmdKind) → FrameIn (framed k) (layout k).encode (frame_at k)
unfolding bone morph camera light self_shadow bone_framed morph_framed camera_framed light_framed self_shadow_framed as_record ◌⊗◌ number name byte raw inverted
kind_frame kind.Bone = record {
  before = λ b. padded 15 b.name;
  after =
      λ b. (number ⊗ number ⊗ number ⊗ number ⊗ number ⊗ number ⊗ number ⊗ raw 64).encode
      (b.tx, (b.ty, (b.tz, (b.rx, (b.ry, (b.rz, (b.rw, b.interpolation)))))));
  wide = λ b. padded_length 15 b.name;
  own = λ b. refl;
  put = λ n b. refl;
}
kind_frame kind.Morph = record {
  before = λ m. padded 15 m.name;
  after = λ m. number.encode m.weight;
  wide = λ m. padded_length 15 m.name;
  own = λ m. refl;
  put = λ n m. refl;
}
kind_frame kind.Camera = record {
  before = λ c. [];
  after =
      λ c. (number ⊗ number ⊗ number ⊗ number ⊗ number ⊗ number ⊗ number ⊗ raw 24 ⊗ number ⊗ inverted).encode
      (c.distance, (c.px, (c.py, (c.pz, (c.rx, (c.ry, (c.rz, (c.interpolation, (c.fov, c.perspective)))))))));
  wide = λ c. refl;
  own = λ c. refl;
  put = λ n c. refl;
}
kind_frame kind.Light = record {
  before = λ l. [];
  after = λ l. (number ⊗ number ⊗ number ⊗ number ⊗ number ⊗ number).encode (l.red, (l.green, (l.blue, (l.dx, (l.dy, l.dz)))));
  wide = λ l. refl;
  own = λ l. refl;
  put = λ n l. refl;
}
kind_frame kind.SelfShadow = record {
  before = λ s. [];
  after = λ s. (byte ⊗ number).encode (s.mode, s.distance);
  wide = λ s. refl;
  own = λ s. refl;
  put = λ n s. refl;
}

pub property_frame : FrameIn property_framed property.write 0
unfolding property property_framed property_head ◌⊗◌ number flag
property_frame = record {
  before = λ p. [];
  after = λ p. flag.encode p.visible ++ write_counted (fixed ik_state) p.ik_states;
  wide = λ p. refl;
  own = λ p. append_assoc (u32_bytes p.frame) (flag.encode p.visible) (write_counted (fixed ik_state) p.ik_states);
  put = λ n p. append_assoc (u32_bytes n) (flag.encode p.visible) (write_counted (fixed ik_state) p.ik_states);
}

-- what is read there is the frame
pub frame_read : (k : VmdKind) (s : List ℕ) → (framed k).frame ((layout k).decode s) ≡ u32 (drop (frame_at k) s)
unfolding bone morph camera light self_shadow bone_framed morph_framed camera_framed light_framed self_shadow_framed as_record ◌⊗◌ number name byte raw inverted
frame_read kind.Bone s = refl
frame_read kind.Morph s = refl
frame_read kind.Camera s = refl
frame_read kind.Light s = refl
frame_read kind.SelfShadow s = refl

-- a record has its frame in it
pub frame_fits : (k : VmdKind) → frame_at k + 4 ≤ size_of k
frame_fits k =
    let f = kind_frame k in
    let a = (layout k).decode [] in
    let n = length-append (f.before a) (u32_bytes ((framed k).frame a) ++ f.after a) in
    let m = length-append (u32_bytes ((framed k).frame a)) (f.after a) in
    omega (arith, (kind_sized k).wide a, f.wide a, ap length (f.own a), length_u32_bytes ((framed k).frame a))

-- ---- a write in the middle

over_at : (p c q e : List ℕ) (n : ℕ) → length p ≡ n → length e ≡ length c → splice (p ++ (c ++ q)) n e ≡ p ++ (e ++ q)
unfolding splice
over_at p c q e n h k =
    let t : take n (p ++ (c ++ q)) ≡ p = take_at p (c ++ q) n h in
    let d : drop (n + length e) (p ++ (c ++ q)) ≡ q =
    ap₂ (λ (i j : ℕ). drop (i + j) (p ++ (c ++ q))) (sym h) k ∙ drop-append-add p (c ++ q) (length c) ∙ drop-append_seam c q in
    ap₂ (λ (u v : List ℕ). u ++ e ++ v) t d ∙ append_assoc p e q

module _ (x : List ℕ) (q n : ℕ) (b c d e r : List ℕ) (inside : q ≤ length x) (h : drop q x ≡ (b ++ (c ++ d)) ++ r) (o : length b ≡ n) (k : length e ≡ length c) where
  abbrev there : List ℕ
  there = take q x

  placed : splice x (q + n) e ≡ (there ++ b) ++ (e ++ (d ++ r))
  placed =
      let w : x ≡ (there ++ b) ++ (c ++ (d ++ r)) = sym (take-append-drop q x) ∙ ap (λ z. there ++ z) h ∙ simp append_assoc in
      let l : length (there ++ b) ≡ q + n = length-append there b ∙ omega (arith, length-take-le q x inside) in
      ap (λ z. splice z (q + n) e) w ∙ over_at (there ++ b) c (d ++ r) e (q + n) l k

  after_it : drop (q + length (b ++ (e ++ d))) x ≡ r
  after_it =
      let l : length (b ++ (e ++ d)) ≡ length (b ++ (c ++ d)) = simp length-append (omega arith) in
      ap (λ (i : ℕ). drop (q + i) x) l ∙ sym (drop-drop (length (b ++ (c ++ d))) q x) ∙ ap (drop (length (b ++ (c ++ d)))) h
      ∙ drop-append_seam (b ++ (c ++ d)) r

  pub refit : splice x (q + n) e ≡ splice x q (b ++ (e ++ d))
  refit = placed ∙ sym (unfold splice in (ap (λ z. there ++ (b ++ (e ++ d)) ++ z) after_it ∙ simp append_assoc))

  pub refit_after : drop (q + length (b ++ (e ++ d))) (splice x (q + n) e) ≡ r
  refit_after =
      let s : splice x (q + n) e ≡ (there ++ (b ++ (e ++ d))) ++ r = placed ∙ simp append_assoc in
      let l : q + length (b ++ (e ++ d)) ≡ length (there ++ (b ++ (e ++ d))) = omega (arith, length-append there (b ++ (e ++ d)), length-take-le q x inside) in
      ap₂ (λ (i : ℕ) (z : List ℕ). drop i z) l s ∙ drop-append_seam (there ++ (b ++ (e ++ d))) r
