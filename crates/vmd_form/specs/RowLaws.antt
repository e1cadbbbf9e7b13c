-- Laws of comparing rows: one after another, and that they are the records that export writes. Assumes nothing.
use Prim.Native.Nat.{ℕ, zero, suc, ◌+◌, ◌-◌, ◌*◌, ◌≤◌, ◌<◌}
use Rattle.std.specs.Prelude.{◌≡◌, refl, Bool, true, false, List, [], ◌∷◌, ◌++◌, leb, get_or, take, drop, replicate}
use Rattle.std.proofs.Math.Path.{ap}
use Rattle.std.proofs.Common.{ap₂, sym, ◌∙◌, leb-true, leb-false, drop-drop, get_or-drop}
use native.Mathlib.Omega.{arith}
use Rattle.std.proofs.Math.ListN.{length, length-append, length-drop}
use Rattle.std.proofs.Math.Seq.{length-take-le}
use Rattle.vmd_format.specs.Bytes.{before_zero, padded}
use Rattle.vmd_format.specs.Layout.{Layout}
use Rattle.vmd_format.specs.Read.{table, write_all}
use Rattle.vmd_format.specs.Records.{bone, morph, camera, ik_state}
use Rattle.vmd_laws.specs.BytesLaws.{Bytes, bytes_drop, padded_length, length_before_zero, padded_more}
use Rattle.vmd_laws.specs.Rewriting.{Rewrites, bone_rewrites, morph_rewrites, camera_rewrites, ik_state_rewrites}
use Rattle.vmd_laws.specs.SizedLaws.{section_stays}
use Rattle.vmd_form.specs.Compare.{agrees, differs, compare_at}
use Rattle.vmd_form.specs.CompareLaws.{compared_stands, next_agrees, next_differs}
use Rattle.vmd_form.specs.FieldLaws.{none_agrees, stays, flags_alike}
use Rattle.vmd_form.specs.Form.{ZerosAfter}
use Rattle.vmd_form.specs.Rows.{rows, name_field, flag_field, named_row, camera_row, ik_row}

-- ---- a name: its own bytes, and then zeros

prefix : (t : List ℕ) (w : ℕ) → take (length (before_zero (take w t))) t ≡ before_zero (take w t)
unfolding before_zero
prefix t zero = refl
prefix [] (suc w) = refl
prefix (zero ∷ t) (suc w) = refl
prefix (suc b ∷ t) (suc w) = ap (λ (r : List ℕ). suc b ∷ r) (prefix t w)

padded_whole : (l : List ℕ) → padded (length l) l ≡ l
unfolding padded
padded_whole [] = refl
padded_whole (b ∷ l) = ap (λ (r : List ℕ). b ∷ r) (padded_whole l)

padded_split : (l : List ℕ) (w : ℕ) → length l ≤ w → padded w l ≡ l ++ replicate (w - length l) 0
padded_split l w h =
    let d : w ≡ length l + (w - length l) = omega arith in
    ap (λ (i : ℕ). padded i l) d ∙ padded_more (length l) (w - length l) l (omega arith) ∙ ap (λ (r : List ℕ). r ++ replicate (w - length l) 0) (padded_whole l)

pub name_short : (s : List ℕ) (at w : ℕ) → at + w ≤ length s → length (before_zero (take w (drop at s))) ≤ w
name_short s at w h =
    let k : length (take w (drop at s)) ≡ w = length-take-le w (drop at s) (rw length-drop (omega arith)) in
    omega (arith, k, length_before_zero (take w (drop at s)))

pub name_split : (s : List ℕ) (at w n : ℕ) → at + w ≤ length s → n ≡ length (before_zero (take w (drop at s)))
    → compare_at s at (name_field s w at) ≡ compare_at s (at + n) (replicate (w - n) 0)
name_split s at w n h e =
    let l : List ℕ = before_zero (take w (drop at s)) in
    let m = name_short s at w h in
    let v : name_field s w at ≡ take (length l) (drop at s) ++ replicate (w - length l) 0 =
    padded_split l w m ∙ ap (λ (r : List ℕ). r ++ replicate (w - length l) 0) (sym (prefix (drop at s) w)) in
    rw (e, v) (next_agrees s at (take (length l) (drop at s)) (replicate (w - length l) 0) (at + length l) (stays s at (length l) (omega arith)))

pub zeros_within : (s : List ℕ) (at v w : ℕ) → v ≤ w → ZerosAfter s at w → ZerosAfter s at v
zeros_within s at v w h z i j p q e = z i j p (omega arith) e

-- words that share a byte
pub zeros_overlap : (s : List ℕ) (at k n : ℕ) → 0 < n → ZerosAfter s at (k + 1) → ZerosAfter s (at + k) n → ZerosAfter s at (k + n)
zeros_overlap s at k n h a b i j p q e = go (leb j k) refl (leb k i) refl
  where
    later : (i : ℕ) → k ≤ i → at + k + (i - k) ≡ at + i
    later i l = omega arith

    on : (i : ℕ) → k ≤ i → i ≤ j → get_or s (at + i) 0 ≡ 0 → get_or s (at + j) 0 ≡ 0
    on i l m f = rw (later j (omega arith)) at (b (i - k) (j - k) (omega arith) (omega arith) (rw (later i l) f))

    go : (x : Bool) → leb j k ≡ x → (y : Bool) → leb k i ≡ y → get_or s (at + j) 0 ≡ 0
    go true f y g = a i j p (omega (arith, leb-true j k f)) e
    go false f true g = on i (leb-true k i g) p e
    go false f false g =
        let l = leb-false j k f in
        let m = leb-false k i g in
        on k (omega arith) (omega arith) (a i k (omega arith) (omega arith) e)

-- ---- rows

module _ (f : ℕ → List ℕ) (w : ℕ) where
  pub rows_first : (n p : ℕ) → 0 < n → rows f w n p ≡ f p ++ rows f w (n - 1) (p + w)
  unfolding rows
  rows_first n p h = let d : n ≡ suc (n - 1) = omega arith in ap (λ (i : ℕ). rows f w i p) d

  pub rows_none : (n p : ℕ) → n ≡ 0 → rows f w n p ≡ []
  unfolding rows
  rows_none n p e = rw e

-- how code goes over rows: what is left is still to be compared
pub record Left (s : List ℕ) (f : ℕ → List ℕ) (w : ℕ) (at n p left : ℕ) : Type 0 where
  pub ends : p + left * w ≤ length s
  pub compared : compare_at s at (rows f w n at) ≡ compare_at s p (rows f w left p)

module _ {s : List ℕ} {f : ℕ → List ℕ} {w at n p left : ℕ} where
  pub left_turn : Left s f w at n p left → 0 < left → length (f p) ≡ w → (q : ℕ) → agrees q ≡ compare_at s p (f p) → Left s f w at n (p + w) (left - 1)
  left_turn i h k q e =
      let d = compared_stands p (drop p s) (f p) q (sym e) in
      let g : q ≡ p + w = omega (arith, d.next, k) in
      record {
        ends = less i.ends h;
        compared = i.compared ∙ ap (compare_at s p) (rows_first f w left p h) ∙ next_agrees s p (f p) (rows f w (left - 1) (p + w)) (p + w) (sym e ∙ ap agrees g);
      }
    where
      less : p + left * w ≤ length s → 0 < left → p + w + (left - 1) * w ≤ length s
      less a b = let d : left ≡ suc (left - 1) = omega arith in let e : left * w ≡ w + (left - 1) * w = ap (λ (i : ℕ). i * w) d ∙ omega arith in omega arith

  pub left_differs : Left s f w at n p left → 0 < left → (q : ℕ) → differs q ≡ compare_at s p (f p) → differs q ≡ compare_at s at (rows f w n at)
  left_differs i h q e = sym (i.compared ∙ ap (compare_at s p) (rows_first f w left p h) ∙ next_differs s p (f p) (rows f w (left - 1) (p + w)) q (sym e))

  pub left_done : Left s f w at n p left → left ≡ 0 → agrees p ≡ compare_at s at (rows f w n at)
  left_done i e = sym (i.compared ∙ none_agrees s p (rows f w left p) (rows_none f w left p e))

  pub left_room : Left s f w at n p left → 0 < left → p + w ≤ length s
  left_room i h = let d : left ≡ suc (left - 1) = omega arith in let e : left * w ≡ w + (left - 1) * w = ap (λ (i : ℕ). i * w) d ∙ omega arith in omega (arith, i.ends)

pub left_start : (s : List ℕ) (f : ℕ → List ℕ) (w at n : ℕ) → at + n * w ≤ length s → Left s f w at n at n
left_start s f w at n h = record { ends = h; compared = refl }

-- ---- records are rows

pub rows_written : {A : Type 0} {K : Layout A} {w : ℕ} {f : List ℕ → List ℕ} (s : List ℕ) (g : ℕ → List ℕ) → Bytes s → Rewrites K w f
    → ((p : ℕ) → f (drop p s) ≡ g p) → (n at : ℕ) → at + n * w ≤ length s
    → write_all K.encode (table K n (drop at s)) ≡ rows g w n at
unfolding rows table write_all
rows_written s g b r h zero at l = refl
rows_written {A} {K} {w} {f} s g b r h (suc n) at l =
    let e : drop K.size (drop at s) ≡ drop (at + w) s = drop-drop K.size at s ∙ ap (λ (i : ℕ). drop (at + i) s) r.size in
    ap₂ ◌++◌ (r.is (drop at s) (bytes_drop at s b) (rw length-drop (omega arith)) ∙ h at)
    (ap (λ (t : List ℕ). write_all K.encode (table K n t)) e ∙ rows_written s g b r h n (at + w) (omega arith))

module _ (s : List ℕ) (b : Bytes s) where
  byte_in : (k p : ℕ) → get_or (drop k (drop p s)) 0 0 ≡ get_or s (p + k) 0
  byte_in k p = ap (λ (t : List ℕ). get_or t 0 0) (drop-drop k p s) ∙ get_or-drop (p + k) s 0 0 ∙ ap (λ (i : ℕ). get_or s i 0) (omega arith)

  pub bone_rows : (n at : ℕ) → at + n * 111 ≤ length s → write_all bone.encode (table bone n (drop at s)) ≡ rows (named_row s 111) 111 n at
  bone_rows = rows_written s (named_row s 111) b bone_rewrites λ (p : ℕ). (unfold named_row in rw (drop-drop 15 p s))

  pub morph_rows : (n at : ℕ) → at + n * 23 ≤ length s → write_all morph.encode (table morph n (drop at s)) ≡ rows (named_row s 23) 23 n at
  morph_rows = rows_written s (named_row s 23) b morph_rewrites λ (p : ℕ). (unfold named_row in rw (drop-drop 15 p s))

  pub camera_rows : (n at : ℕ) → at + n * 61 ≤ length s → write_all camera.encode (table camera n (drop at s)) ≡ rows (camera_row s) 61 n at
  camera_rows = rows_written s (camera_row s) b camera_rewrites λ (p : ℕ). (unfold camera_row in rw (byte_in 60 p, flags_alike))

  pub ik_rows : (n at : ℕ) → at + n * 21 ≤ length s → write_all ik_state.encode (table ik_state n (drop at s)) ≡ rows (ik_row s) 21 n at
  ik_rows = rows_written s (ik_row s) b ik_state_rewrites λ (p : ℕ). (unfold ik_row in rw (byte_in 20 p))

  -- lights and self-shadows stay as they are
  pub section_agrees : {A : Type 0} {K : Layout A} {w : ℕ} → Rewrites K w (take w) → (n at : ℕ) → at + n * w ≤ length s
      → compare_at s at (write_all K.encode (table K n (drop at s))) ≡ agrees (at + n * w)
  section_agrees {w = w} r n at h = rw (section_stays r n (drop at s) (bytes_drop at s b) (rw length-drop (omega arith))) (stays s at (n * w) h)

-- ---- a row

module _ (s : List ℕ) (at : ℕ) where
  pub named_length : (w : ℕ) → 15 ≤ w → at + w ≤ length s → length (named_row s w at) ≡ w
  unfolding named_row
  named_length w k h =
      let e : length (take (w - 15) (drop (at + 15) s)) ≡ w - 15 = length-take-le (w - 15) (drop (at + 15) s) (rw length-drop (omega arith)) in
      simp length-append (omega (arith, e, padded_length 15 (before_zero (take 15 (drop at s)))))

  pub camera_length : at + 61 ≤ length s → length (camera_row s at) ≡ 61
  unfolding camera_row
  camera_length h =
      let e : length (take 60 (drop at s)) ≡ 60 = length-take-le 60 (drop at s) (rw length-drop (omega arith)) in
      simp length-append (omega (arith, e))

  pub ik_length : length (ik_row s at) ≡ 21
  unfolding ik_row
  ik_length = simp length-append (omega (arith, padded_length 20 (before_zero (take 20 (drop at s)))))

  -- a record with a name differs where its name does
  pub named_agrees : (w q : ℕ) → 15 ≤ w → at + w ≤ length s → compare_at s at (name_field s 15 at) ≡ agrees q → compare_at s at (named_row s w at) ≡ agrees (at + w)
  unfolding named_row
  named_agrees w q k h e =
      let d = compared_stands at (drop at s) (name_field s 15 at) q e in
      let g : q ≡ at + 15 = omega (arith, d.next, padded_length 15 (before_zero (take 15 (drop at s)))) in
      let z : at + 15 + (w - 15) ≡ at + w = omega arith in
      next_agrees s at (name_field s 15 at) (take (w - 15) (drop (at + 15) s)) (at + 15) (e ∙ ap agrees g) ∙ stays s (at + 15) (w - 15) (omega arith) ∙ ap agrees z

  pub named_differs : (w q : ℕ) → compare_at s at (name_field s 15 at) ≡ differs q → compare_at s at (named_row s w at) ≡ differs q
  unfolding named_row
  named_differs w q e = next_differs s at (name_field s 15 at) (take (w - 15) (drop (at + 15) s)) q e

  -- a camera is its perspective byte
  pub camera_is : at + 61 ≤ length s → compare_at s at (camera_row s at) ≡ compare_at s (at + 60) (flag_field s (at + 60))
  unfolding camera_row
  camera_is h = next_agrees s at (take 60 (drop at s)) (flag_field s (at + 60)) (at + 60) (stays s at 60 (omega arith))

  -- an IK state is its name and its flag
  pub ik_agrees : (q : ℕ) → compare_at s at (name_field s 20 at) ≡ agrees q → (q ≡ at + 20) × (compare_at s at (ik_row s at) ≡ compare_at s (at + 20) (flag_field s (at + 20)))
  unfolding ik_row
  ik_agrees q e =
      let d = compared_stands at (drop at s) (name_field s 20 at) q e in
      let g : q ≡ at + 20 = omega (arith, d.next, padded_length 20 (before_zero (take 20 (drop at s)))) in
      (g, next_agrees s at (name_field s 20 at) (flag_field s (at + 20)) (at + 20) (e ∙ ap agrees g))

  pub ik_differs : (q : ℕ) → compare_at s at (name_field s 20 at) ≡ differs q → compare_at s at (ik_row s at) ≡ differs q
  unfolding ik_row
  ik_differs q e = next_differs s at (name_field s 20 at) (flag_field s (at + 20)) q e
