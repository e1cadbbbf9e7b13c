-- Files that differ only in bytes after a name's first zero byte, or in interpolation bytes too, read alike: the same refusal,
-- or takes that are equal but for the interpolation bytes. Assumes nothing.
use Prim.Native.Nat.{ℕ, zero, suc, ◌+◌, ◌*◌, ◌≤◌, ◌<◌}
use Rattle.std.specs.Prelude.{◌≡◌, Bool, length, get_or, take, drop}
use Rattle.std.proofs.Math.Path.{refl, ap}
use Rattle.std.proofs.Common.{ap₂, sym, ◌∙◌, arith, zero-add, suc-add, leb-true, length-drop, take-take, get_or-take}
use Rattle.std.proofs.Math.Bool.{true, false}
use mathlib.Core.List.{List, [], ◌∷◌, map, map-id}
use Rattle.std.proofs.Math.Seq.{take-nil, drop-nil, drop-drop}
use Rattle.std.proofs.Math.Dec.{leb}
use Rattle.vmd_format.specs.Bytes.{u32, before_zero, is_set, is_zero}
use Rattle.vmd_format.specs.Layout.{Layout, number, byte, flag, inverted, name, raw, ◌⊗◌, as_record}
use Rattle.vmd_format.specs.Refusal.{file_ends_early}
use Rattle.vmd_format.specs.Answer.{Answer, declined, given, map_answer}
use Rattle.vmd_format.specs.Records.{Bone, Camera, IkState, Property, bone, morph, camera, light, self_shadow, ik_state, property_head}
use Rattle.vmd_format.specs.Read.{Step, refused, got, Reader, bind, Codec, whole, whole_if, fixed, many, table, Section, no_section, Oversized, refuse, emptied, over_count, records_if, counted_if, counted, optional, BytesOver, ignored, turned_down, Manner}
use Rattle.vmd_format.specs.Take.{property, Take, File, take_of, Edition, model_width, edition, model_if, magic_if, header_if, header, ended, sections, read_file, answer, read_take}
use Rattle.vmd_laws.specs.PlacesLaws.{many_table}
use Rattle.vmd_season.specs.Differ.{Differing, names, names_and_interpolation, Stretch, named, interpolating, others, wide, SameName, SameStretch, bone_stretches, morph_stretches, camera_stretches, light_stretches, self_shadow_stretches, ik_state_stretches, width, SameRecord, SameRecords, SameFrames, SameSections, all_stretches, field_width, DifferOnly, bone_without, camera_without, without_interpolation}

-- ---- bytes

drop_take : (w n : ℕ) (s : List ℕ) → drop w (take (w + n) s) ≡ take n (drop w s)
drop_take zero n s = rw (zero-add n)
drop_take (suc w) n [] = rw (take-nil n, take-nil (suc w + n), drop-nil (suc w))
drop_take (suc w) n (b ∷ s) = rw (suc-add w n) (drop_take w n s)

-- the first of some bytes, and the others
module _ (w n : ℕ) (s t : List ℕ) (e : take (w + n) s ≡ take (w + n) t) where
  front : take w s ≡ take w t
  front = sym (take-take w (w + n) s (omega arith)) ∙ ap (take w) e ∙ take-take w (w + n) t (omega arith)

  back : take n (drop w s) ≡ take n (drop w t)
  back = sym (drop_take w n s) ∙ ap (drop w) e ∙ drop_take w n t

byte_same : (n i : ℕ) (s t : List ℕ) → i < n → take n s ≡ take n t → get_or s i 0 ≡ get_or t i 0
byte_same n i s t h e = sym (get_or-take n s i 0 h) ∙ ap (λ (r : List ℕ). get_or r i 0) e ∙ get_or-take n t i 0 h

number_same : (s t : List ℕ) → take 4 s ≡ take 4 t → u32 s ≡ u32 t
unfolding u32
number_same s t e =
    let b : (i : ℕ) → i < 4 → get_or s i 0 ≡ get_or t i 0 = λ i h. byte_same 4 i s t h e in
    rw (b 0 (omega arith), b 1 (omega arith), b 2 (omega arith), b 3 (omega arith))

abbrev Numbers : ℕ → List ℕ → List ℕ → Type 0
Numbers zero s t = Unit {0}
Numbers (suc k) s t = (u32 s ≡ u32 t) × Numbers k (drop 4 s) (drop 4 t)

numbers_same : (k : ℕ) (s t : List ℕ) → take (k * 4) s ≡ take (k * 4) t → Numbers k s t
numbers_same zero s t e = tt
numbers_same (suc k) s t e =
    let q : suc k * 4 ≡ 4 + k * 4 = omega arith in
    let f : take (4 + k * 4) s ≡ take (4 + k * 4) t = rw q at e in
    (number_same s t (front 4 (k * 4) s t f), numbers_same k (drop 4 s) (drop 4 t) (back 4 (k * 4) s t f))

name_same : (s t : List ℕ) → SameName s t → before_zero s ≡ before_zero t
unfolding before_zero
name_same [] [] h = refl
name_same [] (b ∷ t) h = absurd h
name_same (a ∷ s) [] h = absurd h
name_same (zero ∷ s) (zero ∷ t) h = refl
name_same (zero ∷ s) (suc b ∷ t) h = absurd h
name_same (suc a ∷ s) (zero ∷ t) h = absurd h
name_same (suc a ∷ s) (suc b ∷ t) h = ap₂ (λ (x : ℕ) (r : List ℕ). suc x ∷ r) h.0 (name_same s t h.1)

-- ---- records

-- what is kept of interpolation bytes
abbrev bytes_kept : Differing → List ℕ → List ℕ
bytes_kept names l = l
bytes_kept names_and_interpolation l = []

abbrev bone_kept : Differing → Bone → Bone
bone_kept d b = record { name = b.name; frame = b.frame; tx = b.tx; ty = b.ty; tz = b.tz; rx = b.rx; ry = b.ry; rz = b.rz; rw = b.rw; interpolation = bytes_kept d b.interpolation }

abbrev camera_kept : Differing → Camera → Camera
camera_kept d c = record { frame = c.frame; distance = c.distance; px = c.px; py = c.py; pz = c.pz; rx = c.rx; ry = c.ry; rz = c.rz; interpolation = bytes_kept d c.interpolation; fov = c.fov; perspective = c.perspective }

interpolation_same : (d : Differing) (n : ℕ) (s t : List ℕ) → SameStretch d (interpolating n) s t → bytes_kept d (take n s) ≡ bytes_kept d (take n t)
interpolation_same names n s t h = h
interpolation_same names_and_interpolation n s t h = refl

-- eight numbers on
eight : (s : List ℕ) → drop 4 (drop 4 (drop 4 (drop 4 (drop 4 (drop 4 (drop 4 (drop 4 s))))))) ≡ drop 32 s
eight s = simp drop-drop

bone_same : (d : Differing) (s t : List ℕ) → SameRecord d bone_stretches s t → bone_kept d (bone.decode s) ≡ bone_kept d (bone.decode t)
unfolding bone as_record name number raw ◌⊗◌
bone_same d s t h =
    let n = name_same _ _ h.0 in
    let m = numbers_same 8 (drop 15 s) (drop 15 t) h.1.0 in
    let i : bytes_kept d (take 64 (drop 4 (drop 4 (drop 4 (drop 4 (drop 4 (drop 4 (drop 4 (drop 4 (drop 15 s)))))))))) ≡ bytes_kept d (take 64 (drop 4 (drop 4 (drop 4 (drop 4 (drop 4 (drop 4 (drop 4 (drop 4 (drop 15 t)))))))))) = rw (eight (drop 15 s), eight (drop 15 t)) (interpolation_same d 64 (drop 32 (drop 15 s)) (drop 32 (drop 15 t)) h.1.1.0) in
    λ j. record { name = n j; frame = m.0 j; tx = m.1.0 j; ty = m.1.1.0 j; tz = m.1.1.1.0 j; rx = m.1.1.1.1.0 j; ry = m.1.1.1.1.1.0 j; rz = m.1.1.1.1.1.1.0 j; rw = m.1.1.1.1.1.1.1.0 j; interpolation = i j }

morph_same : (d : Differing) (s t : List ℕ) → SameRecord d morph_stretches s t → morph.decode s ≡ morph.decode t
unfolding morph as_record name number ◌⊗◌
morph_same d s t h =
    let n = name_same _ _ h.0 in
    let m = numbers_same 2 (drop 15 s) (drop 15 t) h.1.0 in
    λ j. record { name = n j; frame = m.0 j; weight = m.1.0 j }

camera_same : (d : Differing) (s t : List ℕ) → SameRecord d camera_stretches s t → camera_kept d (camera.decode s) ≡ camera_kept d (camera.decode t)
unfolding camera as_record number raw inverted ◌⊗◌
camera_same d s t h =
    let m = numbers_same 8 s t h.0 in
    let u = drop 24 (drop 32 s) in
    let v = drop 24 (drop 32 t) in
    let e : drop 4 (drop 4 (drop 4 (drop 4 (drop 4 (drop 4 (drop 4 (drop 4 s))))))) ≡ drop 32 s = eight s in
    let g : drop 4 (drop 4 (drop 4 (drop 4 (drop 4 (drop 4 (drop 4 (drop 4 t))))))) ≡ drop 32 t = eight t in
    let k = ap (λ r. bytes_kept d (take 24 r)) e ∙ interpolation_same d 24 (drop 32 s) (drop 32 t) h.1.0 ∙ sym (ap (λ r. bytes_kept d (take 24 r)) g) in
    let f = ap (λ r. u32 (drop 24 r)) e ∙ number_same u v (front 4 1 u v h.1.1.0) ∙ sym (ap (λ r. u32 (drop 24 r)) g) in
    let p = ap (λ r. is_zero (get_or (drop 4 (drop 24 r)) 0 0)) e ∙ ap is_zero (byte_same 1 0 (drop 4 u) (drop 4 v) (omega arith) (back 4 1 u v h.1.1.0)) ∙ sym (ap (λ r. is_zero (get_or (drop 4 (drop 24 r)) 0 0)) g) in
    λ j. record { frame = m.0 j; distance = m.1.0 j; px = m.1.1.0 j; py = m.1.1.1.0 j; pz = m.1.1.1.1.0 j; rx = m.1.1.1.1.1.0 j; ry = m.1.1.1.1.1.1.0 j; rz = m.1.1.1.1.1.1.1.0 j; interpolation = k j; fov = f j; perspective = p j }

light_same : (d : Differing) (s t : List ℕ) → SameRecord d light_stretches s t → light.decode s ≡ light.decode t
unfolding light as_record number ◌⊗◌
light_same d s t h =
    let m = numbers_same 7 s t h.0 in
    λ j. record { frame = m.0 j; red = m.1.0 j; green = m.1.1.0 j; blue = m.1.1.1.0 j; dx = m.1.1.1.1.0 j; dy = m.1.1.1.1.1.0 j; dz = m.1.1.1.1.1.1.0 j }

self_shadow_same : (d : Differing) (s t : List ℕ) → SameRecord d self_shadow_stretches s t → self_shadow.decode s ≡ self_shadow.decode t
unfolding self_shadow as_record number byte ◌⊗◌
self_shadow_same d s t h =
    let b = back 4 5 s t h.0 in
    let f = number_same s t (front 4 5 s t h.0) in
    let m = byte_same 5 0 (drop 4 s) (drop 4 t) (omega arith) b in
    let e = number_same _ _ (back 1 4 (drop 4 s) (drop 4 t) b) in
    λ j. record { frame = f j; mode = m j; distance = e j }

ik_state_same : (d : Differing) (s t : List ℕ) → SameRecord d ik_state_stretches s t → ik_state.decode s ≡ ik_state.decode t
unfolding ik_state as_record name flag ◌⊗◌
ik_state_same d s t h =
    let e = ap is_set (byte_same 1 0 (drop 20 s) (drop 20 t) (omega arith) h.1.0) in
    let n = name_same _ _ h.0 in
    λ j. record { name = n j; enabled = e j }

-- n records, one after another
table_same : {A B : Type 0} (d : Differing) (K : Layout A) (f : A → B) (l : List Stretch) → width l ≡ K.size
    → ((s t : List ℕ) → SameRecord d l s t → f (K.decode s) ≡ f (K.decode t))
    → (n : ℕ) (s t : List ℕ) → SameRecords d l n s t → map f (table K n s) ≡ map f (table K n t)
unfolding SameRecords table
table_same d K f l w one zero s t h = refl
table_same d K f l w one (suc n) s t h =
    ap₂ ◌∷◌ (one s t h.0) (rw w at (table_same d K f l w one n (drop (width l) s) (drop (width l) t) h.1))

-- ---- two readings side by side

-- the same refusal, or values of which P holds, as many bytes left, and Q of these
abbrev Together : {A : Type 0} → (A → A → Type 0) → (List ℕ → List ℕ → Type 0) → Step A → Step A → Type 0
Together P Q (refused k) (refused j) = k ≡ j
Together P Q (refused k) (got b t) = ⊥
Together P Q (got a s) (refused j) = ⊥
Together P Q (got a s) (got b t) = P a b × (length s ≡ length t) × Q s t

together_bind : {A B : Type 0} (P : A → A → Type 0) (Q : List ℕ → List ℕ → Type 0) (R : B → B → Type 0) (S : List ℕ → List ℕ → Type 0)
    (x y : Step A) (f g : A → Reader B) → Together P Q x y
    → ((a b : A) (s t : List ℕ) → P a b → length s ≡ length t → Q s t → Together R S (f a s) (g b t))
    → Together R S (bind x f) (bind y g)
unfolding bind
together_bind P Q R S (refused k) (refused j) f g h then = h
together_bind P Q R S (refused k) (got b t) f g h then = absurd h
together_bind P Q R S (got a s) (refused j) f g h then = absurd h
together_bind P Q R S (got a s) (got b t) f g h then = then a b s t h.0 h.1 h.2

length_after : (n : ℕ) (s t : List ℕ) → length s ≡ length t → length (drop n s) ≡ length (drop n t)
length_after n s t e = rw (length-drop n s, length-drop n t, e)

-- ---- sections

module _ {A : Type 0} (C : Codec A) (P : List A → List A → Type 0) (Q : List ℕ → List ℕ → Type 0) where
  abbrev Items : Section A → Section A → Type 0
  Items x y = P x.items y.items

  abbrev Many : ℕ → List ℕ → List ℕ → Type 0
  Many n s t = n * C.least ≤ length s → Together P Q (many C.read n s) (many C.read n t)

  over_same : (o : Oversized) → P [] [] → Q [] [] → Together Items Q (over_count o) (over_count o)
  unfolding over_count no_section
  over_same (refuse k) p q = refl
  over_same emptied p q = (p, refl, q)

  module _ (o : Oversized) (s t : List ℕ) (e : length s ≡ length t) (f : take 4 s ≡ take 4 t)
      (h : Many (u32 s) (drop 4 s) (drop 4 t)) (over : Together Items Q (over_count o) (over_count o)) where
    counted_same : Together Items Q (counted o C s) (counted o C t)
    unfolding counted counted_if records_if
    counted_same = rw (← e) (one (leb 4 (length s)))
      where
        two : (b : Bool) → leb (u32 s * C.least) (length (drop 4 s)) ≡ b
            → Together Items Q (records_if b o C (u32 s) (drop 4 s)) (records_if b o C (u32 s) (drop 4 t))
        two true q =
            together_bind P Q Items Q _ _ _ _ (h (leb-true (u32 s * C.least) (length (drop 4 s)) q)) λ a b u v p l r. (p, l, r)
        two false q = over

        one : (b : Bool) → Together Items Q (counted_if b o C s) (counted_if b o C t)
        one true = rw (← number_same s t f, ← length_after 4 s t e) (two (leb (u32 s * C.least) (length (drop 4 s))) refl)
        one false = refl

  -- where the file may end before the count
  optional_same : (o : Oversized) (s t : List ℕ) → length s ≡ length t → P [] [] → Q [] []
      → Together Items Q (counted o C s) (counted o C t) → Together Items Q (optional (counted o C) s) (optional (counted o C) t)
  unfolding optional no_section
  optional_same o [] [] e p q h = (p, refl, q)
  optional_same o [] (b ∷ t) e p q h = absurd (omega arith)
  optional_same o (a ∷ s) [] e p q h = absurd (omega arith)
  optional_same o (a ∷ s) (b ∷ t) e p q h = h

-- records of one layout
module _ {A B : Type 0} (d : Differing) (K : Layout A) (f : A → B) (l : List Stretch) (w : width l ≡ K.size)
    (one : (s t : List ℕ) → SameRecord d l s t → f (K.decode s) ≡ f (K.decode t)) (Q : List ℕ → List ℕ → Type 0) where
  abbrev Mapped : List A → List A → Type 0
  Mapped x y = map f x ≡ map f y

  records_same : (n : ℕ) (s t : List ℕ) → length s ≡ length t → SameRecords d l n s t → Q (drop (n * width l) s) (drop (n * width l) t)
      → Many (fixed K) Mapped Q n s t
  unfolding fixed
  records_same n s t e h q k =
      rw (many_table K n s k, many_table K n t (rw (← e) k))
      (table_same d K f l w one n s t h, length_after (n * K.size) s t e, rw w at q)

-- ---- property frames

abbrev Equal : {A : Type 0} → A → A → Type 0
Equal a b = a ≡ b

abbrev SameIkStates : Section IkState → Section IkState → Type 0
SameIkStates x y = map (λ k. k) x.items ≡ map (λ k. k) y.items

module _ (d : Differing) (Q : List ℕ → List ℕ → Type 0) (s t : List ℕ) (e : length s ≡ length t) (f : take 9 s ≡ take 9 t)
    (h : SameRecords d ik_state_stretches (u32 (drop 5 s)) (drop 9 s) (drop 9 t))
    (q : Q (drop (u32 (drop 5 s) * 21) (drop 9 s)) (drop (u32 (drop 5 s) * 21) (drop 9 t))) where
  ik_states_same : Together SameIkStates Q (counted (refuse file_ends_early) (fixed ik_state) (drop 5 s)) (counted (refuse file_ends_early) (fixed ik_state) (drop 5 t))
  unfolding fixed ik_state as_record name flag ◌⊗◌ over_count
  ik_states_same =
      counted_same (fixed ik_state) (λ x y. map (λ k. k) x ≡ map (λ k. k) y) Q (refuse file_ends_early) (drop 5 s) (drop 5 t)
      (length_after 5 s t e) (back 5 4 s t f)
      (rw (drop-drop 4 5 s, drop-drop 4 5 t) (records_same d ik_state (λ k. k) ik_state_stretches refl (ik_state_same d) Q (u32 (drop 5 s)) (drop 9 s) (drop 9 t)
      (length_after 9 s t e) h q)) refl

  frame_same : Together Equal Q (property.read s) (property.read t)
  unfolding property whole whole_if property_head number flag ◌⊗◌ bind
  frame_same = rw (← e) (go (leb 5 (length s)))
    where
      n : u32 s ≡ u32 t
      n = number_same s t (front 4 5 s t f)

      v : is_set (get_or (drop 4 s) 0 0) ≡ is_set (get_or (drop 4 t) 0 0)
      v = ap is_set (byte_same 5 0 (drop 4 s) (drop 4 t) (omega arith) (back 4 5 s t f))

      made : ℕ × Bool → Section IkState → Reader Property
      made h k = got (record { frame = h.0; visible = h.1; ik_states = k.items })

      then : ℕ × Bool → Reader Property
      then h u = bind (counted (refuse file_ends_early) (fixed ik_state) u) (made h)

      last : (x y : Section IkState) (u w : List ℕ) → SameIkStates x y → length u ≡ length w → Q u w
          → Together Equal Q (made (u32 s, is_set (get_or (drop 4 s) 0 0)) x u) (made (u32 t, is_set (get_or (drop 4 t) 0 0)) y w)
      last x y u w p l r =
          let i : x.items ≡ y.items = sym (map-id x.items) ∙ p ∙ map-id y.items in
          ((λ j. record { frame = n j; visible = v j; ik_states = i j }), l, r)

      go : (b : Bool) → Together Equal Q (bind (whole_if b property_head s) then) (bind (whole_if b property_head t) then)
      go false = refl
      go true =
          together_bind SameIkStates Q Equal Q (counted (refuse file_ends_early) (fixed ik_state) (drop 5 s)) (counted (refuse file_ends_early) (fixed ik_state) (drop 5 t))
          (made (u32 s, is_set (get_or (drop 4 s) 0 0))) (made (u32 t, is_set (get_or (drop 4 t) 0 0))) ik_states_same last

module _ (d : Differing) where
  frames_same : (n : ℕ) (s t : List ℕ) → length s ≡ length t → SameFrames d n s t
      → Together Equal Equal (many property.read n s) (many property.read n t)
  unfolding many SameFrames
  frames_same zero s t e h = (refl, e, h)
  frames_same (suc n) s t e h =
      together_bind Equal (SameFrames d n) Equal Equal _ _ _ _ (frame_same d (SameFrames d n) s t e h.0 h.1 h.2) λ a b u v p l r.
      together_bind Equal Equal Equal Equal _ _ _ _ (frames_same n u v l r) λ x y u' v' p' l' r'.
      (ap₂ ◌∷◌ p p', l', r')

  -- ---- a whole file

  -- the other sections of a file that has ended
  nothing_left : (r : List (List Stretch)) → SameSections d r [] []
  unfolding SameSections SameFrames SameRecords u32
  nothing_left [] = (refl, refl)
  nothing_left (l ∷ r) = (refl, tt, rw (drop-nil {A = ℕ} (0 * width l)) (nothing_left r))

  module _ {A B : Type 0} (K : Layout A) (f : A → B) (l : List Stretch) (w : width l ≡ K.size)
      (one : (s t : List ℕ) → SameRecord d l s t → f (K.decode s) ≡ f (K.decode t)) (o : Oversized) (r : List (List Stretch))
      (s t : List ℕ) (e : length s ≡ length t) (h : SameSections d (l ∷ r) s t) where
    abbrev SameItems : Section A → Section A → Type 0
    SameItems x y = map f x.items ≡ map f y.items

    section_same : Together SameItems (SameSections d r) (counted o (fixed K) s) (counted o (fixed K) t)
    unfolding SameSections
    section_same =
        let Q = SameSections d r in
        counted_same (fixed K) (Mapped d K f l w one Q) Q o s t e h.0
        (records_same d K f l w one Q (u32 s) (drop 4 s) (drop 4 t) (length_after 4 s t e) h.1 h.2)
        (over_same (fixed K) (Mapped d K f l w one Q) Q o refl (nothing_left r))

    optional_section_same : Together SameItems (SameSections d r) (optional (counted o (fixed K)) s) (optional (counted o (fixed K)) t)
    optional_section_same =
        let Q = SameSections d r in
        optional_same (fixed K) (Mapped d K f l w one Q) Q o s t e refl (nothing_left r) section_same

  abbrev SameFramesOf : Section Property → Section Property → Type 0
  SameFramesOf x y = x.items ≡ y.items

  properties_same : (s t : List ℕ) → length s ≡ length t → SameSections d [] s t
      → Together SameFramesOf Equal (optional (counted (refuse file_ends_early) property) s) (optional (counted (refuse file_ends_early) property) t)
  unfolding SameSections over_count
  properties_same s t e h =
      optional_same property Equal Equal (refuse file_ends_early) s t e refl refl
      (counted_same property Equal Equal (refuse file_ends_early) s t e h.0
      (λ k. frames_same (u32 s) (drop 4 s) (drop 4 t) (length_after 4 s t e) h.1) refl)

  -- what has to be the same of a take
  abbrev kept : Take → Take
  kept t = record {
    model = t.model;
    bones = map (bone_kept d) t.bones;
    morphs = map (λ x. x) t.morphs;
    cameras = map (camera_kept d) t.cameras;
    lights = map (λ x. x) t.lights;
    self_shadows = map (λ x. x) t.self_shadows;
    properties = t.properties;
  }

  abbrev SameTake : File → File → Type 0
  SameTake f g = kept (take_of f) ≡ kept (take_of g)

  abbrev Anything : List ℕ → List ℕ → Type 0
  Anything s t = Unit {0}

  ended_same : (o : BytesOver) (f g : File) (s t : List ℕ) → SameTake f g → s ≡ t → Together SameTake Anything (ended o f s) (ended o g t)
  unfolding ended
  ended_same o f g s t h e = rw (← e) (go o s)
    where
      go : (o : BytesOver) (s : List ℕ) → Together SameTake Anything (ended o f s) (ended o g s)
      go ignored s = (h, refl, tt)
      go (turned_down k) [] = (h, refl, tt)
      go (turned_down k) (b ∷ s) = refl

  sections_same : (m : Manner) (x y : List ℕ) → x ≡ y → (s t : List ℕ) → length s ≡ length t → SameSections d all_stretches s t
      → Together SameTake Anything (sections m x s) (sections m y t)
  unfolding sections take_of bone morph camera light self_shadow number byte flag inverted name raw ◌⊗◌ as_record
  sections_same m x y n s t e h =
      together_bind _ _ SameTake Anything _ _ _ _ (section_same bone (bone_kept d) bone_stretches refl (bone_same d) (refuse file_ends_early) _ s t e h) λ b b' u u' pb lb rb.
      together_bind _ _ SameTake Anything _ _ _ _ (optional_section_same morph (λ x. x) morph_stretches refl (morph_same d) (refuse file_ends_early) _ u u' lb rb) λ f f' v v' pf lf rf.
      together_bind _ _ SameTake Anything _ _ _ _ (optional_section_same camera (camera_kept d) camera_stretches refl (camera_same d) m.oversized _ v v' lf rf) λ c c' w w' pc lc rc.
      together_bind _ _ SameTake Anything _ _ _ _ (optional_section_same light (λ x. x) light_stretches refl (light_same d) m.oversized _ w w' lc rc) λ l l' i i' pl ll rl.
      together_bind _ _ SameTake Anything _ _ _ _ (optional_section_same self_shadow (λ x. x) self_shadow_stretches refl (self_shadow_same d) m.oversized _ i i' ll rl) λ a a' j j' pa la ra.
      together_bind _ _ SameTake Anything _ _ _ _ (properties_same j j' la ra) λ p p' q q' pp lp rp.
      ended_same m.over _ _ q q' (λ z. record { model = n z; bones = pb z; morphs = pf z; cameras = pc z; lights = pl z; self_shadows = pa z; properties = pp z }) rp

  edition_same : (s t : List ℕ) → DifferOnly d s t → edition s ≡ edition t
  unfolding edition
  edition_same s t h = rw (front 26 4 s t h.magic)

  header_same : (s t : List ℕ) → DifferOnly d s t → Together Equal (SameSections d all_stretches) (header s) (header t)
  unfolding header header_if magic_if model_if
  header_same s t h = rw (← h.long) (one (leb 30 (length s)))
    where
      three : (b : Bool) (x : Answer Edition) → edition s ≡ x
          → Together Equal (SameSections d all_stretches) (model_if b (field_width x) s) (model_if b (field_width x) t)
      three true x e =
          let w = field_width (edition s) in
          rw (← e) (name_same (take w (drop 30 s)) (take w (drop 30 t)) h.model, length_after (30 + w) s t h.long, h.sections)
      three false x e = refl

      two : (x : Answer Edition) → edition s ≡ x → Together Equal (SameSections d all_stretches) (magic_if x s) (magic_if x t)
      two (given e) q = rw (← h.long) (three (leb (30 + model_width e) (length s)) (given e) q)
      two (declined k) q = refl

      one : (b : Bool) → Together Equal (SameSections d all_stretches) (header_if b s) (header_if b t)
      one true = rw (← edition_same s t h) (two (edition s) refl)
      one false = refl

  reads_alike : (m : Manner) (s t : List ℕ) → DifferOnly d s t → map_answer kept (read_take m s) ≡ map_answer kept (read_take m t)
  unfolding read_take read_file answer map_answer
  reads_alike m s t h =
      go (read_file m s) (read_file m t)
      (together_bind Equal (SameSections d all_stretches) SameTake Anything (header s) (header t) (sections m) (sections m) (header_same s t h)
      λ x y u v p l r. sections_same m x y p u v l r)
    where
      go : (x y : Step File) → Together SameTake Anything x y → map_answer kept (answer x) ≡ map_answer kept (answer y)
      go (refused k) (refused j) h = ap declined h
      go (refused k) (got g v) h = absurd h
      go (got f u) (refused j) h = absurd h
      go (got f u) (got g v) h = ap given h.0

-- ---- LAWS

-- two files that differ only in bytes after a name's first zero byte read as one take, or are refused alike
pub names_read : (m : Manner) (s t : List ℕ) → DifferOnly names s t → read_take m s ≡ read_take m t
unfolding map_answer
names_read m s t h = sym (go (read_take m s)) ∙ reads_alike names m s t h ∙ go (read_take m t)
  where
    whole_take : (t : Take) → kept names t ≡ t
    whole_take t =
        let b = map-id t.bones in
        let f = map-id t.morphs in
        let c = map-id t.cameras in
        let l = map-id t.lights in
        let a = map-id t.self_shadows in
        λ z. record { model = t.model; bones = b z; morphs = f z; cameras = c z; lights = l z; self_shadows = a z; properties = t.properties }

    go : (x : Answer Take) → map_answer (kept names) x ≡ x
    go (declined k) = refl
    go (given t) = ap given (whole_take t)

-- two that differ in interpolation bytes too read as takes that are equal without these
pub interpolations_read : (m : Manner) (s t : List ℕ) → DifferOnly names_and_interpolation s t
    → map_answer without_interpolation (read_take m s) ≡ map_answer without_interpolation (read_take m t)
unfolding map_answer without_interpolation bone_without camera_without
interpolations_read m s t h = sym (go (read_take m s)) ∙ reads_alike names_and_interpolation m s t h ∙ go (read_take m t)
  where
    go : (x : Answer Take) → map_answer (kept names_and_interpolation) x ≡ map_answer without_interpolation x
    go (declined k) = refl
    go (given t) =
        let f = map-id t.morphs in
        let l = map-id t.lights in
        let a = map-id t.self_shadows in
        λ z. given (record { model = t.model; bones = map bone_without t.bones; morphs = f z; cameras = map camera_without t.cameras; lights = l z; self_shadows = a z; properties = t.properties })

-- a file differs from itself in nothing
pub name_self : (s : List ℕ) → SameName s s
name_self [] = tt
name_self (zero ∷ s) = refl
name_self (suc b ∷ s) = (refl, name_self s)

stretch_self : (d : Differing) (x : Stretch) (s : List ℕ) → SameStretch d x s s
stretch_self d (named n) s = name_self (take n s)
stretch_self names (interpolating n) s = refl
stretch_self names_and_interpolation (interpolating n) s = refl
stretch_self d (others n) s = refl

module _ (d : Differing) where
  record_self : (l : List Stretch) (s : List ℕ) → SameRecord d l s s
  record_self [] s = tt
  record_self (x ∷ l) s = (stretch_self d x s, record_self l (drop (wide x) s))

  records_self : (l : List Stretch) (n : ℕ) (s : List ℕ) → SameRecords d l n s s
  unfolding SameRecords
  records_self l zero s = tt
  records_self l (suc n) s = (record_self l s, records_self l n (drop (width l) s))

  frames_self : (n : ℕ) (s : List ℕ) → SameFrames d n s s
  unfolding SameFrames
  frames_self zero s = refl
  frames_self (suc n) s = (refl, records_self ik_state_stretches (u32 (drop 5 s)) (drop 9 s), frames_self n (drop (u32 (drop 5 s) * 21) (drop 9 s)))

  sections_self : (r : List (List Stretch)) (s : List ℕ) → SameSections d r s s
  unfolding SameSections
  sections_self [] s = (refl, frames_self (u32 s) (drop 4 s))
  sections_self (l ∷ r) s = (refl, records_self l (u32 s) (drop 4 s), sections_self r (drop (u32 s * width l) (drop 4 s)))

  pub differ_self : (s : List ℕ) → DifferOnly d s s
  differ_self s = record { long = refl; magic = refl; model = name_self (take (field_width (edition s)) (drop 30 s)); sections = sections_self all_stretches (drop (30 + field_width (edition s)) s) }

-- what differs only after names differs in no more where interpolation may too
stretch_wider : (x : Stretch) (s t : List ℕ) → SameStretch names x s t → SameStretch names_and_interpolation x s t
stretch_wider (named n) s t h = h
stretch_wider (interpolating n) s t h = ap length h
stretch_wider (others n) s t h = h

record_wider : (l : List Stretch) (s t : List ℕ) → SameRecord names l s t → SameRecord names_and_interpolation l s t
record_wider [] s t h = tt
record_wider (x ∷ l) s t h = (stretch_wider x s t h.0, record_wider l (drop (wide x) s) (drop (wide x) t) h.1)

records_wider : (l : List Stretch) (n : ℕ) (s t : List ℕ) → SameRecords names l n s t → SameRecords names_and_interpolation l n s t
unfolding SameRecords
records_wider l zero s t h = tt
records_wider l (suc n) s t h = (record_wider l s t h.0, records_wider l n (drop (width l) s) (drop (width l) t) h.1)

frames_wider : (n : ℕ) (s t : List ℕ) → SameFrames names n s t → SameFrames names_and_interpolation n s t
unfolding SameFrames
frames_wider zero s t h = h
frames_wider (suc n) s t h = (h.0, records_wider ik_state_stretches _ (drop 9 s) (drop 9 t) h.1, frames_wider n _ _ h.2)

sections_wider : (r : List (List Stretch)) (s t : List ℕ) → SameSections names r s t → SameSections names_and_interpolation r s t
unfolding SameSections
sections_wider [] s t h = (h.0, frames_wider (u32 s) (drop 4 s) (drop 4 t) h.1)
sections_wider (l ∷ r) s t h = (h.0, records_wider l (u32 s) (drop 4 s) (drop 4 t) h.1, sections_wider r _ _ h.2)

pub differ_wider : (s t : List ℕ) → DifferOnly names s t → DifferOnly names_and_interpolation s t
differ_wider s t h = record { long = h.long; magic = h.magic; model = h.model; sections = sections_wider all_stretches _ _ h.sections }
