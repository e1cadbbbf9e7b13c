-- Reading by places is the reading of Take and Opening: the same refusals, the same records, and every place in the file.
use Prim.Native.Nat.{ℕ, zero, suc, ◌+◌, ◌*◌, ◌-◌, ◌≤◌, ◌<◌}
use Rattle.std.specs.Prelude.{◌≡◌, Bool, get_or, drop, leb}
use Rattle.std.proofs.Math.Path.{refl, ap, sym}
use Rattle.std.proofs.Common.{◌∙◌, add-zero, not-le_of_lt, lt_of_not-le, get_or-drop}
use Rattle.std.proofs.Math.Bool.{true, false}
use mathlib.Core.List.{List, [], ◌∷◌}
use native.Mathlib.Omega.{arith}
use Rattle.std.proofs.Math.Nat.{zero-mul}
use borrow.Author.Tests.{le-leb, lt-leb, leb-true, leb-false}
use Rattle.std.proofs.Math.ListN.{length, length-drop}
use Rattle.std.proofs.Math.Seq.{drop-drop, drop-length}
use Rattle.vmd_format.specs.Bytes.{u32, is_set}
use Rattle.vmd_format.specs.Layout.{Layout, number, flag, name, ◌⊗◌, as_record}
use Rattle.vmd_format.specs.Refusal.{file_ends_early}
use Rattle.vmd_format.specs.Answer.{Answer, declined, given}
use Rattle.vmd_format.specs.Records.{Property, ik_state, property_head}
use Rattle.vmd_format.specs.Read.{Step, refused, got, bind, Codec, whole, whole_if, fixed, many, table, Section, no_section, Oversized, refuse, emptied, over_count, records_if, counted_if, counted, optional}
use Rattle.vmd_format.specs.Take.{property}
use Rattle.vmd_format.specs.Opening.{ik_total, Extent}
use Rattle.vmd_format.specs.Fetch.{next_frame}
use Rattle.vmd_laws.specs.Places.{Span, extent_in, no_span, over_span, records_span, count_span, span, optional_if, optional_span, Walk, walk_on, walk}

-- a fact of what is given
abbrev pub Holds : {A : Type 0} → (A → Type 0) → Answer A → Type 0
Holds P (declined k) = Unit {0}
Holds P (given a) = P a

-- two tests that say the same
pub leb_same : (a b c d : ℕ) → (a ≤ b → c ≤ d) → (c ≤ d → a ≤ b) → leb a b ≡ leb c d
leb_same a b c d f g = go (leb c d) refl
  where
    go : (t : Bool) → leb c d ≡ t → leb a b ≡ t
    go true e = le-leb a b (g (leb-true c d e))
    go false e = lt-leb a b (lt_of_not-le (λ h. not-le_of_lt (leb-false c d e) (f h)))

-- ---- records of one layout, back to back

module _ {A : Type 0} (K : Layout A) where
  pub table_length : (n : ℕ) (s : List ℕ) → length (table K n s) ≡ n
  unfolding table
  table_length zero s = refl
  table_length (suc n) s = ap suc (table_length n (drop K.size s))

  pub table_at : (n i : ℕ) (s : List ℕ) (d : A) → i < n → get_or (table K n s) i d ≡ K.decode (drop (i * K.size) s)
  unfolding table
  table_at zero i s d h = absurd (omega arith)
  table_at (suc n) zero s d h = rw zero-mul
  table_at (suc n) (suc i) s d h =
      let e : K.size + i * K.size ≡ suc i * K.size = omega arith in
      table_at n i (drop K.size s) d (omega arith) ∙ rw (drop-drop, e)

  pub many_table : (n : ℕ) (s : List ℕ) → n * K.size ≤ length s → many (whole K) n s ≡ got (table K n s) (drop (n * K.size) s)
  unfolding table many bind whole whole_if
  many_table zero s h = rw zero-mul
  many_table (suc n) s h =
      let e : K.size + n * K.size ≡ suc n * K.size = omega arith in
      rw (le-leb K.size (length s) (omega arith), many_table n (drop K.size s) (rw length-drop (omega arith)), drop-drop, e)

-- ---- spans

-- a section's records lie in the file, and the next section begins after them
pub record Within (size : ℕ) (s : List ℕ) (x : Span) : Type 0 where
  pub place : x.place ≤ length s
  pub next : x.next ≡ x.place + x.count * size
  pub ends : x.next ≤ length s

none_within : (size : ℕ) (s : List ℕ) → Within size s (no_span s)
unfolding no_span
none_within size s = record { place = omega arith; next = rw zero-mul (omega arith); ends = omega arith }

module _ (o : Oversized) (size : ℕ) (s : List ℕ) (at : ℕ) where
  pub span_within : Holds (Within size s) (span o size s at)
  unfolding span count_span records_span over_span
  span_within = one (leb (at + 4) (length s)) refl
    where
      over : (o : Oversized) → Holds (Within size s) (over_span o s)
      over (refuse k) = tt
      over emptied = none_within size s

      two : (b : Bool) → leb (u32 (drop at s) * size) (length s - (at + 4)) ≡ b → at + 4 ≤ length s
          → Holds (Within size s) (records_span b o size s at)
      two true e h = record { place = h; next = refl; ends = omega (arith, leb-true (u32 (drop at s) * size) (length s - (at + 4)) e) }
      two false e h = over o

      one : (b : Bool) → leb (at + 4) (length s) ≡ b → Holds (Within size s) (count_span b o size s at)
      one true e = two (leb (u32 (drop at s) * size) (length s - (at + 4))) refl (leb-true _ _ e)
      one false e = tt

  pub optional_within : Holds (Within size s) (optional_span o size s at)
  unfolding optional_span optional_if
  optional_within = go (leb (length s) at)
    where
      go : (b : Bool) → Holds (Within size s) (optional_if b o size s at)
      go true = none_within size s
      go false = span_within

  -- the cases, for code
  pub span_short : length s < at + 4 → span o size s at ≡ declined file_ends_early
  unfolding span count_span
  span_short h = rw (lt-leb (at + 4) (length s) h)

  pub span_whole : (n : ℕ) → at + 4 ≤ length s → n ≡ u32 (drop at s) → n * size ≤ length s - (at + 4)
      → span o size s at ≡ given (record { count = n; place = at + 4; next = at + 4 + n * size })
  unfolding span count_span records_span
  span_whole n h e l = rw (le-leb (at + 4) (length s) h, ← e, le-leb (n * size) (length s - (at + 4)) l, ← e)

  pub span_over : (n : ℕ) → at + 4 ≤ length s → n ≡ u32 (drop at s) → length s - (at + 4) < n * size → span o size s at ≡ over_span o s
  unfolding span count_span records_span
  span_over n h e l = rw (le-leb (at + 4) (length s) h, ← e, lt-leb (n * size) (length s - (at + 4)) l)

-- a section by its span
unfoldable pub section_by : {A : Type 0} → Codec A → List ℕ → Answer Span → Step (Section A)
section_by C s (declined k) = refused k
section_by C s (given x) =
    bind (many C.read x.count (drop x.place s)) (λ l t. got (record { start = drop x.place s; items = l }) t)

module _ {A : Type 0} (C : Codec A) (o : Oversized) (s : List ℕ) (at : ℕ) (h : at ≤ length s) where
  none_by : section_by C s (given (no_span s)) ≡ got no_section []
  unfolding section_by no_span many bind no_section
  none_by = rw (drop-length s)

  pub counted_by : counted o C (drop at s) ≡ section_by C s (span o C.least s at)
  unfolding counted counted_if records_if over_count span count_span records_span over_span section_by
  counted_by =
      rw (leb_same 4 (length (drop at s)) (at + 4) (length s) (rw length-drop (λ l. omega arith)) (rw length-drop (λ l. omega arith)))
      (one (leb (at + 4) (length s)))
    where
      over : (o : Oversized) → over_count {A = A} o ≡ section_by C s (over_span o s)
      over (refuse k) = refl
      over emptied = sym none_by

      two : (b : Bool) → records_if b o C (u32 (drop at s)) (drop (at + 4) s) ≡ section_by C s (records_span b o C.least s at)
      two true = refl
      two false = over o

      one : (b : Bool) → counted_if b o C (drop at s) ≡ section_by C s (count_span b o C.least s at)
      one true = rw (drop-drop, length-drop) (two (leb (u32 (drop at s) * C.least) (length s - (at + 4))))
      one false = refl

  pub optional_by : optional (counted o C) (drop at s) ≡ section_by C s (optional_span o C.least s at)
  unfolding optional_span optional_if optional
  optional_by = go (leb (length s) at) refl
    where
      cons : (t : List ℕ) → 0 < length t → optional (counted o C) t ≡ counted o C t
      cons [] l = absurd (omega arith)
      cons (b ∷ t) l = refl

      go : (b : Bool) → leb (length s) at ≡ b → optional (counted o C) (drop at s) ≡ section_by C s (optional_if b o C.least s at)
      go true e =
          let f : at ≡ length s = omega (arith, leb-true (length s) at e) in
          rw (f, drop-length s) (sym none_by)
      go false e = cons (drop at s) (rw length-drop (omega (arith, leb-false (length s) at e))) ∙ counted_by

-- the records of one size at a part of the file
unfoldable pub section_in : {A : Type 0} → Layout A → List ℕ → Extent → Section A
section_in K s p = record { start = drop p.place s; items = table K p.count (drop p.place s) }

pub fixed_by : {A : Type 0} (K : Layout A) (s : List ℕ) (x : Span) → Within K.size s x
    → section_by (fixed K) s (given x) ≡ got (section_in K s (extent_in x)) (drop x.next s)
unfolding section_by fixed section_in extent_in bind
fixed_by K s x w =
    rw (many_table K x.count (drop x.place s) (rw length-drop (omega (arith, w.place, w.next, w.ends))), drop-drop, ← w.next)

-- ---- property frames

-- the frame at a place, and n frames from there on
unfoldable pub property_in : List ℕ → ℕ → Property
property_in s at = record {
  frame = u32 (drop at s);
  visible = is_set (get_or s (at + 4) 0);
  ik_states = table ik_state (u32 (drop (at + 5) s)) (drop (at + 9) s);
}

unfoldable pub frames_in : List ℕ → ℕ → ℕ → List Property
frames_in s zero at = []
frames_in s (suc n) at = property_in s at ∷ frames_in s n (next_frame s at)

-- what a frame's span says
pub record Frame (s : List ℕ) (at : ℕ) (x : Span) : Type 0 where
  pub count : x.count ≡ u32 (drop (at + 5) s)
  pub place : x.place ≡ at + 9
  pub next : x.next ≡ next_frame s at
  pub ends : x.next ≤ length s

pub frame_span : (s : List ℕ) (at : ℕ) → Holds (Frame s at) (span (refuse file_ends_early) 21 s (at + 5))
unfolding span count_span records_span over_span next_frame
frame_span s at = one (leb (at + 5 + 4) (length s)) refl
  where
    k : ℕ
    k = u32 (drop (at + 5) s)

    two : (b : Bool) → leb (k * 21) (length s - (at + 5 + 4)) ≡ b → at + 5 + 4 ≤ length s
        → Holds (Frame s at) (records_span b (refuse file_ends_early) 21 s (at + 5))
    two true e h = record {
      count = refl;
      place = omega arith;
      next = omega arith;
      ends = omega (arith, leb-true (k * 21) (length s - (at + 5 + 4)) e);
    }
    two false e h = tt

    one : (b : Bool) → leb (at + 5 + 4) (length s) ≡ b → Holds (Frame s at) (count_span b (refuse file_ends_early) 21 s (at + 5))
    one true e = two (leb (k * 21) (length s - (at + 5 + 4))) refl (leb-true _ _ e)
    one false e = tt

unfoldable property_step : List ℕ → ℕ → Answer Span → Step Property
property_step s at (declined k) = refused k
property_step s at (given x) = got (property_in s at) (drop x.next s)

property_by : (s : List ℕ) (at : ℕ) → at + 5 ≤ length s
    → property.read (drop at s) ≡ property_step s at (span (refuse file_ends_early) 21 s (at + 5))
unfolding property whole whole_if property_head number flag ◌⊗◌ bind section_by property_step property_in ik_state as_record name fixed section_in extent_in
property_by s at h =
    rw (le-leb 5 (length (drop at s)) (rw length-drop (omega arith)), drop-drop 5 at s, counted_by (fixed ik_state) (refuse file_ends_early) s (at + 5) h)
    (go (span (refuse file_ends_early) 21 s (at + 5)) (span_within (refuse file_ends_early) 21 s (at + 5)) (frame_span s at))
  where
    go : (x : Answer Span) → Holds (Within 21 s) x → Holds (Frame s at) x
        → bind (section_by (fixed ik_state) s x)
        (λ k. got (record { frame = (property_head.decode (drop at s)).0; visible = (property_head.decode (drop at s)).1; ik_states = k.items }))
        ≡ property_step s at x
    go (declined k) w f = refl
    go (given x) w f = rw (fixed_by ik_state s x w, f.count, f.place) (simp (drop-drop, get_or-drop, add-zero))

property_short : (s : List ℕ) (at : ℕ) → length s < at + 5 → at ≤ length s → property.read (drop at s) ≡ refused file_ends_early
unfolding property whole whole_if property_head number flag ◌⊗◌ bind
property_short s at h l = rw (lt-leb 5 (length (drop at s)) (rw length-drop (omega arith)))

-- frames read are frames walked over: the same refusal, or the frames of these places, the bytes after them and their IK states
pub record Walked (s : List ℕ) (n at total : ℕ) (l : List Property) (t : List ℕ) (w : Walk) : Type 0 where
  pub frames : l ≡ frames_in s n at
  pub rest : t ≡ drop w.next s
  pub ends : w.next ≤ length s
  pub ik_states : w.ik_states ≡ total + ik_total l

abbrev pub WalkAgrees : List ℕ → ℕ → ℕ → ℕ → Step (List Property) → Answer Walk → Type 0
WalkAgrees s n at total (refused k) (declined j) = k ≡ j
WalkAgrees s n at total (refused k) (given w) = ⊥
WalkAgrees s n at total (got l t) (declined j) = ⊥
WalkAgrees s n at total (got l t) (given w) = Walked s n at total l t w

walk_cons : (s : List ℕ) (n at total : ℕ) (x : Span) → Frame s at x → (y : Step (List Property)) (z : Answer Walk)
    → WalkAgrees s n x.next (total + x.count) y z → WalkAgrees s (suc n) at total (bind y (λ l u. got (property_in s at ∷ l) u)) z
unfolding bind frames_in ik_total property_in
walk_cons s n at total x f (refused k) (declined j) h = h
walk_cons s n at total x f (refused k) (given w) h = h
walk_cons s n at total x f (got l t) (declined j) h = h
walk_cons s n at total x f (got l t) (given w) h = record {
  frames = ap {B = List Property} (λ r. property_in s at ∷ r) (h.frames ∙ rw f.next);
  rest = h.rest;
  ends = h.ends;
  ik_states = omega (arith, h.ik_states, f.count, table_length ik_state (u32 (drop (at + 5) s)) (drop (at + 9) s));
}

pub walk_agrees : (s : List ℕ) (n at total : ℕ) → at ≤ length s → WalkAgrees s n at total (many property.read n (drop at s)) (walk s n at total)
unfolding many walk walk_on bind frames_in ik_total property_step
walk_agrees s zero at total h = record { frames = refl; rest = refl; ends = h; ik_states = omega arith }
walk_agrees s (suc n) at total h = one (walk_agrees s n) (leb (at + 5) (length s)) refl
  where
    then : Property → List ℕ → Step (List Property)
    then a t = bind (many property.read n t) (λ l u. got (a ∷ l) u)

    Rest : Type 0
    Rest = (e total : ℕ) → e ≤ length s → WalkAgrees s n e total (many property.read n (drop e s)) (walk s n e total)

    two : Rest → (x : Answer Span) → Holds (Frame s at) x
        → WalkAgrees s (suc n) at total (bind (property_step s at x) then) (walk_on true x (walk s n) total)
    two r (declined k) f = refl
    two r (given x) f =
        walk_cons s n at total x f (many property.read n (drop x.next s)) (walk s n x.next (total + x.count))
        (r x.next (total + x.count) f.ends)

    one : Rest → (b : Bool) → leb (at + 5) (length s) ≡ b
        → WalkAgrees s (suc n) at total (bind (property.read (drop at s)) then) (walk_on b (span (refuse file_ends_early) 21 s (at + 5)) (walk s n) total)
    one r true e = rw (property_by s at (leb-true _ _ e)) (two r (span (refuse file_ends_early) 21 s (at + 5)) (frame_span s at))
    one r false e = rw (property_short s at (leb-false _ _ e) h) refl

-- the cases of a turn, for code
module _ (s : List ℕ) (n at total : ℕ) where
  pub walk_done : n ≡ 0 → walk s n at total ≡ given (record { next = at; ik_states = total })
  unfolding walk
  walk_done h = rw h

  walk_turn : 0 < n → walk s n at total
      ≡ walk_on (leb (at + 5) (length s)) (span (refuse file_ends_early) 21 s (at + 5)) (walk s (n - 1)) total
  unfolding walk
  walk_turn h = let d : n ≡ suc (n - 1) = omega arith in ap (λ i. walk s i at total) d

  walk_halts : (b : Bool) → walk_on b (declined file_ends_early) (walk s (n - 1)) total ≡ declined file_ends_early
  unfolding walk_on
  walk_halts true = refl
  walk_halts false = refl

  pub walk_short : 0 < n → length s < at + 9 → walk s n at total ≡ declined file_ends_early
  walk_short h l =
      walk_turn h ∙ rw (span_short (refuse file_ends_early) 21 s (at + 5) (omega arith)) (walk_halts (leb (at + 5) (length s)))

  module _ (k : ℕ) (h : 0 < n) (l : at + 9 ≤ length s) (e : k ≡ u32 (drop (at + 5) s)) where
    pub walk_over : length s - (at + 9) < k * 21 → walk s n at total ≡ declined file_ends_early
    unfolding over_span
    walk_over o =
        walk_turn h ∙ rw (span_over (refuse file_ends_early) 21 s (at + 5) k (omega arith) e (omega arith)) (walk_halts (leb (at + 5) (length s)))

    pub walk_next : k * 21 ≤ length s - (at + 9) → walk s n at total ≡ walk s (n - 1) (at + 9 + k * 21) (total + k)
    unfolding walk_on
    walk_next o =
        let d : at + 5 + 4 + k * 21 ≡ at + 9 + k * 21 = omega arith in
        walk_turn h
        ∙ rw (le-leb (at + 5) (length s) (omega arith), span_whole (refuse file_ends_early) 21 s (at + 5) k (omega arith) e (omega arith), d)
