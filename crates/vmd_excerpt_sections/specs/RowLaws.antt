-- Laws of the loops over the records of a section: what stays is counted, written, and moved to its new frames.
use Prim.Native.Nat.{ℕ, zero, suc, ◌+◌, ◌-◌, ◌*◌, ◌≤◌, ◌<◌}
use Rattle.std.specs.Prelude.{◌≡◌, refl, Bool, take}
use Rattle.std.proofs.Math.Path.{ap, ap₂, sym}
use Rattle.std.proofs.Common.{◌∙◌, add-zero, take-append-drop, length-take-le, drop_at, drop-drop}
use Rattle.std.proofs.Math.Bool.{true, false}
use mathlib.Core.List.{List, [], ◌∷◌, ◌++◌, map, append_assoc, append-nil}
use native.Mathlib.Omega.{arith}
use Rattle.std.proofs.Math.ListN.{length, drop, length-append}
use Rattle.std.proofs.lemmas.List.{length-map, take-append-le}
use Rattle.vmd_format.specs.Bytes.{u32, u32_bytes}
use Rattle.vmd_format.specs.Layout.{Layout}
use Rattle.vmd_format.specs.Characters.{between}
use Rattle.vmd_format.specs.Records.{Property}
use Rattle.vmd_format.specs.Read.{Codec, table, write_all, write_counted}
use Rattle.vmd_format.specs.Take.{property}
use Rattle.vmd_format.specs.Opening.{ik_total}
use Rattle.vmd_laws.specs.CharacterLaws.{between_true}
use Rattle.vmd_laws.specs.ReadLaws.{All, all_append, write_all_append}
use Rattle.vmd_laws.specs.SizedLaws.{Sized, table_first, table_none}
use Rattle.vmd_laws.specs.PlacesLaws.{table_length, property_in, frames_in}
use Rattle.vmd_laws.specs.ScanLaws.{frames_length}
use Rattle.vmd_bytes.specs.Slices.{splice}
use Rattle.vmd_bytes.specs.Written.{Room, Wrote, Rest}
use Rattle.vmd_bytes.proofs.Laws.{length_splice, splice_over_end, length_u32_bytes}
use Rattle.vmd_bytes.proofs.Writes.{rest_all, rest_room, rest_then, first_then, none_left, less_one}
use Rattle.vmd_count.specs.Held.{step_if}
use Rattle.vmd_records.specs.declared.VmdKind.{VmdKind}
use Rattle.vmd_records.specs.Kinds.{Row, layout, size_of, frame_at}
use Rattle.vmd_records.specs.KindLaws.{kind_sized}
use Rattle.vmd_framed.specs.Excerpt.{Framed, property_framed, moved, excerpt_section}
use Rattle.vmd_excerpt_sections.specs.Rows.{framed, rows, kept_rows, kept_frames, number_if, Stands}
use Rattle.vmd_framed.proofs.ExcerptLaws.{first_kept, first_dropped, section_append, all_kept, none_kept, section_short}
use Rattle.vmd_excerpt_sections.specs.FrameLaws.{kind_frame, property_frame, frame_read, refit, refit_after}

-- ---- records one after another

pub table_add : {A : Type 0} {K : Layout A} {w : ℕ} → Sized K w → (m n p : ℕ) (s : List ℕ) → table K (m + n) (drop p s) ≡ table K m (drop p s) ++ table K n (drop (p + m * w) s)
unfolding table
table_add {K = K} {w} z zero n p s =
    let e : zero + n ≡ n = omega arith in
    let d : p ≡ p + zero * w = omega arith in
    ap₂ (λ (i j : ℕ). table K i (drop j s)) e d
table_add {A} {K} {w} z (suc m) n p s =
    let e : suc m + n ≡ suc (m + n) = omega arith in
    let d : drop K.size (drop p s) ≡ drop (p + w) s = rw (z.size, drop-drop) in
    let f : p + w + m * w ≡ p + suc m * w = omega arith in
    ap (λ (i : ℕ). table K i (drop p s)) e
    ∙ ap {B = List A} (λ t. K.decode (drop p s) ∷ t) (ap (table K (m + n)) d ∙ table_add z m n (p + w) s ∙ ap₂ (λ (t : List ℕ) (i : ℕ). table K m t ++ table K n (drop i s)) (sym d) f)

-- the first m of n
pub table_split : {A : Type 0} {K : Layout A} {w : ℕ} → Sized K w → (m n p : ℕ) (s : List ℕ) → m ≤ n → table K n (drop p s) ≡ table K m (drop p s) ++ table K (n - m) (drop (p + m * w) s)
table_split {K = K} z m n p s h = let e : n ≡ m + (n - m) = omega arith in ap (λ (i : ℕ). table K i (drop p s)) e ∙ table_add z m (n - m) p s

pub frame_there : (k : VmdKind) (s : List ℕ) (p : ℕ) → (framed k).frame ((layout k).decode (drop p s)) ≡ u32 (drop (p + frame_at k) s)
frame_there k s p = frame_read k (drop p s) ∙ ap u32 (drop-drop (frame_at k) p s)

-- no more stay than there are
pub rows_few : (k : VmdKind) (first last : ℕ) (s : List ℕ) (n at : ℕ) → length (kept_rows k first last s n at) ≤ n
unfolding kept_rows
rows_few k first last s n at = omega (arith, section_short (framed k) first last (rows k s n at), table_length (layout k) n (drop at s))

pub frames_few : (first last : ℕ) (s : List ℕ) (n at : ℕ) → length (kept_frames first last s n at) ≤ n
unfolding kept_frames
frames_few first last s n at = omega (arith, section_short property_framed first last (frames_in s n at), frames_length s n at)

-- fewer records have fewer bytes
pub fewer : (w m n : ℕ) → m ≤ n → n * w ≡ m * w + (n - m) * w
fewer w m n h = let e : n ≡ m + (n - m) = omega arith in ap (λ (i : ℕ). i * w) e ∙ omega arith

-- the next of n records lies where they do
pub lies_on : (w at k n l : ℕ) → k < n → at + n * w ≤ l → at + k * w + w ≤ l
lies_on w at k n l h r = let e = fewer w (suc k) n h in omega arith

-- ---- a run of records that are alike

module _ (k : VmdKind) (s : List ℕ) (at first last : ℕ) (on : Bool) where
  abbrev Alike : Row k → Type 0
  Alike a = between first last ((framed k).frame a) ≡ on

  pub run_start : on ≡ between first last ((framed k).frame ((layout k).decode (drop at s))) → All Alike (rows k s 1 at)
  unfolding table
  run_start e = (sym e, tt)

  pub run_turn : (n p : ℕ) → p ≡ at + n * size_of k → on ≡ between first last ((framed k).frame ((layout k).decode (drop p s)))
      → All Alike (rows k s n at) → All Alike (rows k s (n + 1) at)
  unfolding table
  run_turn n p e d h =
      rw (table_add (kind_sized k) n 1 at s) (all_append Alike (rows k s n at) (rows k s 1 (at + n * size_of k)) h (rw (← e) (sym d), tt))

-- ---- counting

module _ {A : Type 0} (F : Framed A) (first last : ℕ) where
  pub count_turn : {a : A} {left others : List A} (kept all : ℕ) (on : Bool) → left ≡ a ∷ others → on ≡ between first last (F.frame a)
      → kept + length (excerpt_section F first last left) ≡ all
      → step_if on kept + length (excerpt_section F first last others) ≡ all
  unfolding step_if
  count_turn {a} {left} {others} kept all true c e h =
      let d : length (excerpt_section F first last left) ≡ suc (length (excerpt_section F first last others)) =
      ap (λ l. length (excerpt_section F first last l)) c ∙ ap length (first_kept F first last a others (sym e)) in omega arith
  count_turn {a} {left} {others} kept all false c e h =
      let d : length (excerpt_section F first last left) ≡ length (excerpt_section F first last others) =
      ap (λ l. length (excerpt_section F first last l)) c ∙ ap length (first_dropped F first last a others (sym e)) in omega arith

pub states_turn : (first last : ℕ) {p : Property} {left others : List Property} (sum all n : ℕ) (on : Bool) → left ≡ p ∷ others
    → on ≡ between first last p.frame → n ≡ length p.ik_states
    → sum + ik_total (excerpt_section property_framed first last left) ≡ all
    → sum + number_if on n + ik_total (excerpt_section property_framed first last others) ≡ all
unfolding number_if property_framed
states_turn first last {p} {left} {others} sum all n true c e z h =
    let d : ik_total (excerpt_section property_framed first last left) ≡ length p.ik_states + ik_total (excerpt_section property_framed first last others) =
    ap (λ l. ik_total (excerpt_section property_framed first last l)) c ∙ ap ik_total (first_kept property_framed first last p others (sym e)) ∙ (unfold ik_total moved in refl) in omega arith
states_turn first last {p} {left} {others} sum all n false c e z h =
    let d : ik_total (excerpt_section property_framed first last left) ≡ ik_total (excerpt_section property_framed first last others) =
    ap (λ l. ik_total (excerpt_section property_framed first last l)) c ∙ ap ik_total (first_dropped property_framed first last p others (sym e)) in omega arith

-- none are left
pub count_end : {A : Type 0} (F : Framed A) (first last : ℕ) {left : List A} (kept all : ℕ) → left ≡ [] → kept + length (excerpt_section F first last left) ≡ all → kept ≡ all
count_end F first last {left} kept all c h =
    let d : length (excerpt_section F first last left) ≡ 0 = ap (λ l. length (excerpt_section F first last l)) c ∙ ap length (none_kept F first last [] tt) in omega arith

pub states_end : (first last : ℕ) {left : List Property} (sum all : ℕ) → left ≡ [] → sum + ik_total (excerpt_section property_framed first last left) ≡ all → sum ≡ all
states_end first last {left} sum all c h =
    let d : ik_total (excerpt_section property_framed first last left) ≡ 0 =
    ap (λ l. ik_total (excerpt_section property_framed first last l)) c ∙ ap ik_total (none_kept property_framed first last [] tt) ∙ (unfold ik_total in refl) in omega arith

pub number_most : (on : Bool) (n : ℕ) → number_if on n ≤ n
unfolding number_if
number_most true n = omega arith
number_most false n = omega arith

-- ---- writing what stays

-- What holds before each turn: of all records those that are left have yet to be looked at.
pub record Keeping {A : Type 0} (F : Framed A) (e : A → List ℕ) (first last : ℕ) (all : List A) (l : List ℕ) (to : ℕ) (x : List ℕ) (q kept : ℕ) (left : List A) : Type 0 where
  pub rest : Rest l to (write_all e (excerpt_section F first last all)) x q (write_all e (excerpt_section F first last left))
  pub count : kept + length (excerpt_section F first last left) ≡ length (excerpt_section F first last all)

module _ {A : Type 0} {F : Framed A} {e : A → List ℕ} {first last : ℕ} {all : List A} {l : List ℕ} {to : ℕ} where
  pub keeping_start : Room l to (write_all e (excerpt_section F first last all)) → Keeping F e first last all l to l to 0 all
  keeping_start r = record { rest = rest_all r; count = omega arith }

  module _ {x : List ℕ} {q kept : ℕ} {left : List A} (run others : List A) (g : Keeping F e first last all l to x q kept left) (c : left ≡ run ++ others) where
    module _ (h : All (λ a. between first last (F.frame a) ≡ true) run) where
      kept_then : excerpt_section F first last left ≡ map (moved F first) run ++ excerpt_section F first last others
      kept_then =
          ap (excerpt_section F first last) c ∙ section_append F first last run others
          ∙ ap (λ r. r ++ excerpt_section F first last others) (all_kept F first last run h)

      rest_kept : Rest l to (write_all e (excerpt_section F first last all)) x q (write_all e (map (moved F first) run) ++ write_all e (excerpt_section F first last others))
      rest_kept =
          let d = ap (write_all e) kept_then ∙ write_all_append e (map (moved F first) run) (excerpt_section F first last others) in
          rw d at g.rest

      pub keeping_room : Room x q (write_all e (map (moved F first) run))
      keeping_room = rest_room (write_all e (excerpt_section F first last others)) rest_kept

      pub keeping_more : (n : ℕ) → length run ≡ n → kept + n ≤ length (excerpt_section F first last all)
      keeping_more n z =
          omega (arith, g.count, ap length kept_then, length-append (map (moved F first) run) (excerpt_section F first last others), length-map run (moved F first))

      pub keeping_kept : {y : List ℕ} {r : ℕ} (n : ℕ) → length run ≡ n → Wrote x q (write_all e (map (moved F first) run)) y r
          → Keeping F e first last all l to y r (kept + n) others
      keeping_kept n z w = record {
        rest = rest_then (write_all e (excerpt_section F first last others)) rest_kept w;
        count = omega (arith, g.count, ap length kept_then, length-append (map (moved F first) run) (excerpt_section F first last others), length-map run (moved F first));
      }

    pub keeping_dropped : All (λ a. between first last (F.frame a) ≡ false) run → Keeping F e first last all l to x q kept others
    keeping_dropped h =
        let d : excerpt_section F first last left ≡ excerpt_section F first last others =
        ap (excerpt_section F first last) c ∙ section_append F first last run others
        ∙ ap (λ r. r ++ excerpt_section F first last others) (none_kept F first last run h) in
        record { rest = rw d at g.rest; count = rw d at g.count }

  -- a run of one
  module _ {x : List ℕ} {q kept : ℕ} {left : List A} (a : A) (others : List A) (g : Keeping F e first last all l to x q kept left) (c : left ≡ a ∷ others) where
    module _ (h : between first last (F.frame a) ≡ true) where
      single : write_all e (map (moved F first) (a ∷ [])) ≡ e (moved F first a)
      unfolding write_all
      single = append-nil (e (moved F first a))

      pub one_room : Room x q (e (moved F first a))
      one_room = rw single at (keeping_room (a ∷ []) others g c (h, tt))

      pub one_more : kept + 1 ≤ length (excerpt_section F first last all)
      one_more = keeping_more (a ∷ []) others g c (h, tt) 1 refl

      pub one_kept : {y : List ℕ} {r : ℕ} → Wrote x q (e (moved F first a)) y r → Keeping F e first last all l to y r (kept + 1) others
      one_kept w = keeping_kept (a ∷ []) others g c (h, tt) 1 refl (rw single w)

    pub one_dropped : between first last (F.frame a) ≡ false → Keeping F e first last all l to x q kept others
    one_dropped h = keeping_dropped (a ∷ []) others g c (h, tt)

  pub keeping_end : {x : List ℕ} {q kept : ℕ} {left : List A} → Keeping F e first last all l to x q kept left → left ≡ []
      → Wrote l to (write_all e (excerpt_section F first last all)) x q × (kept ≡ length (excerpt_section F first last all))
  keeping_end {left = left} g c =
      let d : excerpt_section F first last left ≡ [] = ap (excerpt_section F first last) c ∙ none_kept F first last [] tt in
      (none_left e g.rest d, omega (arith, g.count, ap length d))

-- frames that lie between are not below the first
pub not_below : {A : Type 0} (F : Framed A) (first last : ℕ) (l : List A) → All (λ a. between first last (F.frame a) ≡ true) l → All (λ a. first ≤ F.frame a) l
not_below F first last [] h = tt
not_below F first last (a ∷ l) h = ((between_true first last (F.frame a) h.0).0, not_below F first last l h.1)

-- ---- what stands where it was written, and what is written over it

pub stands_written : {l x b : List ℕ} {to r : ℕ} → to + length b ≤ length l → Wrote l to b x r → Stands x to b
unfolding splice
stands_written {l} {x} {b} {to} h w = record {
  after = drop (to + length b) l;
  are = ap (drop to) (w.holds ∙ append_assoc (take to l) b (drop (to + length b) l)) ∙ drop_at (take to l) (b ++ drop (to + length b) l) to (length-take-le to l (omega arith));
}

-- as many bytes over others
pub over_written : {l x y u v : List ℕ} {to r : ℕ} → Wrote l to u x r → y ≡ splice x to v → length u ≡ length v → to + length v ≤ length l → Wrote l to v y r
over_written {l} {x} {y} {u} {v} {to} w e n h = record {
  holds = e ∙ ap (λ z. splice z to v) w.holds ∙ rw (add-zero to) at (splice_over_end l to [] u v 0 refl (omega arith) (omega arith));
  ends = w.ends ∙ ap (λ (i : ℕ). to + i) n;
}

-- bytes before others
pub before_written : {l x y b : List ℕ} {to r : ℕ} (a : List ℕ) (n : ℕ) → length a ≡ n → to + (n + length b) ≤ length l → Wrote l (to + n) b x r → y ≡ splice x to a → Wrote l to (a ++ b) y r
unfolding splice
before_written {l} {x} {y} {b} {to} a n z h w e =
    let p : length (take (to + n) l) ≡ to + n = length-take-le (to + n) l (omega arith) in
    let f : x ≡ take (to + n) l ++ (b ++ drop (to + n + length b) l) = w.holds ∙ append_assoc (take (to + n) l) b (drop (to + n + length b) l) in
    let t : take to x ≡ take to l = ap (take to) f ∙ take-append-le to (take (to + n) l) (b ++ drop (to + n + length b) l) (omega arith) ∙ shorter in
    let d : drop (to + length a) x ≡ b ++ drop (to + n + length b) l = ap₂ (λ (i : ℕ) (t : List ℕ). drop (to + i) t) z f ∙ drop_at (take (to + n) l) (b ++ drop (to + n + length b) l) (to + n) p in
    let j : to + n + length b ≡ to + length (a ++ b) = omega (arith, length-append a b) in
    record {
      holds =
          e ∙ ap₂ (λ (u v : List ℕ). u ++ a ++ v) t d ∙ sym (append_assoc (take to l ++ a) b (drop (to + n + length b) l))
          ∙ ap (λ u. u ++ drop (to + n + length b) l) (append_assoc (take to l) a b) ∙ ap (λ (i : ℕ). take to l ++ (a ++ b) ++ drop i l) j;
      ends = omega (arith, w.ends, length-append a b);
    }
  where
    shorter : take to (take (to + n) l) ≡ take to l
    shorter = sym (take-append-le to (take (to + n) l) (drop (to + n) l) (omega (arith, length-take-le (to + n) l (omega arith)))) ∙ ap (take to) (take-append-drop (to + n) l)

-- ---- a section: its records are written after the place of their count, and then the count

module _ {A : Type 0} (C : Codec A) (items : List A) {l : List ℕ} {to : ℕ} (r : Room l to (write_counted C items)) where
  counted_fits : to + (4 + length (write_all C.write items)) ≤ length l
  unfolding write_counted
  counted_fits = omega (arith, r.room, length-append (u32_bytes (length items)) (write_all C.write items), length_u32_bytes (length items))

  pub counted_room : Room l (to + 4) (write_all C.write items)
  counted_room = record { room = omega (arith, counted_fits) }

  module _ {x : List ℕ} {q : ℕ} (w : Wrote l (to + 4) (write_all C.write items) x q) where
    pub counted_length : length x ≡ length l
    counted_length = ap length w.holds ∙ length_splice l (to + 4) (write_all C.write items) counted_room.room

    pub counted_written : {y : List ℕ} {n : ℕ} → n ≡ length items → y ≡ splice x to (u32_bytes n) → Wrote l to (write_counted C items) y q
    unfolding write_counted
    counted_written {n = n} c e = before_written (u32_bytes (length items)) 4 (length_u32_bytes (length items)) counted_fits w (rw c at e)

-- ---- frames written over those in the copies of records

module _ (k : VmdKind) (first : ℕ) where
  abbrev bytes : List (Row k) → List ℕ
  bytes l = write_all (layout k).encode l

  abbrev at_new : List (Row k) → List (Row k)
  at_new l = map (moved (framed k) first) l

  bytes_wide : (l : List (Row k)) → length (bytes l) ≡ length l * size_of k
  unfolding write_all
  bytes_wide [] = omega arith
  bytes_wide (a ∷ l) = length-append ((layout k).encode a) (bytes l) ∙ omega (arith, (kind_sized k).wide a, bytes_wide l)

  pub rows_wide : (s : List ℕ) (n at : ℕ) → length (bytes (rows k s n at)) ≡ n * size_of k
  rows_wide s n at = bytes_wide (rows k s n at) ∙ ap (λ (i : ℕ). i * size_of k) (table_length (layout k) n (drop at s))

  pub moved_wide : (l : List (Row k)) → length (bytes (at_new l)) ≡ length (bytes l)
  moved_wide l = bytes_wide (at_new l) ∙ ap (λ (i : ℕ). i * size_of k) (length-map l (moved (framed k) first)) ∙ sym (bytes_wide l)

  -- what holds before each turn
  pub record Moving (s l : List ℕ) (to : ℕ) (w x : List ℕ) (p q left : ℕ) : Type 0 where
    pub lie : p + left * size_of k ≤ length s
    pub room : q + left * size_of k ≤ length x
    pub starts : All (λ a. first ≤ (framed k).frame a) (rows k s left p)
    pub stands : Stands x q (bytes (rows k s left p))
    pub rest : Rest l to w x q (bytes (at_new (rows k s left p)))

  module _ {s l : List ℕ} {to : ℕ} where
    pub moving_start : (n at : ℕ) → at + n * size_of k ≤ length s → to + n * size_of k ≤ length l → All (λ a. first ≤ (framed k).frame a) (rows k s n at)
        → Stands l to (bytes (rows k s n at)) → Moving s l to (bytes (at_new (rows k s n at))) l at to n
    moving_start n at h r a t = record {
      lie = h;
      room = r;
      starts = a;
      stands = t;
      rest = rest_all (record { room = omega (arith, r, moved_wide (rows k s n at), rows_wide s n at) });
    }

    module _ {w x : List ℕ} {p q left : ℕ} (g : Moving s l to w x p q left) where
      abbrev here : Row k
      here = (layout k).decode (drop p s)

      one_of : 0 < left → rows k s left p ≡ here ∷ rows k s (left - 1) (p + size_of k)
      one_of h = table_first (kind_sized k) left p s h

      pub moving_frame : 0 < left → first ≤ (framed k).frame here
      moving_frame h = (rw (one_of h) at g.starts).0

      pub moving_turn : {y : List ℕ} → 0 < left → y ≡ splice x (q + frame_at k) (u32_bytes ((framed k).frame here - first))
          → Moving s l to w y (p + size_of k) (q + size_of k) (left - 1)
      unfolding write_all
      moving_turn {y} h e =
          let f = kind_frame k in
          let others = rows k s (left - 1) (p + size_of k) in
          let v = u32_bytes ((framed k).frame here - first) in
          let c = u32_bytes ((framed k).frame here) in
          let n = one_of h in
          let d : left * size_of k ≡ size_of k + (left - 1) * size_of k = less_one left (size_of k) h in
          let t = rw n at g.stands in
          let own : drop q x ≡ (f.before here ++ (c ++ f.after here)) ++ (bytes others ++ t.after) =
          t.are ∙ append_assoc ((layout k).encode here) (bytes others) t.after ∙ ap (λ z. z ++ (bytes others ++ t.after)) (f.own here) in
          let inside : q ≤ length x = omega (arith, g.room) in
          let four : length v ≡ length c = length_u32_bytes _ ∙ sym (length_u32_bytes _) in
          let new : (layout k).encode (moved (framed k) first here) ≡ f.before here ++ (v ++ f.after here) =
          (unfold moved in (f.put ((framed k).frame here - first) here)) in
          let wide : length (f.before here ++ (v ++ f.after here)) ≡ size_of k = ap length (sym new) ∙ (kind_sized k).wide (moved (framed k) first here) in
          let is : y ≡ splice x q ((layout k).encode (moved (framed k) first here)) =
          e ∙ refit x q (frame_at k) (f.before here) c (f.after here) v (bytes others ++ t.after) inside own (f.wide here) four ∙ ap (splice x q) (sym new) in
          let wrote : Wrote x q ((layout k).encode (moved (framed k) first here)) y (q + size_of k) =
          record { holds = is; ends = ap (λ (i : ℕ). q + i) (sym ((kind_sized k).wide (moved (framed k) first here))) } in
          let r = first_then (layout k).encode g.rest (ap at_new n) wrote in
          record {
            lie = omega (arith, g.lie);
            room = omega (arith, g.room, g.rest.kept, r.kept);
            starts = (rw n at g.starts).1;
            stands = record {
              after = t.after;
              are = ap₂ (λ (i : ℕ) (z : List ℕ). drop (q + i) z) (sym wide) e ∙ refit_after x q (frame_at k) (f.before here) c (f.after here) v (bytes others ++ t.after) inside own (f.wide here) four;
            };
            rest = r;
          }

      pub moving_end : left ≡ 0 → x ≡ splice l to w
      moving_end e = (none_left (layout k).encode g.rest (ap at_new (table_none (layout k) left (drop p s) e))).holds

-- a property frame as the first of one
pub frame_one : (s : List ℕ) (at : ℕ) → write_all property.write (frames_in s 1 at) ≡ property.write (property_in s at)
unfolding frames_in write_all
frame_one s at = append-nil (property.write (property_in s at))

-- its frame: it stays as long
pub property_wide : (first : ℕ) (p : Property) → length (property.write (moved property_framed first p)) ≡ length (property.write p)
unfolding moved
property_wide first p =
    ap length (property_frame.put (property_framed.frame p - first) p) ∙ same (property_framed.frame p - first) ∙ sym (same (property_framed.frame p))
    ∙ sym (ap length (property_frame.own p))
  where
    same : (n : ℕ) → length (property_frame.before p ++ (u32_bytes n ++ property_frame.after p)) ≡ length (property_frame.before p) + (4 + length (property_frame.after p))
    same n = simp length-append (omega (arith, length_u32_bytes n))

pub property_moved : {l x y : List ℕ} {to r v : ℕ} (first : ℕ) (p : Property) → Wrote l to (property.write p) x r → y ≡ splice x to (u32_bytes v) → v ≡ p.frame - first
    → to + length (property.write p) ≤ length l → Wrote l to (property.write (moved property_framed first p)) y r
unfolding moved property_framed
property_moved {l} {x} {y} {to} {r} {v} first p w e n h =
    let f = property_frame in
    let t = stands_written h w in
    let four : length (u32_bytes v) ≡ length (u32_bytes p.frame) = length_u32_bytes _ ∙ sym (length_u32_bytes _) in
    let k = ap length w.holds in
    let own : drop to x ≡ (f.before p ++ (u32_bytes p.frame ++ f.after p)) ++ t.after = t.are ∙ ap (λ z. z ++ t.after) (f.own p) in
    let new : property.write (property_framed.at_frame (p.frame - first) p) ≡ f.before p ++ (u32_bytes v ++ f.after p) =
    f.put (p.frame - first) p ∙ ap (λ (i : ℕ). f.before p ++ (u32_bytes i ++ f.after p)) (sym n) in
    let inside : to ≤ length x = omega (arith, length_splice l to (property.write p) h) in
    let q : y ≡ splice x to (property.write (property_framed.at_frame (p.frame - first) p)) =
    e ∙ rw (add-zero to) at (refit x to 0 (f.before p) (u32_bytes p.frame) (f.after p) (u32_bytes v) t.after inside own (f.wide p) four)
    ∙ ap (splice x to) (sym new) in
    let z = property_wide first p in
    over_written w q (sym z) (omega (arith, z, h))
