-- Laws of writes and runs, of numbers in bytes, and of name fields. Assumes nothing.
use Rattle.std.proofs.Common.{◌≡◌, ℕ, zero, suc, ◌+◌, ◌-◌, ◌*◌, ◌<◌, ◌≤◌, Bool, true, false, cond, not, ◌&&◌, eqb, List, [], ◌∷◌, ◌++◌, length, get_or, take, drop, set, replicate, sym, refl, ap, ◌∙◌, ap₂, append_assoc, append-nil, suc-le-suc, le_of_suc-le-suc, not-suc-le-zero, add-zero, add_assoc, zero-lt-suc, suc-ne-zero, add-one, arith, length-append, length-drop, take-append-drop, length-take, length-take-le, get_or-drop, drop-cons, take-take, drop-drop, take_at, take-add, ne_eqb}
use native.Mathlib.Nat.{add-sub_cancel_left, sub-zero, zero-sub, suc-sub-suc}
use lib.ListN.{length-replicate, replicate-append-replicate}
use lib.Seq.{take-nil, take-length, take-append-le, drop-append-add, set_split, append_snoc}
use borrow.Rule.Slice.PartMut.{put_mid}
use Rattle.std.specs.Cmp.Lexicographic.{pointwise}
use Rattle.std.specs.Int.{from_bool}
use Rattle.vmd_format.specs.Bytes.{u32, u32_bytes, before_zero, padded, flag_byte, inverted_byte}
use Rattle.vmd_laws.specs.BytesLaws.{padded_length}
use Rattle.vmd_format.specs.Take.{same}
use Rattle.vmd_bytes.specs.Slices.{splice, run}
use Rattle.vmd_bytes.specs.Fields.{no_zero, canonical}

-- ---- writes

pub splice_nil : (l : List ℕ) (at : ℕ) → splice l at [] ≡ l
unfolding splice
splice_nil l at = simp (add-zero, append-nil, take-append-drop)

pub length_splice : (l : List ℕ) (at : ℕ) (vs : List ℕ) → at + length vs ≤ length l → length (splice l at vs) ≡ length l
unfolding splice
length_splice l at vs h = simp (length-append, length-take, length-drop) (omega arith)

-- two writes, the second where the first ends, are one write of both
pub splice_append : (l : List ℕ) (at : ℕ) (u v : List ℕ) → at + length u ≤ length l → splice (splice l at u) (at + length u) v ≡ splice l at (u ++ v)
unfolding splice
splice_append l at u v h =
    let p : List ℕ = take at l ++ u in
    let e : length p ≡ at + length u = simp (length-append, length-take) (omega arith) in
    rw (take_at p (drop (at + length u) l) (at + length u) e, drop_past p (drop (at + length u) l) (at + length u) (length v) e)
    (simp (drop-drop, length-append, append_assoc, add_assoc))
  where
    drop_past : (p q : List ℕ) (n m : ℕ) → length p ≡ n → drop (n + m) (p ++ q) ≡ drop m q
    drop_past p q n m e = rw (← e) (drop-append-add p q m)

-- the same where the length of what is written is known by an equation
pub splice_append_at : (l : List ℕ) (at : ℕ) (u v : List ℕ) (n : ℕ) → length u ≡ n → at + n ≤ length l → splice (splice l at u) (at + n) v ≡ splice l at (u ++ v)
splice_append_at l at u v n e h = rw (← e) (splice_append l at u v (rw e h))

-- one store
pub set_splice : (l : List ℕ) (at a : ℕ) → at < length l → set l at a ≡ splice l at (a ∷ [])
unfolding splice
set_splice l at a h = set_split l at a h ∙ rw (append_snoc, add-one)

-- one store where a write ends
splice_snoc : (l : List ℕ) (at : ℕ) (u : List ℕ) (a : ℕ) → at + length u < length l → set (splice l at u) (at + length u) a ≡ splice l at (u ++ (a ∷ []))
splice_snoc l at u a h =
    set_splice (splice l at u) (at + length u) a (rw (length_splice l at u (omega arith)) h) ∙ splice_append l at u (a ∷ []) (omega arith)

pub splice_snoc_at : (l : List ℕ) (at : ℕ) (u : List ℕ) (n a : ℕ) → length u ≡ n → at + n < length l → set (splice l at u) (at + n) a ≡ splice l at (u ++ (a ∷ []))
splice_snoc_at l at u n a e h = rw (← e) (splice_snoc l at u a (rw e h))

-- a write over a shorter one at the same place
splice_over : (l : List ℕ) (at : ℕ) (u v : List ℕ) → length u ≤ length v → at + length v ≤ length l → splice (splice l at u) at v ≡ splice l at v
unfolding splice
splice_over l at u v s h =
    let r : List ℕ = drop (at + length u) l in
    let e : length (take at l) ≡ at = length-take-le at l (omega arith) in
    let f : length (take at l ++ u) ≡ at + length u = length-append (take at l) u ∙ ap (λ (k : ℕ). k + length u) e in
    let t : take at (take at l ++ u ++ r) ≡ take at l = take-append-le at (take at l ++ u) r (omega (arith, f)) ∙ take_at (take at l) u at e in
    let a : at + length v ≡ length (take at l ++ u) + (length v - length u) = omega (arith, f) in
    let b : at + length u + (length v - length u) ≡ at + length v = omega arith in
    let d : drop (at + length v) (take at l ++ u ++ r) ≡ drop (at + length v) l =
    ap (λ (k : ℕ). drop k (take at l ++ u ++ r)) a ∙ drop-append-add (take at l ++ u) r (length v - length u) ∙ drop-drop (length v - length u) (at + length u) l ∙ ap (λ (k : ℕ). drop k l) b in
    ap₂ (λ (x y : List ℕ). x ++ v ++ y) t d

-- a write over the end x of another
pub splice_over_end : (l : List ℕ) (at : ℕ) (u x v : List ℕ) (n : ℕ) → length u ≡ n → length x ≤ length v → at + n + length v ≤ length l
    → splice (splice l at (u ++ x)) (at + n) v ≡ splice l at (u ++ v)
splice_over_end l at u x v n e s h =
    rw (← splice_append_at l at u x n e (omega arith))
    (splice_over (splice l at u) (at + n) x v s (rw (length_splice l at u (omega arith)) h) ∙ splice_append_at l at u v n e (omega arith))

-- ---- parts

pub part_zero : (l : List ℕ) (at : ℕ) → run l at 0 ≡ []
unfolding run
part_zero l at = refl

pub run_all : (l : List ℕ) → run l 0 (length l) ≡ l
unfolding run
run_all l = take-length l

pub length_run : (l : List ℕ) (at n : ℕ) → at + n ≤ length l → length (run l at n) ≡ n
unfolding run
length_run l at n h = simp (length-take, length-drop) (omega arith)

pub run_add : (l : List ℕ) (at n m : ℕ) → run l at (n + m) ≡ run l at n ++ run l (at + n) m
unfolding run
run_add l at n m = simp (take-add, drop-drop)

part_one : (l : List ℕ) (at : ℕ) → at < length l → run l at 1 ≡ get_or l at 0 ∷ []
unfolding run
part_one l at h = rw (drop-cons l at 0 h)

pub part_cons : (l : List ℕ) (at n : ℕ) → at < length l → run l at (suc n) ≡ get_or l at 0 ∷ run l (at + 1) n
unfolding run
part_cons l at n h = rw (drop-cons l at 0 h, add-one)

pub run_snoc : (l : List ℕ) (at n : ℕ) → at + n < length l → run l at (n + 1) ≡ run l at n ++ (get_or l (at + n) 0 ∷ [])
run_snoc l at n h = run_add l at n 1 ∙ rw (part_one l (at + n) h)

pub take_run : (l : List ℕ) (at n k : ℕ) → k ≤ n → take k (run l at n) ≡ run l at k
unfolding run
take_run l at n k h = take-take k n (drop at l) h

drop_take : (k n : ℕ) (l : List ℕ) → drop k (take n l) ≡ take (n - k) (drop k l)
drop_take zero n l = rw (sub-zero n)
drop_take (suc k) zero l = rw (zero-sub (suc k))
drop_take (suc k) (suc n) [] = sym (take-nil (suc n - suc k))
drop_take (suc k) (suc n) (x ∷ l) = rw (suc-sub-suc n k) (drop_take k n l)

pub drop_run : (l : List ℕ) (at n k : ℕ) → drop k (run l at n) ≡ run l (at + k) (n - k)
unfolding run
drop_run l at n k = rw (drop_take k n (drop at l), drop-drop)

-- what a write to `out[at..at + n]` leaves
pub put_part : (l ys : List ℕ) (at n : ℕ) → length ys ≡ n → put_mid at (at + n - at) l ys ≡ splice l at ys
unfolding splice
put_part l ys at n e = rw (add-sub_cancel_left, drop-drop, e, append_assoc)

-- the list of `&l[at..at + n]`
pub range_part : (l : List ℕ) (at n : ℕ) → take (at + n - at) (drop at l) ≡ run l at n
unfolding run
range_part l at n = rw add-sub_cancel_left

-- ---- turns of loops

pub copy_turn : (s l : List ℕ) (at to i : ℕ) → at + i < length s → to + i < length l → set (splice l to (run s at i)) (to + i) (get_or s (at + i) 0) ≡ splice l to (run s at (i + 1))
copy_turn s l at to i hs hl = rw (run_snoc s at i hs) (splice_snoc_at l to (run s at i) i (get_or s (at + i) 0) (length_run s at i (omega arith)) hl)

-- a copy of m bytes where one of n ends
pub copied_on : (s l : List ℕ) (at to n m : ℕ) → at + n ≤ length s → to + n ≤ length l → splice (splice l to (run s at n)) (to + n) (run s (at + n) m) ≡ splice l to (run s at (n + m))
copied_on s l at to n m h r = rw (run_add s at n m) (splice_append_at l to (run s at n) (run s (at + n) m) n (length_run s at n h) r)

pub fill_turn : (l : List ℕ) (to i a : ℕ) → to + i < length l → set (splice l to (replicate i a)) (to + i) a ≡ splice l to (replicate (i + 1) a)
fill_turn l to i a h = rw (← replicate-append-replicate) (splice_snoc_at l to (replicate i a) i a (length-replicate i a) h)

-- ---- numbers

pub length_u32_bytes : (v : ℕ) → length (u32_bytes v) ≡ 4
unfolding u32_bytes
length_u32_bytes v = refl

-- the four bytes from `at` on
pub u32_drop : (l : List ℕ) (at : ℕ) → u32 (drop at l) ≡ get_or l at 0 + 256 * get_or l (at + 1) 0 + 65536 * get_or l (at + 2) 0 + 16777216 * get_or l (at + 3) 0
unfolding u32
u32_drop l at = simp (get_or-drop, add-zero)

-- ---- flags

-- a flag as a number of the machine is its byte
pub flag_number : (b : Bool) → from_bool b ≡ flag_byte b
unfolding flag_byte
flag_number true = refl
flag_number false = refl

pub inverted_number : (b : Bool) → from_bool (not b) ≡ inverted_byte b
unfolding inverted_byte
inverted_number true = refl
inverted_number false = refl

-- ---- comparing

-- the comparison of slices is that of the format
pub same_pointwise : (a b : List ℕ) → pointwise eqb a b ≡ same a b
unfolding same
same_pointwise [] [] = refl
same_pointwise [] (y ∷ b) = refl
same_pointwise (x ∷ a) [] = refl
same_pointwise (x ∷ a) (y ∷ b) = ap (λ (t : Bool). eqb x y && t) (same_pointwise a b)

-- ---- names

-- the bytes before the first zero are the first so many
take_before_zero : (l : List ℕ) → take (length (before_zero l)) l ≡ before_zero l
unfolding before_zero
take_before_zero [] = refl
take_before_zero (zero ∷ l) = refl
take_before_zero (suc b ∷ l) = ap (λ (t : List ℕ). suc b ∷ t) (take_before_zero l)

-- what a search for the first zero shows: no zero among the first n, and a zero at n
pub before_zero_found : (l : List ℕ) (n : ℕ) → n ≤ length l → ((k : ℕ) → k < n → get_or l k 0 ≡ 0 → ⊥) → get_or l n 0 ≡ 0 → before_zero l ≡ take n l
unfolding before_zero
before_zero_found [] zero h none z = refl
before_zero_found [] (suc n) h none z = refl
before_zero_found (zero ∷ l) zero h none z = refl
before_zero_found (suc b ∷ l) zero h none z = absurd (suc-ne-zero b z)
before_zero_found (zero ∷ l) (suc n) h none z = absurd (none 0 (zero-lt-suc n) refl)
before_zero_found (suc b ∷ l) (suc n) h none z = ap (λ (t : List ℕ). suc b ∷ t) (before_zero_found l n (le_of_suc-le-suc h) (λ k m. none (suc k) (suc-le-suc m)) z)

-- no zero at all
pub before_zero_all : (l : List ℕ) (n : ℕ) → length l ≤ n → ((k : ℕ) → k < n → get_or l k 0 ≡ 0 → ⊥) → before_zero l ≡ l
unfolding before_zero
before_zero_all [] n h none = refl
before_zero_all (x ∷ l) zero h none = absurd (not-suc-le-zero h)
before_zero_all (zero ∷ l) (suc n) h none = absurd (none 0 (zero-lt-suc n) refl)
before_zero_all (suc b ∷ l) (suc n) h none = ap (λ (t : List ℕ). suc b ∷ t) (before_zero_all l n (le_of_suc-le-suc h) (λ k m. none (suc k) (suc-le-suc m)))

pub padded_nil : (n : ℕ) → padded n [] ≡ replicate n 0
unfolding padded
padded_nil zero = refl
padded_nil (suc n) = ap (λ (t : List ℕ). 0 ∷ t) (padded_nil n)

-- a value that is no wider than its field
padded_short : (n : ℕ) (s : List ℕ) → length s ≤ n → padded n s ≡ s ++ replicate (n - length s) 0
unfolding padded
padded_short n [] h = padded_nil n ∙ rw (sub-zero n)
padded_short zero (b ∷ s) h = absurd (not-suc-le-zero h)
padded_short (suc n) (b ∷ s) h = rw (suc-sub-suc n (length s)) (ap (λ (t : List ℕ). b ∷ t) (padded_short n s (le_of_suc-le-suc h)))

-- a value that is cut
pub padded_long : (n : ℕ) (s : List ℕ) → n ≤ length s → padded n s ≡ take n s
unfolding padded
padded_long zero s h = refl
padded_long (suc n) [] h = absurd (not-suc-le-zero h)
padded_long (suc n) (b ∷ s) h = ap (λ (t : List ℕ). b ∷ t) (padded_long n s (le_of_suc-le-suc h))

-- a value written, and then zeros to the width of its field
pub splice_padded : (l s : List ℕ) (to n : ℕ) → length s ≤ n → to + n ≤ length l → splice (splice l to s) (to + length s) (replicate (n - length s) 0) ≡ splice l to (padded n s)
splice_padded l s to n h room = rw (padded_short n s h) (splice_append l to s (replicate (n - length s) 0) (omega arith))

-- ---- a name field piece by piece

canonical_name : (l : List ℕ) (n : ℕ) → length l ≡ n → canonical true l ≡ padded n (before_zero l)
unfolding canonical
canonical_name l n e = rw e

length_canonical : (live : Bool) (l : List ℕ) → length (canonical live l) ≡ length l
unfolding canonical
length_canonical true l = padded_length (length l) (before_zero l)
length_canonical false l = length-replicate (length l) 0

pub canonical_nil : (live : Bool) → canonical live [] ≡ []
unfolding canonical padded
canonical_nil true = refl
canonical_nil false = refl

pub canonical_zero : (l : List ℕ) → canonical true (zero ∷ l) ≡ 0 ∷ canonical false l
unfolding canonical padded before_zero
canonical_zero l = rw padded_nil

pub canonical_suc : (b : ℕ) (l : List ℕ) → canonical true (suc b ∷ l) ≡ suc b ∷ canonical true l
unfolding canonical padded before_zero
canonical_suc b l = refl

ended_append : (u w : List ℕ) → canonical false (u ++ w) ≡ canonical false u ++ canonical false w
unfolding canonical
ended_append u w = rw (length-append u w) (sym (replicate-append-replicate (length u) (length w) 0))

-- a field in two pieces: the second goes by whether the name goes on after the first
canonical_append : (live : Bool) (u w : List ℕ) → canonical live (u ++ w) ≡ canonical live u ++ canonical (live && no_zero u) w
unfolding no_zero
canonical_append false u w = ended_append u w
canonical_append true [] w = rw (canonical_nil true)
canonical_append true (zero ∷ u) w = rw (canonical_zero (u ++ w), canonical_zero u) (ap (λ (t : List ℕ). 0 ∷ t) (ended_append u w))
canonical_append true (suc b ∷ u) w = rw (canonical_suc b (u ++ w), canonical_suc b u) (ap (λ (t : List ℕ). suc b ∷ t) (canonical_append true u w))

and_assoc : (a b c : Bool) → (a && b && c) ≡ (a && (b && c))
and_assoc true b c = refl
and_assoc false b c = refl

no_zero_append : (u w : List ℕ) → no_zero (u ++ w) ≡ (no_zero u && no_zero w)
unfolding no_zero
no_zero_append [] w = refl
no_zero_append (zero ∷ u) w = refl
no_zero_append (suc b ∷ u) w = no_zero_append u w

-- one byte
canonical_one : (live : Bool) (b : ℕ) → canonical live (b ∷ []) ≡ cond (live && not (eqb b 0)) b 0 ∷ []
unfolding canonical
canonical_one false b = refl
canonical_one true zero = canonical_zero [] ∙ rw (canonical_nil false)
canonical_one true (suc b) = canonical_suc b [] ∙ rw (canonical_nil true, ne_eqb (suc b) 0 (suc-ne-zero b))

no_zero_one : (b : ℕ) → no_zero (b ∷ []) ≡ not (eqb b 0)
unfolding no_zero
no_zero_one zero = refl
no_zero_one (suc b) = rw (ne_eqb (suc b) 0 (suc-ne-zero b))

-- no byte of the field is written yet
pub name_start : (s l : List ℕ) (at to : ℕ) (live : Bool) → splice l to (canonical live (run s at 0)) ≡ l
name_start s l at to live = rw (part_zero, canonical_nil, splice_nil)

pub live_start : (s : List ℕ) (at : ℕ) (live : Bool) → (live && no_zero (run s at 0)) ≡ live
unfolding run no_zero
live_start s at true = refl
live_start s at false = refl

-- n bytes more of a field of which i are written
pub name_turn : (s l : List ℕ) (at to i n : ℕ) (live : Bool) → at + i ≤ length s → to + i ≤ length l
    → splice (splice l to (canonical live (run s at i))) (to + i) (canonical (live && no_zero (run s at i)) (run s (at + i) n)) ≡ splice l to (canonical live (run s at (i + n)))
name_turn s l at to i n live hs hl =
    rw (run_add s at i n, canonical_append live (run s at i) (run s (at + i) n))
    (splice_append_at l to (canonical live (run s at i)) _ i (length_canonical live (run s at i) ∙ length_run s at i hs) hl)

pub live_turn : (s : List ℕ) (at i n : ℕ) (live : Bool) → (live && no_zero (run s at i) && no_zero (run s (at + i) n)) ≡ (live && no_zero (run s at (i + n)))
live_turn s at i n live = rw (run_add s at i n, no_zero_append, and_assoc)

-- one byte more, by a store
pub name_byte : (s l : List ℕ) (at to i : ℕ) (live : Bool) → at + i < length s → to + i < length l
    → set (splice l to (canonical live (run s at i))) (to + i) (cond (live && no_zero (run s at i) && not (eqb (get_or s (at + i) 0) 0)) (get_or s (at + i) 0) 0) ≡ splice l to (canonical live (run s at (i + 1)))
name_byte s l at to i live hs hl =
    let u : List ℕ = canonical live (run s at i) in
    let e : length u ≡ i = length_canonical live (run s at i) ∙ length_run s at i (omega arith) in
    rw (set_splice (splice l to u) (to + i) _ (rw (length_splice l to u (omega arith)) hl), ← canonical_one, ← part_one s (at + i) hs) (name_turn s l at to i 1 live (omega arith) (omega arith))

pub live_byte : (s : List ℕ) (at i : ℕ) (live : Bool) → at + i < length s → (live && no_zero (run s at i) && not (eqb (get_or s (at + i) 0) 0)) ≡ (live && no_zero (run s at (i + 1)))
live_byte s at i live h = rw (← no_zero_one, ← part_one s (at + i) h) (live_turn s at i 1 live)

-- the rest of the field, of which i bytes are written
pub name_whole : (s l : List ℕ) (at to i n : ℕ) → i ≤ n → at + n ≤ length s → to + n ≤ length l
    → splice (splice l to (canonical true (run s at i))) (to + i) (canonical (no_zero (run s at i)) (run s (at + i) (n - i))) ≡ splice l to (padded n (before_zero (run s at n)))
name_whole s l at to i n h hs hl =
    let e : i + (n - i) ≡ n = omega arith in
    name_turn s l at to i (n - i) true (omega arith) (omega arith) ∙ rw (e, canonical_name (run s at n) n (length_run s at n hs))

-- a name written k bytes too wide, and then the rest of the record over those
pub name_wider : (s l v : List ℕ) (at to w k : ℕ) → at + (w + k) ≤ length s → k ≤ length v → to + w + length v ≤ length l
    → splice (splice l to (padded (w + k) (before_zero (run s at (w + k))))) (to + w) v ≡ splice l to (padded w (before_zero (run s at w)) ++ v)
name_wider s l v at to w k hs hk hl =
    let u : List ℕ = run s at w in
    let x : List ℕ = run s (at + w) k in
    let e : length u ≡ w = length_run s at w (omega arith) in
    let f : length (canonical (no_zero u) x) ≡ k = length_canonical (no_zero u) x ∙ length_run s (at + w) k (omega arith) in
    rw (← canonical_name u w e, ← canonical_name (run s at (w + k)) (w + k) (length_run s at (w + k) hs), run_add s at w k, canonical_append true u x)
    (splice_over_end l to (canonical true u) (canonical (no_zero u) x) v w (length_canonical true u ∙ e) (omega (arith, f)) hl)
