-- Laws of writes one after another. Assumes nothing.
use Rattle.std.proofs.Common.{◌≡◌, ℕ, zero, suc, ◌+◌, ◌-◌, ◌*◌, ◌<◌, ◌≤◌, List, [], ◌∷◌, ◌++◌, length, sym, refl, ap, ◌∙◌, arith, length-append}
use Rattle.vmd_format.specs.Read.{write_all}
use Rattle.vmd_bytes.specs.Slices.{splice}
use Rattle.vmd_bytes.specs.Written.{Room, Wrote, Rest}
use Rattle.vmd_bytes.proofs.Laws.{splice_nil, length_splice, splice_append}

-- all of it is left, and that is the same as v
pub rest_as : {l : List ℕ} {to : ℕ} {w v : List ℕ} → w ≡ v → Room l to w → Rest l to w l to v
rest_as {l} {to} e h = record { room = rw (← e) h; whole = ap (splice l to) (sym e); ends = ap (λ z. to + length z) (sym e); kept = refl }

pub rest_all : {l : List ℕ} {to : ℕ} {w : List ℕ} → Room l to w → Rest l to w l to w
rest_all h = rest_as refl h

module _ {l : List ℕ} {to : ℕ} {w x : List ℕ} {at : ℕ} where
  -- there is room for what comes next; it was written, and the rest is left; the last of it was written
  pub rest_room : {u : List ℕ} (v : List ℕ) → Rest l to w x at (u ++ v) → Room x at u
  rest_room {u} v r = record { room = omega (arith, r.room.room, length-append u v) }

  pub rest_then : {u y : List ℕ} {p : ℕ} (v : List ℕ) → Rest l to w x at (u ++ v) → Wrote x at u y p → Rest l to w y p v
  rest_then {u} {y} {p} v r a =
      let h = (rest_room {u = u} v r).room in
      let n = length-append u v in
      let k = ap length a.holds ∙ length_splice x at u h in
      record {
        room = record { room = omega (arith, r.room.room, a.ends, k) };
        whole = rw (a.holds, a.ends) (splice_append x at u v h) ∙ r.whole;
        ends = omega (arith, r.ends, a.ends);
        kept = k ∙ r.kept;
      }

  pub rest_done : {v y : List ℕ} {p : ℕ} → Rest l to w x at v → Wrote x at v y p → Wrote l to w y p
  rest_done r a = record { holds = a.holds ∙ r.whole; ends = a.ends ∙ r.ends }

-- ---- values one after another

module _ {A : Type 0} (e : A → List ℕ) {l : List ℕ} {to : ℕ} {w x : List ℕ} {at : ℕ} {items : List A} (r : Rest l to w x at (write_all e items)) where
  -- the first has room; it was written, and the others are left; none is left
  module _ {a : A} {more : List A} (c : items ≡ a ∷ more) where
    one : Rest l to w x at (e a ++ write_all e more)
    unfolding write_all
    one = rw c at r

    pub first_room : Room x at (e a)
    first_room = rest_room (write_all e more) one

    pub first_then : {y : List ℕ} {p : ℕ} → Wrote x at (e a) y p → Rest l to w y p (write_all e more)
    first_then a = rest_then (write_all e more) one a

  pub none_left : items ≡ [] → Wrote l to w x at
  unfolding write_all
  none_left c =
      let d : Rest l to w x at [] = rw c at r in
      rest_done d (record { holds = sym (splice_nil x at); ends = omega arith })

-- What holds before each turn of a loop that writes values of k bytes each: n of them are left, and have room.
pub record Filling {A : Type 0} (e : A → List ℕ) (k : ℕ) (l : List ℕ) (to : ℕ) (w x : List ℕ) (at n : ℕ) (items : List A) : Type 0 where
  pub wide : (a : A) → length (e a) ≡ k
  pub room : at + n * k ≤ length x
  pub rest : Rest l to w x at (write_all e items)

all_wide : {A : Type 0} (e : A → List ℕ) (k : ℕ) → ((a : A) → length (e a) ≡ k) → (items : List A) → length (write_all e items) ≡ length items * k
unfolding write_all
all_wide e k h [] = omega arith
all_wide e k h (a ∷ items) = length-append (e a) (write_all e items) ∙ omega (arith, h a, all_wide e k h items)

pub less_one : (n k : ℕ) → 0 < n → n * k ≡ k + (n - 1) * k
less_one zero k h = absurd (omega arith)
less_one (suc n) k h = let e : suc n - 1 ≡ n = omega arith in rw e (omega arith)

module _ {A : Type 0} {e : A → List ℕ} {k : ℕ} {l : List ℕ} {to : ℕ} where
  pub filling_start : {n : ℕ} (items : List A) → ((a : A) → length (e a) ≡ k) → length items ≡ n → Room l to (write_all e items)
      → Filling e k l to (write_all e items) l to n items
  filling_start {n} items h c r = record {
    wide = h;
    room = omega (arith, r.room, all_wide e k h items ∙ ap (λ i. i * k) c);
    rest = rest_all r;
  }

  module _ {w x : List ℕ} {at n : ℕ} {items : List A} (g : Filling e k l to w x at n items) where
    -- the first of them was written, and the others are left
    pub filling_turn : {a : A} {y v : List ℕ} {others : List A} → 0 < n → items ≡ a ∷ others → y ≡ splice x at v → v ≡ e a
        → Filling e k l to w y (at + k) (n - 1) others
    filling_turn {a} {y = y} {others = others} h c d z =
        let q : Wrote x at (e a) y (at + k) = record { holds = d ∙ ap (splice x at) z; ends = ap (λ i. at + i) (sym (g.wide a)) } in
        let r = first_then e g.rest c q in
        record {
          wide = g.wide;
          room = omega (arith, g.room, less_one n k h, g.rest.kept, r.kept);
          rest = r;
        }

    pub filling_end : items ≡ [] → Wrote l to w x at
    filling_end c = none_left e g.rest c
