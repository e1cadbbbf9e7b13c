-- Laws of numbering records from the front: what a turn of the loop writes. Assumes nothing.
use Prim.Native.Nat.{ℕ, ◌+◌, ◌-◌, ◌*◌, ◌≤◌, ◌<◌}
use mathlib.Core.Path.{◌≡◌, refl, ap, sym, ◌∙◌}
use mathlib.Core.List.{List, [], ◌∷◌, ◌++◌}
use native.Mathlib.Nat.{zero-add}
use native.Mathlib.Omega.{arith}
use lib.ListN.{length, get_or, set, take, drop, length-append, get_or-append}
use Rattle.vmd_format.specs.Bytes.{before_zero}
use Rattle.vmd_laws.specs.BytesLaws.{Bytes}
use Rattle.vmd_format.specs.Read.{write_all}
use Rattle.vmd_format.specs.Parts.{upto}
use Rattle.vmd_bytes.specs.Slices.{splice, run}
use Rattle.vmd_bytes.proofs.Laws.{splice_nil, length_splice, splice_append_at, splice_snoc_at, run_all}
use Rattle.vmd_keys.specs.Names.{name_in, names_in, whole, distinct}
use Rattle.vmd_keys.specs.declared.VmdRows.{VmdRows}
use Rattle.vmd_tables.specs.Rowed.{raw_names}
use Rattle.vmd_keys.specs.Keys.{Rows, key}
use Rattle.vmd_keys.proofs.KeyLaws.{spot_in, spot_room, key_tells, key_same}
use Rattle.vmd_count.specs.DistinctLaws.{Member, distinct_short}
use Rattle.vmd_tables.specs.Tables.{joined, ends_from, table_of_names, index_of, name_table, name_indices}
use Rattle.vmd_tables.proofs.TableLaws.{New, distinct_old, distinct_new, indices_old, indices_new, table_old, table_new, names_one_more, names_count, name_there, name_new, names_upto, bytes_upto, index_at}
use Rattle.vmd_tables.proofs.TableMeaning.{table_count, indices_length}
use Rattle.vmd_tables.specs.Leading.{First, Beyond, Numbered, Step, again, added, Fits}

-- ---- a name added to the table

pub record_room : {s : List ℕ} {at size n : ℕ} (i : ℕ) → Rows s at size n → i < n → at + size * i + 15 ≤ length s
record_room {s} {at} {size} {n} i h k = let q = spot_room s at size n i h in let p = spot_in at size n i k in omega arith

pub trimmed : {r : List ℕ} (s : List ℕ) (p : ℕ) → r ≡ before_zero (take (p + 15 - p) (drop p s)) → r ≡ name_in s p
unfolding name_in
trimmed s p e = let q : p + 15 - p ≡ 15 = omega arith in e ∙ rw q

pub copied : {r o : List ℕ} (s : List ℕ) (p : ℕ) (b : List ℕ) (to : ℕ) → r ≡ before_zero (take (p + 15 - p) (drop p s))
    → o ≡ splice b to (run r 0 (length r))
    → o ≡ splice b to (name_in s p)
copied {r} s p b to e h = h ∙ ap (splice b to) (run_all r ∙ trimmed s p e)

-- ---- writing from the front of a slice

front_length : (l u : List ℕ) → length u ≤ length l → length (splice l 0 u) ≡ length l
front_length l u h = length_splice l 0 u (omega arith)

front_snoc : (l u : List ℕ) (n a : ℕ) → length u ≡ n → n < length l → set (splice l 0 u) n a ≡ splice l 0 (u ++ (a ∷ []))
front_snoc l u n a e h = rw (zero-add n) at (splice_snoc_at l 0 u n a e (omega arith))

front_append : (l u v : List ℕ) (n : ℕ) → length u ≡ n → n ≤ length l → splice (splice l 0 u) n v ≡ splice l 0 (u ++ v)
front_append l u v n e h = rw (zero-add n) at (splice_append_at l 0 u v n e (omega arith))

front_at : (l u : List ℕ) (i : ℕ) → i < length u → get_or (splice l 0 u) i 0 ≡ get_or u i 0
unfolding splice
front_at l u i h = get_or-append u (drop (0 + length u) l) 0 i h

-- a slice that is written whole up to a place, of which only what lies beyond has to be as it was
pub front_beyond : (n : ℕ) (a b u : List ℕ) → Beyond n a b → length u ≡ n → splice b 0 u ≡ splice a 0 u
unfolding splice
front_beyond n a b u h e = let q : 0 + length u ≡ n = omega arith in rw (q, h.kept)

-- ---- the loop

-- there is room for the table and the indices of n records
pub record Space (s : List ℕ) (at size n : ℕ) (bytes ends indices : List ℕ) : Type 0 where
  pub names : length (distinct (names_in s at size n)) ≤ length ends
  pub bytes_fit : length (name_table (names_in s at size n)).bytes ≤ length bytes
  pub short : length (name_table (names_in s at size n)).bytes ≤ 4294967295
  pub few : n ≤ 4294967295
  pub each : n ≤ length indices

pub space : (r : VmdRows) {bytes ends indices : List ℕ} → r.count ≤ length indices
    → (length (distinct (raw_names r)) ≤ length ends) × (length (name_table (raw_names r)).bytes ≤ length bytes) × (length (name_table (raw_names r)).bytes ≤ 4294967295)
    → Space r.file.now r.place r.size r.count bytes ends indices
space r h p = record { names = p.0; bytes_fit = p.1; short = p.2; few = r.few; each = h }

module _ (s : List ℕ) (at size : ℕ) (b₀ e₀ x₀ : List ℕ) where
  pub numbered_start : Numbered s at size 0 0 0 b₀ b₀ e₀ e₀ x₀ x₀
  unfolding names_in upto name_indices name_table table_of_names distinct joined ends_from write_all
  numbered_start = record {
    names_are = refl;
    bytes_are = refl;
    in_bytes = sym (splice_nil b₀ 0);
    in_ends = sym (splice_nil e₀ 0);
    in_indices = sym (splice_nil x₀ 0);
  }

module _ {s : List ℕ} {at size i names so_far : ℕ} {b₀ b e₀ e x₀ x : List ℕ} (g : Numbered s at size i names so_far b₀ b e₀ e x₀ x) where
  abbrev l : List (List ℕ)
  l = names_in s at size i

  abbrev a : List ℕ
  a = name_in s (at + size * i)

  module _ {names' so_far' : ℕ} {b' e' x' : List ℕ} where
    -- a record that an earlier one leads
    turn_old : (c : ℕ) → c < i → name_in s (at + size * c) ≡ a → i < length x₀
        → names' ≡ names → so_far' ≡ so_far → b' ≡ b → e' ≡ e → x' ≡ set x i (get_or x c 0)
        → Numbered s at size (i + 1) names' so_far' b₀ b' e₀ e' x₀ x'
    turn_old c h q room p₁ p₂ p₃ p₄ p₅ =
        let m : Member a l = rw q at (name_there s at size i c h) in
        let n : length (name_indices l) ≡ i = indices_length l ∙ names_count s at size i in
        let v : get_or x c 0 ≡ index_of a (distinct l) =
        ap (λ (t : List ℕ). get_or t c 0) g.in_indices ∙ front_at x₀ (name_indices l) c (omega arith)
        ∙ index_at s at size i c h ∙ ap (λ (t : List ℕ). index_of t (distinct l)) q in
        let z = names_one_more s at size i in
        record {
          names_are = p₁ ∙ rw (z, distinct_old l a m) g.names_are;
          bytes_are = p₂ ∙ rw (z, table_old l a m) g.bytes_are;
          in_bytes = p₃ ∙ rw (z, table_old l a m) g.in_bytes;
          in_ends = p₄ ∙ rw (z, table_old l a m) g.in_ends;
          in_indices = p₅ ∙ rw (z, v, g.in_indices, front_snoc x₀ (name_indices l) i (index_of a (distinct l)) n room, indices_old l a m);
        }

    -- the first of its name
    turn_new : New a l → names < length e₀ → so_far ≤ length b₀ → i < length x₀
        → names' ≡ names + 1 → so_far' ≡ so_far + length a → b' ≡ splice b so_far a → e' ≡ set e names (so_far + length a)
        → x' ≡ set x i names
        → Numbered s at size (i + 1) names' so_far' b₀ b' e₀ e' x₀ x'
    turn_new m h k room p₁ p₂ p₃ p₄ p₅ =
        let n : length (name_indices l) ≡ i = indices_length l ∙ names_count s at size i in
        let w : length (name_table l).ends ≡ names = table_count l ∙ sym g.names_are in
        let z = names_one_more s at size i in
        record {
          names_are = p₁ ∙ rw (z, distinct_new l a m) (omega (arith, g.names_are, length-append (distinct l) (a ∷ [])));
          bytes_are = p₂ ∙ rw (z, (table_new l a m).0) (omega (arith, g.bytes_are, length-append (name_table l).bytes a));
          in_bytes = p₃ ∙ rw (z, (table_new l a m).0, g.in_bytes) (front_append b₀ (name_table l).bytes a so_far (sym g.bytes_are) k);
          in_ends = p₄ ∙ rw (z, (table_new l a m).1, ← g.bytes_are, g.in_ends)
              (front_snoc e₀ (name_table l).ends names (so_far + length a) w h);
          in_indices = p₅ ∙ rw (z, indices_new l a m, ← g.names_are, g.in_indices) (front_snoc x₀ (name_indices l) i names n room);
        }

  module _ {n : ℕ} (r : Space s at size n b₀ e₀ x₀) (h : i ≤ n) where
    pub bytes_long : length b ≡ length b₀
    bytes_long =
        ap (λ (t : List ℕ). length t) g.in_bytes
        ∙ front_length b₀ (name_table l).bytes (omega (arith, bytes_upto s at size i n h, r.bytes_fit))

    pub ends_long : length e ≡ length e₀
    ends_long =
        ap (λ (t : List ℕ). length t) g.in_ends
        ∙ front_length e₀ (name_table l).ends (omega (arith, table_count l, names_upto s at size i n h, r.names))

    pub indices_long : length x ≡ length x₀
    indices_long =
        ap (λ (t : List ℕ). length t) g.in_indices
        ∙ front_length x₀ (name_indices l) (omega (arith, indices_length l, names_count s at size i, r.each))

  module _ {n : ℕ} {leads : List ℕ} (r : Space s at size n b₀ e₀ x₀) (o : First (key whole s at size n) n leads) (h : i < n) where
    within : get_or leads i 0 ≤ i
    within = o.leads.back i h

    led_new : i ≤ get_or leads i 0 → New a l
    led_new k =
        name_new s at size a i λ (j : ℕ) (u : j < i) q.
        o.first i j h (omega (arith, within)) u
        (key_same whole s at size n j i (rw (spot_in at size n j (omega arith), spot_in at size n i h) q))

    led_alike : Bytes s → name_in s (at + size * get_or leads i 0) ≡ a
    led_alike bs =
        rw (spot_in at size n (get_or leads i 0) (omega (arith, within)), spot_in at size n i h)
        at (key_tells whole s at size n bs (get_or leads i 0) i (o.leads.alike i h))

    names_more : i ≤ get_or leads i 0 → names + 1 ≤ length (distinct (names_in s at size n))
    names_more k =
        let q : length (distinct (names_in s at size (i + 1))) ≡ names + 1 =
        rw (names_one_more s at size i, distinct_new l a (led_new k)) (length-append (distinct l) (a ∷ []) ∙ omega (arith, g.names_are)) in
        omega (arith, names_upto s at size (i + 1) n (omega arith))

    bytes_more : i ≤ get_or leads i 0 → so_far + length a ≤ length (name_table (names_in s at size n)).bytes
    bytes_more k =
        let q : length (name_table (names_in s at size (i + 1))).bytes ≡ so_far + length a =
        rw (names_one_more s at size i, (table_new l a (led_new k)).0) (length-append (name_table l).bytes a
        ∙ omega (arith, g.bytes_are)) in
        omega (arith, bytes_upto s at size (i + 1) n (omega arith))

    pub numbered_fits : Fits s (at + size * i) i (get_or leads i 0) names so_far b e
    numbered_fits = record {
      name = λ (k : i ≤ get_or leads i 0). omega (arith, names_more k, ends_long r (omega arith), r.names);
      few = λ (k : i ≤ get_or leads i 0). omega (arith, g.names_are, distinct_short l, names_count s at size i, r.few);
      room = λ (k : i ≤ get_or leads i 0). omega (arith, bytes_more k, bytes_long r (omega arith), r.bytes_fit);
      short = λ (k : i ≤ get_or leads i 0). omega (arith, bytes_more k, r.short);
    }

    pub numbered_turn : Bytes s → {names' so_far' : ℕ} {b' e' x' : List ℕ}
        → Step s (at + size * i) i (get_or leads i 0) names so_far b e x names' so_far' b' e' x'
        → Numbered s at size (i + 1) names' so_far' b₀ b' e₀ e' x₀ x'
    numbered_turn bs (again k p₁ p₂ p₃ p₄ p₅) = turn_old (get_or leads i 0) k (led_alike bs) (omega (arith, r.each)) p₁ p₂ p₃ p₄ p₅
    numbered_turn bs (added k p₁ p₂ p₃ p₄ p₅) =
        turn_new (led_new k) (omega (arith, names_more k, r.names)) (omega (arith, bytes_more k, r.bytes_fit))
        (omega (arith, r.each)) p₁ p₂ p₃ p₄ p₅

pub numbered_end : {s : List ℕ} {at size n i names so_far : ℕ} {b₀ b e₀ e x₀ x : List ℕ} → i ≤ n → n ≤ i
    → Numbered s at size i names so_far b₀ b e₀ e x₀ x
    → Numbered s at size n names so_far b₀ b e₀ e x₀ x
numbered_end {n = n} {i = i} h k g = let q : i ≡ n = omega arith in rw q at g

-- the indices may be written over anything that was there, up to the number of records
pub numbered_over : {s : List ℕ} {at size n names so_far : ℕ} {b₀ b e₀ e x₀ x₁ x : List ℕ} → Beyond n x₀ x₁
    → Numbered s at size n names so_far b₀ b e₀ e x₁ x
    → Numbered s at size n names so_far b₀ b e₀ e x₀ x
numbered_over {s} {at} {size} {n} {x₀ = x₀} {x₁ = x₁} h g = record {
  names_are = g.names_are;
  bytes_are = g.bytes_are;
  in_bytes = g.in_bytes;
  in_ends = g.in_ends;
  in_indices = g.in_indices
      ∙ front_beyond n x₀ x₁ (name_indices (names_in s at size n)) h (indices_length (names_in s at size n) ∙ names_count s at size n);
}
