-- Laws of places that hold records one after another, and of writing them.
use Rattle.std.specs.Prelude.{ℕ, zero, suc, ◌+◌, ◌*◌, ◌≤◌, ◌<◌, ◌≡◌, List, ◌++◌, length, get_or, take, drop}
use Rattle.std.proofs.Common.{ap, sym, ◌∙◌, add-one, arith, length-drop, take-append-drop, take-suc, drop-cons, drop-drop, get_or-drop}
use Rattle.std.proofs.Math.Seq.{drop-length}
use Rattle.vmd_laws.specs.ReadLaws.{write_all_append}
use Rattle.vmd_format.specs.Layout.{Layout}
use Rattle.vmd_format.specs.Read.{table, write_all}
use Rattle.vmd_format.specs.Take.{property}
use Rattle.vmd_laws.specs.PlacesLaws.{property_in, frames_in}
use Rattle.vmd_bytes.specs.Written.{Room, Wrote, Rest}
use Rattle.vmd_bytes.proofs.Writes.{rest_all, rest_room, rest_then, none_left}
use Rattle.vmd_sort.specs.Walk.{step, places_by, end_by}
use Rattle.vmd_tidy_sections.specs.Sections.{placed}
use Rattle.vmd_sort.specs.WalkLaws.{step_fixed, places_snoc, end_snoc}
use Rattle.vmd_tidy_sections.specs.WalkLaws.{table_places, frames_places, write_map}

-- ---- a run

-- n places from the i-th on hold records one after another, the next one at p
pub record Run (next : ℕ → ℕ) (l : List ℕ) (i n p : ℕ) : Type 0 where
  pub some : 1 ≤ n
  pub within : i + n ≤ length l
  pub are : take n (drop i l) ≡ places_by next n (get_or l i 0)
  pub ends : p ≡ end_by next n (get_or l i 0)

module _ (next : ℕ → ℕ) (l : List ℕ) (i : ℕ) where
  pub run_start : (p : ℕ) → i < length l → p ≡ next (get_or l i 0) → Run next l i 1 p
  unfolding places_by end_by
  run_start p h e = record { some = omega arith; within = omega arith; are = rw (drop-cons l i 0 h); ends = e }

  pub run_turn : {n p q : ℕ} → i + n < length l → get_or l (i + n) 0 ≡ p → q ≡ next p → Run next l i n p → Run next l i (n + 1) q
  run_turn {n} {p} {q} h e k r = record {
    some = omega arith;
    within = omega arith;
    are = ap (λ (z : ℕ). take z (drop i l)) (add-one n) ∙ take-suc (drop i l) n 0 (omega (arith, length-drop i l))
        ∙ rw (r.are, get_or-drop i l n 0, e, r.ends) (sym (places_snoc next n (get_or l i 0)));
    ends = k ∙ ap next r.ends ∙ sym (end_snoc next n (get_or l i 0));
  }

-- ---- writing runs

-- the places from the i-th on are left to write
pub record Left (f : ℕ → List ℕ) (l out₀ : List ℕ) (to : ℕ) (out : List ℕ) (q i : ℕ) : Type 0 where
  pub few : i ≤ length l
  pub rest : Rest out₀ to (write_all f l) out q (write_all f (drop i l))

module _ (f : ℕ → List ℕ) (l out₀ : List ℕ) (to : ℕ) where
  pub left_start : Room out₀ to (write_all f l) → Left f l out₀ to out₀ to 0
  left_start h = record { few = omega arith; rest = rest_all h }

  module _ (n : ℕ) {out : List ℕ} {q i : ℕ} {bytes : List ℕ} (w : Left f l out₀ to out q i) (within : i + n ≤ length l) (are : bytes ≡ write_all f (take n (drop i l))) where
    split : Rest out₀ to (write_all f l) out q (bytes ++ write_all f (drop (i + n) l))
    split =
        let e : drop i l ≡ take n (drop i l) ++ drop (i + n) l = sym (ap (λ r. take n (drop i l) ++ r) (sym (drop-drop n i l)) ∙ take-append-drop n (drop i l)) in
        let d : write_all f (drop i l) ≡ bytes ++ write_all f (drop (i + n) l) =
        ap (write_all f) e ∙ write_all_append f (take n (drop i l)) (drop (i + n) l) ∙ ap (λ r. r ++ write_all f (drop (i + n) l)) (sym are) in
        rw d at w.rest

    pub run_room : Room out q bytes
    run_room = rest_room (write_all f (drop (i + n) l)) split

    pub run_then : {out' : List ℕ} {q' : ℕ} → Wrote out q bytes out' q' → Left f l out₀ to out' q' (i + n)
    run_then a = record { few = within; rest = rest_then (write_all f (drop (i + n) l)) split a }

  pub left_end : {out : List ℕ} {q i : ℕ} → length l ≤ i → Left f l out₀ to out q i → Wrote out₀ to (write_all f l) out q
  left_end {out} {q} {i} h w =
      let e : i ≡ length l = omega (arith, w.few) in
      none_left f w.rest (ap (λ (z : ℕ). drop z l) e ∙ drop-length l)

-- ---- what a run of records is

module _ {A : Type 0} (K : Layout A) (s : List ℕ) (w : ℕ) (some : 0 < w) (z : K.size ≡ w) where
  pub records_are : (n at : ℕ) → write_all K.encode (table K n (drop at s)) ≡ write_all (placed K s) (places_by (step s w) n at)
  records_are n at =
      ap (write_all K.encode) (table_places K s w some z n at) ∙ write_map K.encode (λ p. K.decode (drop p s)) (places_by (step s w) n at)

  pub run_records : (l : List ℕ) (i n : ℕ) → take n (drop i l) ≡ places_by (step s w) n (get_or l i 0)
      → write_all K.encode (table K n (drop (get_or l i 0) s)) ≡ write_all (placed K s) (take n (drop i l))
  run_records l i n e = records_are n (get_or l i 0) ∙ ap (write_all (placed K s)) (sym e)

pub frames_are : (s : List ℕ) (n at : ℕ) → write_all property.write (frames_in s n at) ≡ write_all (λ p. property.write (property_in s p)) (places_by (step s 0) n at)
frames_are s n at = ap (write_all property.write) (frames_places s n at) ∙ write_map property.write (property_in s) (places_by (step s 0) n at)

pub run_frames : (s l : List ℕ) (i n : ℕ) → take n (drop i l) ≡ places_by (step s 0) n (get_or l i 0)
    → write_all property.write (frames_in s n (get_or l i 0)) ≡ write_all (λ p. property.write (property_in s p)) (take n (drop i l))
run_frames s l i n e = frames_are s n (get_or l i 0) ∙ ap (write_all (λ p. property.write (property_in s p))) (sym e)

pub end_fixed : (s : List ℕ) (w n at : ℕ) → 0 < w → end_by (step s w) n at ≡ at + n * w
unfolding end_by
end_fixed s w zero at h = omega arith
end_fixed s w (suc n) at h = rw (step_fixed s w at h) (end_fixed s w n (at + w) h ∙ omega arith)

pub fixed_ends : (s : List ℕ) (w n at : ℕ) → 0 < w → at + n * w ≤ length s → end_by (step s w) n at ≤ length s
fixed_ends s w n at h k = rw (end_fixed s w n at h) k
