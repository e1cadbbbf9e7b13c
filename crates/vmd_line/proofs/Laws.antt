-- Laws of the line: rows of numbers, and the cases of a line. Assumes nothing.
use Prim.Native.Nat.{ℕ, ◌+◌, ◌-◌, ◌≤◌, ◌<◌}
use mathlib.Core.Path.{◌≡◌, sym, ap, ◌∙◌}
use mathlib.Core.List.{List, [], ◌∷◌, ◌++◌, append_assoc, append-nil}
use native.Mathlib.Omega.{arith}
use borrow.Author.Tests.{le-leb, lt-leb}
use lib.ListN.{length, get_or, set}
use lib.Seq.{take_all}
use Rattle.std.specs.Prelude.{Result, Ok, Err}
use Rattle.std.specs.Result.{result_unwrap_or}
use Rattle.vmd_format.specs.Refusal.{Refusal, number}
use Rattle.vmd_format.specs.Answer.{Answer, declined, given, within}
use Rattle.vmd_laws.specs.AnswerLaws.{within_fits}
use Rattle.vmd_format.specs.Read.{Manner}
use Rattle.vmd_format.specs.Opening.{Scan, Opening, open_file, scratch_after}
use Rattle.vmd_base.specs.declared.VmdRefusal.{VmdRefusal}
use Rattle.vmd_base.specs.Meaning.{refusal_of, answer_of}
use Rattle.vmd_bytes.specs.Slices.{run}
use Rattle.vmd_bytes.specs.Written.{Wrote}
use Rattle.vmd_bytes.proofs.Laws.{run_snoc}
use Rattle.vmd_text.specs.Text.{decimal}
use Rattle.vmd_text.proofs.Laws.{wrote_more, wrote_byte}
use Rattle.vmd_line.specs.Line.{spaced, row, too_long, refused_line, export_size, numbers, line_of, line_if, line, line_scratch_if, line_scratch}

-- ---- rows of numbers

spaced_snoc : (l : List ℕ) (n : ℕ) → spaced (l ++ (n ∷ [])) ≡ spaced l ++ (32 ∷ decimal n)
unfolding spaced
spaced_snoc [] n = ap (λ t. 32 ∷ t) (append-nil (decimal n))
spaced_snoc (a ∷ l) n = ap (λ t. 32 ∷ t) (rw (spaced_snoc l n) (sym (append_assoc (decimal a) (spaced l) (32 ∷ decimal n))))

-- the numbers after the first, of which i - 1 are written: a space and one more
pub row_turn : (ns o out k : List ℕ) (from at i end : ℕ) → 1 ≤ i → i < length ns → Wrote o from (spaced (run ns 1 (i - 1))) out at → at < length o
    → Wrote (set out at 32) (at + 1) (decimal (get_or ns i 0)) k end → end ≤ length o
    → Wrote o from (spaced (run ns 1 (i + 1 - 1))) k end
row_turn ns o out k from at i end g h w r d f =
    let u = spaced (run ns 1 (i - 1)) in
    let a : i + 1 - 1 ≡ i - 1 + 1 = omega arith in
    let b : 1 + (i - 1) ≡ i = omega arith in
    let p : run ns 1 (i - 1 + 1) ≡ run ns 1 (i - 1) ++ (get_or ns i 0 ∷ []) = rw (run_snoc ns 1 (i - 1) (omega arith), b) in
    rw (a, p, spaced_snoc (run ns 1 (i - 1)) (get_or ns i 0), ← append_assoc u (32 ∷ []) (decimal (get_or ns i 0)))
    (wrote_more (wrote_byte w 32 r) d f)

row_parts : (ns : List ℕ) → length ns ≡ 10 → row ns ≡ decimal (get_or ns 0 0) ++ spaced (run ns 1 9) ++ (10 ∷ [])
unfolding row run
row_parts [] h = absurd (omega arith)
row_parts (n ∷ l) h = rw (take_all 9 l (omega arith))

-- the first number, the others and a line feed
pub row_done : (l ns o out : List ℕ) (from at : ℕ) → length ns ≡ 10 → Wrote l 0 (decimal (get_or ns 0 0)) o from → Wrote o from (spaced (run ns 1 9)) out at
    → at < length l → Wrote l 0 (row ns) (set out at 10) (at + 1)
row_done l ns o out from at h v w r = rw (row_parts ns h) (wrote_byte (wrote_more v w (omega arith)) 10 r)

-- ---- the line of a refusal: the word, the number and a line feed

pub refused_done : (l m k e : List ℕ) (n at to end : ℕ) → length l ≡ 256 → Wrote l 0 (114 ∷ 101 ∷ 102 ∷ 117 ∷ 115 ∷ 101 ∷ 100 ∷ 32 ∷ []) m at
    → Wrote m at (decimal n) k to → to ≤ at + 20 → Wrote k to (10 ∷ []) e end → Wrote l 0 (refused_line n) e end
unfolding refused_line
refused_done l m k e n at to end h a p r t =
    wrote_more (wrote_more a p (omega (arith, a.ends))) t (omega (arith, a.ends, t.ends))

-- ---- the cases of a line

module _ (m : Manner) (file : List ℕ) (places : ℕ) where
  pub line_long : 65536 < length file → line m file places ≡ too_long
  unfolding line line_if
  line_long h = rw (lt-leb (length file) 65536 h)

  module _ (h : length file ≤ 65536) where
    pub line_refused : (k : Refusal) → declined k ≡ open_file m file places → line m file places ≡ refused_line (number k)
    unfolding line line_if line_of
    line_refused k e = rw (le-leb (length file) 65536 h, ← e)

    pub line_opened : (o : Opening) → given o ≡ open_file m file places → line m file places ≡ row (numbers o)
    unfolding line line_if line_of
    line_opened o e = rw (le-leb (length file) 65536 h, ← e)

module _ (m : Manner) (file scratch : List ℕ) where
  pub scratch_long : 65536 < length file → line_scratch m file scratch ≡ scratch
  unfolding line_scratch line_scratch_if
  scratch_long h = rw (lt-leb (length file) 65536 h)

  pub scratch_short : length file ≤ 65536 → line_scratch m file scratch ≡ scratch_after m file scratch
  unfolding line_scratch line_scratch_if
  scratch_short h = rw (le-leb (length file) 65536 h)

-- the length of an export that there is, and that there is one
module _ (x : Scan) (h : export_size x ≤ 18446744073709551615) where
  size_is : {y : Answer ℕ} → y ≡ within 18446744073709551615 (export_size x) → given (export_size x) ≡ y
  size_is e = within_fits 18446744073709551615 (export_size x) h ∙ sym e

  -- what is there is given
  pub size_value : (r : Result ℕ VmdRefusal) → answer_of r ≡ within 18446744073709551615 (export_size x) → result_unwrap_or r 0 ≡ export_size x
  size_value (Ok n) e = let z : given (export_size x) ≡ given n = size_is e in cc
  size_value (Err k) e =
      let z : given (export_size x) ≡ declined (refusal_of k) = size_is e in
      let c : ◌≡◌ {A = ℕ} 0 1 = cc in
      absurd (omega arith)
