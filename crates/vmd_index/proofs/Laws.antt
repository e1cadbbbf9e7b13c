-- Laws of the reader's steps for code. Assumes nothing.
use Rattle.std.proofs.Common.{◌≡◌, ℕ, ◌+◌, ◌<◌, ◌≤◌, Bool, true, false, cond, ltb, leb, List, length, get_or, drop, sym, refl, ◌∙◌, add-one, arith, drop_of_length-le, drop-cons, ltb-false, leb-false, leb-true}
use Rattle.vmd_format.specs.Characters.{between}
use Rattle.std.specs.Prelude.{None, Some, Ok, Err}
use Rattle.vmd_index.specs.declared.Phase.{Phase}
use Rattle.vmd_index.specs.declared.Phase.TheVariants.{Blank, BlankReturn, Comment, Pointer, Tab, Zero, Prefix, CodePoint, Return, Past, NoEntry, Faulty}
use Rattle.vmd_index.specs.declared.Cause.TheVariants as cause
use Rattle.vmd_index.specs.declared.IndexReader.{IndexReader}
use Rattle.vmd_index.specs.Index.{digit, judged, LineEnd}
use Rattle.vmd_index.specs.Steps.{phase_end, step, fed}

-- a digit lies between two bytes
pub digit_range : {r : Bool} (b : ℕ) → r ≡ digit b → r ≡ true → (48 ≤ b) × (b ≤ 57)
unfolding digit between
digit_range b e t = go (leb 48 b) (leb b 57) refl refl (sym e ∙ t)
  where
    go : (x y : Bool) → leb 48 b ≡ x → leb b 57 ≡ y → mathlib.Core.Bool.◌&&◌ x y ≡ true → (48 ≤ b) × (b ≤ 57)
    go true true f g h = (leb-true 48 b f, leb-true b 57 g)
    go true false f g h = let z : true ≡ false = sym h in let n : ◌≡◌ {A = ℕ} 0 1 = cc in absurd (omega arith)
    go false y f g h = let z : true ≡ false = sym h in let n : ◌≡◌ {A = ℕ} 0 1 = cc in absurd (omega arith)

-- ---- an entry's pointer is one that may come, of the 11,280

abbrev pub Fair : ℕ → LineEnd → Type 0
Fair least (Ok None) = Unit {0}
Fair least (Ok (Some p)) = (least ≤ p) × (p < 11280)
Fair least (Err c) = Unit {0}

judged_fair : (least p : ℕ) → Fair least (judged least p)
unfolding judged
judged_fair least p = go (leb 11280 p) (ltb p least) refl refl
  where
    go : (x y : Bool) → leb 11280 p ≡ x → ltb p least ≡ y
        → Fair least (cond x (Err cause.TooLarge) (cond y (Err cause.NotAbove) (Ok (Some p))))
    go true y e f = tt
    go false true e f = tt
    go false false e f = (ltb-false p least f, leb-false 11280 p e)

pub end_fair : (least : ℕ) (x : Phase) → Fair least (phase_end least x)
end_fair least Blank = tt
end_fair least BlankReturn = tt
end_fair least Comment = tt
end_fair least (Pointer p) = tt
end_fair least (Tab p) = tt
end_fair least (Zero p) = tt
end_fair least (Prefix p) = tt
end_fair least (CodePoint p) = judged_fair least p
end_fair least (Return p) = judged_fair least p
end_fair least (Past p) = judged_fair least p
end_fair least NoEntry = tt
end_fair least (Faulty c) = tt

-- ---- a loop over a piece

abbrev pub reader : List ℕ → ℕ → ℕ → Phase → IndexReader
reader ws n m x = record { words = ws; line = n; least = m; phase = x }

-- before byte i: what is left of the piece makes of the reader what the whole makes of the one before it
pub fed_byte : {r : IndexReader} (q : IndexReader) (s : List ℕ) (i : ℕ) → i < length s → fed q (drop i s) ≡ r → fed (step q (get_or s i 0)) (drop (i + 1) s) ≡ r
unfolding fed
fed_byte q s i h e = rw (add-one i) (rw (drop-cons s i 0 h) at e)

pub fed_done : {r : IndexReader} (q : IndexReader) (s : List ℕ) (i : ℕ) → length s ≤ i → fed q (drop i s) ≡ r → q ≡ r
unfolding fed
fed_done q s i h e = rw (drop_of_length-le s h) at e
