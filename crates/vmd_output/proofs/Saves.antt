-- Laws of the answer of a call that writes a file, and of what it leaves in the output. Assumes nothing.
use Prim.Native.Nat.{ℕ, ◌≤◌}
use mathlib.Core.Path.{◌≡◌, refl, ap, sym, ◌∙◌}
use mathlib.Core.Bool.{Bool, true, false}
use mathlib.Core.List.{List}
use native.Mathlib.Omega.{arith}
use native.Mathlib.Nat.{zero-add}
use borrow.Author.Tests.{le-leb, leb-true}
use lib.Dec.{leb}
use lib.ListN.{length}
use Rattle.vmd_format.specs.Refusal.{Refusal, output_too_short}
use Rattle.vmd_format.specs.Answer.{Answer, declined, given, map_answer, unless, fitted, left, within}
use Rattle.vmd_bytes.specs.Slices.{splice}
use Rattle.vmd_bytes.specs.Written.{Room, Wrote}

-- A call that is to write w into out answers a and leaves o.
abbrev pub Saves : Answer (List ℕ) → List ℕ → Answer ℕ → List ℕ → Type 0
Saves w out a o = (a ≡ map_answer length (fitted (length out) w)) × (o ≡ left out (fitted (length out) w))

pub same_saved : {v w : Answer (List ℕ)} {a : Answer ℕ} {o : List ℕ} (out : List ℕ) → v ≡ w → Saves v out a o → Saves w out a o
same_saved out e h = rw (← e) h

-- nothing is to be written
pub refused_answer : (n : ℕ) (w : Answer (List ℕ)) (k : Refusal) → w ≡ declined k → declined k ≡ map_answer length (fitted n w)
unfolding map_answer fitted
refused_answer n w k e = rw e

pub saves_nothing : (w : Answer (List ℕ)) (k : Refusal) (out : List ℕ) → w ≡ declined k → Saves w out (declined k) out
unfolding left fitted
saves_nothing w k out e = (refused_answer (length out) w k e, rw e)

-- bytes of a known length: the answer for a limit; an output that is too short; and one that has room, and then holds them
module _ (bytes : List ℕ) {l : ℕ} (e : length bytes ≡ l) where
  pub given_answer : (n : ℕ) → within n l ≡ map_answer length (fitted n (given bytes))
  unfolding map_answer fitted within unless
  given_answer n = rw e (go (leb l n))
    where
      go : (b : Bool) → unless b output_too_short (given l) ≡ map_answer length (unless b output_too_short (given bytes))
      go true = ap given (sym e)
      go false = refl

  module _ {out : List ℕ} where
    pub saves_over : (k : Refusal) → declined k ≡ within (length out) l → Saves (given bytes) out (declined k) out
    unfolding left fitted within unless
    saves_over k h = (h ∙ given_answer (length out), rw e (go (leb l (length out)) h))
      where
        go : (b : Bool) → declined k ≡ unless b output_too_short (given l) → out ≡ left out (unless b output_too_short (given bytes))
        go true q = let z : ◌≡◌ {A = ℕ} 0 1 = cc in absurd (omega arith)
        go false q = refl

    pub saves_room : (n : ℕ) → given n ≡ within (length out) l → Room out 0 bytes
    unfolding within unless
    saves_room n h = record { room = rw (zero-add, e) (go (leb l (length out)) refl h) }
      where
        go : (b : Bool) → leb l (length out) ≡ b → given n ≡ unless b output_too_short (given l) → l ≤ length out
        go true q r = leb-true l (length out) q
        go false q r = let z : ◌≡◌ {A = ℕ} 0 1 = cc in absurd (omega arith)

pub saves_wrote : {bytes out o : List ℕ} {r : ℕ} → Room out 0 bytes → Wrote out 0 bytes o r → Saves (given bytes) out (given r) o
unfolding left fitted unless map_answer splice
saves_wrote {bytes} {out} h w =
    let f = le-leb (length bytes) (length out) (omega (arith, h.room)) in
    (rw f (ap given (w.ends ∙ zero-add (length bytes))), rw f (w.holds ∙ rw zero-add))
