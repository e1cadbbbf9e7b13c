-- Laws of answers. Assumes nothing.
use Rattle.std.specs.Prelude.{ℕ, ◌≤◌, ◌<◌, ◌≡◌, refl, Bool, true, false, List, leb, length, drop}
use Rattle.std.proofs.Common.{sym, ◌∙◌, arith, le-leb, leb-true}
use Rattle.std.proofs.lemmas.Bool.{lt-leb}
use Rattle.std.proofs.Math.Seq.{take-append_seam}
use Rattle.vmd_format.specs.Refusal.{output_too_short}
use Rattle.vmd_format.specs.Answer.{Answer, declined, given, map_answer, unless, fitted, within, left, file_left}

module _ (limit n : ℕ) where
  pub within_fits : n ≤ limit → given n ≡ within limit n
  unfolding within unless
  within_fits h = rw (le-leb n limit h)

  pub within_over : limit < n → declined output_too_short ≡ within limit n
  unfolding within unless
  within_over h = rw (lt-leb n limit h)

-- how many bytes a call that writes answers
pub fitted_length : (limit : ℕ) (s : List ℕ) → map_answer length (fitted limit (given s)) ≡ within limit (length s)
unfolding map_answer fitted within unless
fitted_length limit s = go (leb (length s) limit)
  where
    go : (b : Bool) → map_answer length (unless b output_too_short (given s)) ≡ unless b output_too_short (given (length s))
    go true = refl
    go false = refl

-- what a call that writes leaves in an output long enough is its bytes
pub left_whole : (bytes out : List ℕ) (x : Answer (List ℕ)) → x ≡ given bytes → length bytes ≤ length out
    → file_left (map_answer length (fitted (length out) x)) (left out (fitted (length out) x)) ≡ given bytes
unfolding file_left map_answer fitted left unless
left_whole bytes out x e h = rw (e, le-leb (length bytes) (length out) h, take-append_seam bytes (drop (length bytes) out))

-- such a call that is not refused has bytes, and the output is long enough for them
pub record Written (limit : ℕ) (x : Answer (List ℕ)) : Type 0 where
  pub bytes : List ℕ
  pub is : x ≡ given bytes
  pub fits : length bytes ≤ limit

pub not_refused : (limit n : ℕ) (x : Answer (List ℕ)) → map_answer length (fitted limit x) ≡ given n → Written limit x
unfolding map_answer fitted unless
not_refused limit n (declined k) e = let z : ◌≡◌ {A = ℕ} 0 1 = cc in absurd (omega arith)
not_refused limit n (given s) e = go (leb (length s) limit) refl e
  where
    go : (b : Bool) → leb (length s) limit ≡ b → map_answer length (unless b output_too_short (given s)) ≡ given n → Written limit (given s)
    go true q e = record { bytes = s; is = refl; fits = leb-true _ _ q }
    go false q e = let z : ◌≡◌ {A = ℕ} 0 1 = cc in absurd (omega arith)

-- what it left in the output is what it was to write
pub left_is : (file out : List ℕ) (x : Answer (List ℕ))
    → file_left (map_answer length (fitted (length out) x)) (left out (fitted (length out) x)) ≡ given file → x ≡ given file
unfolding file_left map_answer
left_is file out x e = go (map_answer length (fitted (length out) x)) refl e
  where
    go : (a : Answer ℕ) → map_answer length (fitted (length out) x) ≡ a → file_left a (left out (fitted (length out) x)) ≡ given file → x ≡ given file
    go (declined k) p q = let z : ◌≡◌ {A = ℕ} 0 1 = cc in absurd (omega arith)
    go (given n) p q = let w = not_refused (length out) n x p in w.is ∙ sym (left_whole w.bytes out x w.is w.fits) ∙ e
