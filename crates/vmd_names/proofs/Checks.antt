-- Laws of checks one after another. Assumes nothing.
use Prim.Native.Nat.{ℕ, suc, ◌+◌, ◌-◌, ◌≤◌, ◌<◌}
use mathlib.Core.Path.{◌≡◌, refl, ap, sym, ◌∙◌}
use mathlib.Core.Bool.{Bool, true, false, ◌&&◌}
use native.Mathlib.Nat.{sub-zero}
use native.Mathlib.Numerals.{add-one}
use native.Mathlib.Omega.{arith}
use Rattle.std.specs.Prelude.{Result, Ok, Err}
use Rattle.std.specs.Result.{IsErrAnd}
use Rattle.vmd_base.specs.declared.VmdRefusal.{VmdRefusal}
use Rattle.vmd_base.specs.Meaning.{refusal_of}
use Rattle.vmd_names.specs.Meaning.{check_of}
use Rattle.vmd_format.specs.Refusal.{Refusal}
use Rattle.vmd_format.specs.Parts.{Check, passes, fails, ◌next◌, each, upto}

-- the first check fails, or passes and leaves the others
pub next_fails : {c : Check} {k : Refusal} (d : Check) → c ≡ fails k → (c next d) ≡ fails k
unfolding ◌next◌
next_fails d e = rw e

pub next_on : {c : Check} (d : Check) → c ≡ passes → (c next d) ≡ d
unfolding ◌next◌
next_on d e = rw e

-- ---- a chain, as code goes

module _ {c : Check} (d : Check) where
  pub chain_fails : {k : Refusal} → fails k ≡ c → fails k ≡ (c next d)
  chain_fails e = sym (next_fails d (sym e))

  pub chain_on : {x : Check} → passes ≡ c → x ≡ d → x ≡ (c next d)
  chain_on e h = h ∙ sym (next_on d (sym e))

module _ {r a : Bool} (b : Bool) (e : r ≡ a) where
  pub and_off : {x : Bool} → r ≡ false → x ≡ r → x ≡ (a && b)
  and_off q h = h ∙ q ∙ rw (sym e ∙ q)

  pub and_on : {x : Bool} → r ≡ true → x ≡ b → x ≡ (a && b)
  and_on q h = rw (sym e ∙ q) h

-- ---- the exit of a `?`: the check's refusal is the answer

pub exit_fails : (r : Result Unit VmdRefusal) (k : VmdRefusal) {c : Check} → IsErrAnd r (λ e. e ≡ k) → fails (refusal_of k) ≡ c → check_of r ≡ c
exit_fails (Err e) k h q = ap (λ x. fails (refusal_of x)) h ∙ q
exit_fails (Ok x) k h q = absurd h

-- ---- checks in turn: what holds before each turn is that to check those from i on is to check all

pub record Turning (f : ℕ → Check) (n i : ℕ) : Type 0 where
  pub whole : each f (upto i (n - i)) ≡ each f (upto 0 n)

module _ {f : ℕ → Check} {n : ℕ} where
  pub turning_start : Turning f n 0
  turning_start = record { whole = rw sub-zero }

  module _ {i : ℕ} (g : Turning f n i) where
    in_turn : i < n → each f (upto i (n - i)) ≡ (f i next each f (upto (i + 1) (n - (i + 1))))
    unfolding upto each
    in_turn h =
        let d : n - i ≡ suc (n - (i + 1)) = omega arith in
        ap (λ k. each f (upto i k)) d ∙ rw add-one

    pub turning_fails : {k : Refusal} → i < n → fails k ≡ f i → fails k ≡ each f (upto 0 n)
    turning_fails h e = chain_fails _ e ∙ sym (in_turn h) ∙ g.whole

    pub turning_turn : i < n → passes ≡ f i → Turning f n (i + 1)
    turning_turn h e = record { whole = chain_on _ e refl ∙ sym (in_turn h) ∙ g.whole }

    pub turning_end : n ≤ i → passes ≡ each f (upto 0 n)
    unfolding upto each
    turning_end h = let d : n - i ≡ 0 = omega arith in rw d at g.whole
