-- What a `?` hands on: the refusal as it is. Assumes nothing.
use mathlib.Core.Path.{◌≡◌, refl, ap, ◌∙◌}
use Rattle.std.specs.Prelude.{Result, Ok, Err}
use Rattle.std.specs.Result.{IsErrAnd}
use Rattle.vmd_format.specs.Answer.{Answer, declined, given, and_then}
use Rattle.vmd_base.specs.declared.VmdRefusal.{VmdRefusal}
use Rattle.vmd_base.specs.Meaning.{refusal_of, answer}

module _ {A B : Type 0} (f : A → B) (r : Result A VmdRefusal) (k : VmdRefusal) where
  pub handed_on : IsErrAnd r (λ e. e ≡ k) → answer f r ≡ declined (refusal_of k)
  handed_on h = go r h
    where
      go : (r : Result A VmdRefusal) → IsErrAnd r (λ e. e ≡ k) → answer f r ≡ declined (refusal_of k)
      go (Ok a) h = absurd h
      go (Err e) h = ap (λ e. declined (refusal_of e)) h

  -- where the first of two steps is refused
  pub first_refused : {C : Type 0} {x : Answer C} (g : C → Answer B) → IsErrAnd r (λ e. e ≡ k) → declined (refusal_of k) ≡ x → answer f r ≡ and_then x g
  unfolding and_then
  first_refused g h e = handed_on h ∙ rw (← e) refl

-- where it is not
pub first_given : {A B : Type 0} {y : Answer B} {x : Answer A} (g : A → Answer B) (a : A) → given a ≡ x → y ≡ g a → y ≡ and_then x g
unfolding and_then
first_given g a e h = rw (← e) h
