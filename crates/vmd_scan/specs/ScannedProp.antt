-- What a scan of a file says, and what of it holds of one section, has one proof at most, so a value can carry it. Assumes nothing.
use mathlib.Core.Path.{refl, sym, ap, ◌∙◌, subst}
use mathlib.Core.HLevel.{is_prop→PathP}
use Rattle.std.specs.Prelude.{ℕ, zero, suc, ◌≡◌, List}
use Rattle.std.specs.Coded.{Coded, Coded-set, coded_ℕ, coded×, code_by, ×_prop, Unit-prop, le_prop}
use Rattle.vmd_format.specs.Answer.{Answer, declined, given}
use Rattle.vmd_format.specs.Opening.{Extent, Scan}
use Rattle.vmd_format.specs.Fetch.{next_frame}
use Rattle.vmd_laws.specs.Places.{Reaches, Walk, walk}
use Rattle.vmd_laws.specs.ScanLaws.{ExtentWithin, Inside}
use Rattle.vmd_laws.specs.ExportLaws.{Scanned}

-- ---- that an answer is given a value, for a value of a set

abbrev IsGiven : {A : Type 0} → Answer A → Type 0
IsGiven (declined k) = ⊥
IsGiven (given a) = Unit {0}

-- the value, or another
abbrev value_or : {A : Type 0} → A → Answer A → A
value_or b (declined k) = b
value_or b (given a) = a

abbrev value_given : {A : Type 0} (b : A) (x : Answer A) → IsGiven x → given (value_or b x) ≡ x
value_given b (declined k) h = absurd h
value_given b (given a) h = refl

given_prop : {A : Type 0} → IsSet A → (x : Answer A) (a : A) → IsProp (x ≡ given a)
given_prop set (declined k) a p q = absurd (subst IsGiven (sym p) tt)
given_prop set (given b) a p q = sym (kept p) ∙ ap (ap given) (set b a (ap (value_or b) p) (ap (value_or b) q)) ∙ kept q
  where
    kept : (p : given b ≡ given a) → ap (λ x. given (value_or b x)) p ≡ p
    kept p = λ j i. value_given b (p i) (coe 0 i (k. IsGiven (p k)) tt) j

-- ---- the facts of a scan

coded_walk : Coded Walk
coded_walk = code_by (ℕ × ℕ) (coded× coded_ℕ coded_ℕ) (λ w. (w.next, w.ik_states)) (λ p. record { next = p.0; ik_states = p.1 }) (λ w. refl)

pub extent_prop : (size : ℕ) (s : List ℕ) (p : Extent) → IsProp (ExtentWithin size s p)
extent_prop size s p x y = λ i. record {
  place = le_prop x.place y.place i;
  ends = le_prop x.ends y.ends i;
}

-- where a walk ends, which the walk determines
abbrev end_of : Answer Walk → ℕ
end_of (declined k) = 0
end_of (given w) = w.next

inside_prop : (s : List ℕ) (p : Scan) → IsProp (Inside s p)
inside_prop s p x y =
    let e : x.next ≡ y.next = ap end_of (sym x.walked ∙ y.walked) in
    λ i. record {
      bones = extent_prop 111 s p.bones x.bones y.bones i;
      morphs = extent_prop 23 s p.morphs x.morphs y.morphs i;
      cameras = extent_prop 61 s p.cameras x.cameras y.cameras i;
      lights = extent_prop 28 s p.lights x.lights y.lights i;
      self_shadows = extent_prop 9 s p.self_shadows x.self_shadows y.self_shadows i;
      properties = extent_prop 9 s p.properties x.properties y.properties i;
      next = e i;
      walked = is_prop→PathP
          (λ j. walk s p.properties.count p.properties.place 0 ≡ given (record { next = e j; ik_states = p.ik_states }))
          (λ j. given_prop (Coded-set coded_walk) _ _) x.walked y.walked i;
    }

pub scanned_prop : (s : List ℕ) (x : Scan) → IsProp (Scanned s x)
scanned_prop s p x y = λ i. record {
  inside = inside_prop s p x.inside y.inside i;
  ik_states = Coded-set coded_ℕ _ _ x.ik_states y.ik_states i;
}

pub reaches_prop : (s : List ℕ) (n at : ℕ) → IsProp (Reaches s n at)
unfolding Reaches
reaches_prop s zero at = Unit-prop
reaches_prop s (suc n) at = ×_prop le_prop (reaches_prop s n (next_frame s at))
