-- Floats and their bits. Assumes nothing.
use Rattle.std.proofs.Common.{◌≡◌, ℕ, ◌/◌, ◌%◌, ◌<◌, ◌≤◌, true, false, not, T, ltb, sym, refl, ◌∙◌, ⊎_elim, eq-or-lt_of_le, arith, le-ltb, lt-ltb, eq-eqb, ne_eqb}
use lib.Ieee.{Float, nan, inf, fin, binary32, of_bits, to_bits, is_nan, nan_bits}
use lib.Ieee.Bits.{nan_bits_is, nan_bits_above}
use Rattle.vmd_format.specs.Parts.{finite}

never : false ≡ true → ⊥
never h = let z : ◌≡◌ {A = ℕ} 0 1 = cc in omega arith

nan_is : (x : Float) → is_nan x ≡ true → x ≡ nan
unfolding is_nan
nan_is nan h = refl
nan_is (inf s) h = absurd (never h)
nan_is (fin s m e) h = absurd (never h)

pub nan_pattern : (n : ℕ) → 2139095040 < n % 2147483648 → of_bits binary32 n ≡ nan
nan_pattern n h = nan_is (of_bits binary32 n) (sym (nan_bits_is binary32 n) ∙ nan_bits_above binary32 n ∙ lt-ltb _ _ h)

pub other_pattern : (n : ℕ) → n % 2147483648 ≤ 2139095040 → T (not (nan_bits binary32 n))
other_pattern n h = rw (nan_bits_above binary32 n, le-ltb _ _ h) tt

-- finite bits, without their sign, are below those of infinity
pub finite_below : (n : ℕ) → ltb (n % 2147483648) 2139095040 ≡ finite n
unfolding finite
finite_below n =
    let e : ℕ = n / 8388608 % 256 in
    let below : e ≤ 255 = omega arith in
    ⊎_elim
    (λ (h : e ≡ 255). rw (le-ltb (n % 2147483648) 2139095040 (omega arith), eq-eqb e 255 h))
    (λ (h : e < 255). rw (lt-ltb (n % 2147483648) 2139095040 (omega arith), ne_eqb e 255 (λ (q : e ≡ 255). absurd (omega arith))))
    (eq-or-lt_of_le below)

nan_not_finite : finite (to_bits binary32 nan) ≡ false
unfolding finite to_bits
nan_not_finite = refl

pub nan_none_finite : (x : Float) → is_nan x ≡ true → false ≡ finite (to_bits binary32 x)
nan_none_finite x h = rw (nan_is x h) (sym nan_not_finite)

pub finite_no_nan : (x : Float) → finite (to_bits binary32 x) ≡ true → T (not (is_nan x))
unfolding is_nan
finite_no_nan nan h = absurd (never (sym nan_not_finite ∙ h))
finite_no_nan (inf s) h = tt
finite_no_nan (fin s m e) h = tt
