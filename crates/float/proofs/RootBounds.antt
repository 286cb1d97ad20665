-- A number divided by the root of what is not below its square is at most 2 in size: were it above twice the root, its square would be rounded to twice that number at least.
-- A number of the format is its own rounding: so no sum of two that are not below zero is below either. Assumes nothing.
use mathlib.Core.Path.{◌≡◌, refl, sym, ap, ◌∙◌, subst}
use mathlib.Core.Logic.{inl, inr}
use Prim.Native.Nat.{ℕ, zero, suc, ◌+◌, ◌*◌, ◌^◌, ◌≤◌, ◌<◌}
use native.Mathlib.Nat as nat
use native.Mathlib.Nat.{le_of_mul-le-mul_right, lt_of_lt_of_le, mul-le-mul, mul-le-mul_right, mul-pos, two-pow-succ, zero-lt-suc}
use native.Mathlib.Omega.{arith}
use mathlib.Core.Bool.{true, false, true≢false}
use lib.Dec.{T}
use lib.Pow.{pow-add, pow_pos, pow_mono, shl_lt}
use lib.Ieee.{Float, nan, inf, fin, binary64, up, down, unlike, fits, round, sum, add, mul, div, le}
use lib.Ieee.Exact.{HasValue, round_exact}
use lib.Ieee.Fits.{round-fits, down_pos}
use lib.Ieee.Order.{transfer, le_of_values, round_mono}
use lib.Ieee.Positive.{num, den, den_pos, positive, positive_of_value, value_pos, value→cross, values_of_le}
use lib.Ieee.Scale.{finite, round_val, round_under}
use Rattle.float.specs.Number.{two}
use Rattle.float.specs.Nearest.{number}
use Rattle.float.specs.Pick.{magnitude}
use Rattle.float.specs.Root.{in_units, root}
use Rattle.float.proofs.Bounds.{power, AtMost, div_is, round_most}
use Rattle.float.proofs.Cases.{low_or_high}
use Rattle.float.proofs.Numbers.{two_rounded}
use Rattle.float.proofs.Order.{le_trans}
use Rattle.float.proofs.RootNearest.{parts, a_number, root_positive, root_value, root_square}
use Rattle.float.proofs.RootRead.{units_of}

-- ---- a number of the format is its own rounding
held : (q j : ℕ) → q < 2 ^ 53 → j ≤ 2045 → q * 2 ^ j < 2 ^ (1074 + 1024)
held q j h k = lt_of_lt_of_le (shl_lt 53 j h) (pow_mono {i = 53 + j} {j = 1074 + 1024} (omega arith))

pub le_round : (y : Float) → T (number y) → (a c : ℕ) → 0 < c → num y * c ≤ a * den y → T (le y (round binary64 false a c))
le_round y n a c C h =
    let p = parts y n in
    let v = p.digits * 2 ^ p.exponent in
    let own = round binary64 false v (2 ^ 1074) in
    le_trans y own (round binary64 false a c)
    (le_of_values y own v (2 ^ 1074) v (2 ^ 1074) (pow_pos 1074) (pow_pos 1074) p.value
    (round_exact binary64 false v (2 ^ 1074) p.digits p.exponent (pow_pos 1074) p.few (held p.digits p.exponent p.few p.small) refl) (nat.le_refl (v * 2 ^ 1074)))
    (round_mono binary64 v (2 ^ 1074) a c (pow_pos 1074) C (transfer v a (2 ^ 1074) c (num y) a (den y) c (den_pos y) C (sym (value→cross y v (2 ^ 1074) p.value)) refl h))

-- ---- sums of numbers that are not below zero
number_of : (x : Float) (a c : ℕ) → T (fits binary64 x) → HasValue x false a c → T (number x)
number_of nan a c f v = absurd v
number_of (inf s) a c f v = absurd v
number_of (fin true m e) a c f v = absurd (true≢false v.0)
number_of (fin false m e) a c f v = f

round_number : (a c : ℕ) → T (finite (round binary64 false a c)) → T (number (round binary64 false a c))
round_number a c t = number_of (round binary64 false a c) _ (2 ^ 1074) (round-fits binary64 false a c) (round_val binary64 a c (round_under binary64 a c t))

pub square_number : (x : Float) → T (finite x) → T (finite (mul binary64 x x)) → T (number (mul binary64 x x))
unfolding mul
square_number nan p t = absurd p
square_number (inf s) p t = absurd p
square_number (fin true m e) p t = round_number (m * up e * (m * up e)) (down e * down e) t
square_number (fin false m e) p t = round_number (m * up e * (m * up e)) (down e * down e) t

pub sum_number : (x y : Float) → T (number x) → T (number y) → T (finite (add binary64 x y)) → T (number (add binary64 x y))
unfolding add sum
sum_number nan y p q t = absurd p
sum_number (inf s) y p q t = absurd p
sum_number (fin true m e) y p q t = absurd p
sum_number (fin false m e) nan p q t = absurd q
sum_number (fin false m e) (inf s) p q t = absurd q
sum_number (fin false m e) (fin true n d) p q t = absurd q
sum_number (fin false m e) (fin false n d) p q t = round_number (m * up e * down d + n * up d * down e) (down e * down d) t

pub sum_more : (x y : Float) → T (number x) → T (number y) → T (le x (add binary64 x y))
unfolding add sum
sum_more nan y p q = absurd p
sum_more (inf s) y p q = absurd p
sum_more (fin true m e) y p q = absurd p
sum_more (fin false m e) nan p q = absurd q
sum_more (fin false m e) (inf s) p q = absurd q
sum_more (fin false m e) (fin true n d) p q = absurd q
sum_more (fin false m e) (fin false n d) p q = le_round (fin false m e) p (m * up e * down d + n * up d * down e) (down e * down d) (mul-pos (down_pos e) (down_pos d)) (more (m * up e) (n * up d) (down e) (down d))
  where
    more : (a b c d : ℕ) → a * (c * d) ≤ (a * d + b * c) * c
    more a b c d = omega arith

-- ---- the quotient by r, R units, of what is at most 2R units
quotient : (a c n d R U : ℕ) → 0 < U → n * U ≡ R * d → a * U ≤ 2 * R * c → a * d * 1 ≤ 2 * (n * c)
quotient a c n d R U u e h = le_of_mul-le-mul_right {k = U} (omega (arith, mul-le-mul_right d h, ap (λ (z : ℕ). z * c) e)) u

div_most : (x r : Float) (R : ℕ) → T (finite x) → 0 < R → HasValue r false R (2 ^ 1074) → num x * 2 ^ 1074 ≤ 2 * R * den x → T (le (magnitude (div binary64 x r)) two)
div_most nan r R p P v h = absurd p
div_most (inf s) r R p P v h = absurd p
div_most (fin s m e) nan R p P v h = absurd v
div_most (fin s m e) (inf t) R p P v h = absurd v
div_most (fin s m e) (fin t n d) R p P v h =
    let N : 0 < n * up d = first_factor (n * up d) (2 ^ 1074) (R * down d) (mul-pos P (down_pos d)) v.1 in
    rw (two_rounded, div_is s m e t n d N)
    (round_most binary64 (unlike s t) (m * up e * down d) (n * up d * down e) 2 1 (mul-pos N (down_pos e)) (zero-lt-suc 0) (quotient (m * up e) (down e) (n * up d) (down d) R (2 ^ 1074) (pow_pos 1074) v.1 h))
  where
    first_factor : (n U w : ℕ) → 0 < w → n * U ≡ w → 0 < n
    first_factor zero U w W e = absurd (nat.lt_irrefl 0 (omega (arith, nat.zero-mul U)))
    first_factor (suc n) U w W e = zero-lt-suc n

-- ---- d, not below the square of x, and its root
doubled : (D a b k : ℕ) → D * 1 ≤ 2 ^ a * 2 ^ b → a + b + 2 ≤ k → 2 * D < 2 ^ k
doubled D a b k h g = omega (arith, pow-add 2 a b, two-pow-succ (a + b), two-pow-succ (suc (a + b)), pow_pos (a + b), pow_mono {i = suc (suc (a + b))} {j = k} (omega arith))

crossed : (D R n d U : ℕ) → 0 < U → D * U ≤ 2 * (R * R) → 2 * R * d ≤ n * U → 2 * D * (d * d) ≤ n * n * U
crossed D R n d U u h k = le_of_mul-le-mul_right {k = U} (omega (arith, mul-le-mul_right (d * d) h, mul-le-mul k k)) u

own_size : (d : Float) → T (positive d) → magnitude d ≡ d
own_size nan p = absurd p
own_size (inf s) p = absurd p
own_size (fin true m e) p = absurd p
own_size (fin false m e) p = refl

power_value : (n : ℕ) → 1 * n * 1 ≡ n * 1
power_value n = omega arith

no_double : (D U : ℕ) → 0 < D → 0 < U → 2 * D * U ≤ D * U → ⊥
no_double D U p q h = omega (arith, mul-pos p q)

-- the square of x, where it is not below a / 2^1074
square_above : (x : Float) → T (finite x) → (a : ℕ) → a * (den x * den x) ≤ num x * num x * 2 ^ 1074 → T (le (round binary64 false a (2 ^ 1074)) (mul binary64 x x))
unfolding mul
square_above nan p a h = absurd p
square_above (inf s) p a h = absurd p
square_above (fin true m e) p a h = round_mono binary64 a (2 ^ 1074) (m * up e * (m * up e)) (down e * down e) (pow_pos 1074) (mul-pos (down_pos e) (down_pos e)) h
square_above (fin false m e) p a h = round_mono binary64 a (2 ^ 1074) (m * up e * (m * up e)) (down e * down e) (pow_pos 1074) (mul-pos (down_pos e) (down_pos e)) h

module _ (x d : Float) (X : T (finite x)) (p : T (positive d)) (f : T (fits binary64 d)) (k : ℕ) (K : k ≤ 1022) (few : AtMost k d) (h : T (le (mul binary64 x x) d)) where
  abbrev D : ℕ
  D = in_units d

  abbrev R : ℕ
  R = in_units (root d)

  d_value : HasValue d false D (2 ^ 1074)
  d_value = let v = parts d (a_number d p f) in rw (units_of d false (v.digits * 2 ^ v.exponent) v.value) v.value

  some : 0 < D
  some = value_pos d D (2 ^ 1074) p (pow_pos 1074) d_value

  abbrev twice : Float
  twice = round binary64 false (2 * D) (2 ^ 1074)

  small : 2 * D < 2 ^ (1074 + 1024)
  small = doubled D k 1074 (1074 + 1024) (values_of_le d (power k) D (2 ^ 1074) (2 ^ k) 1 p tt d_value (refl, power_value (2 ^ k)) (rw (own_size d p) at few)) (omega arith)

  twice_value : HasValue twice false (2 * D) (2 ^ 1074)
  twice_value =
      let v = parts d (a_number d p f) in
      let e : 2 * D ≡ v.digits * 2 ^ suc v.exponent = ap (λ (z : ℕ). 2 * z) (units_of d false (v.digits * 2 ^ v.exponent) v.value) ∙ up_one v.digits v.exponent in
      round_exact binary64 false (2 * D) (2 ^ 1074) v.digits (suc v.exponent) (pow_pos 1074) v.few (subst (λ (z : ℕ). z < 2 ^ (1074 + 1024)) e small) (ap (λ (z : ℕ). z * 2 ^ 1074) e)
    where
      up_one : (q j : ℕ) → 2 * (q * 2 ^ j) ≡ q * 2 ^ suc j
      up_one q j = omega (arith, ap (λ (z : ℕ). q * z) (two-pow-succ j))

  within : num x * 2 ^ 1074 ≤ 2 * R * den x
  within = elim (low_or_high (2 * R * den x) (num x * 2 ^ 1074)) [ inl g ↦ absurd (too_much (nat.le_of_lt g)) | inr k ↦ k ]
    where
      too_much : 2 * R * den x ≤ num x * 2 ^ 1074 → ⊥
      too_much g =
          no_double D (2 ^ 1074) some (pow_pos 1074)
          (values_of_le twice d (2 * D) (2 ^ 1074) D (2 ^ 1074) (positive_of_value twice (2 * D) (2 ^ 1074) twice_value (omega (arith, some))) p twice_value d_value (le_trans twice (mul binary64 x x) d (square_above x X (2 * D) (crossed D R (num x) (den x) (2 ^ 1074) (pow_pos 1074) (root_square d p f) g)) h))

  -- x divided by the root of d
  pub by_root_most : T (le (magnitude (div binary64 x (root d))) two)
  by_root_most = div_most x (root d) R X (value_pos (root d) R (2 ^ 1074) (root_positive d p f) (pow_pos 1074) (root_value d p f)) (root_value d p f) within
