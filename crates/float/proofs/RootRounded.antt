-- Rattle's `sqrt`, an operation of the hardware, is the rule's `root` on every f64. It rounds twice the root of a whole number, or where that is not whole the odd number next to it:
-- on the root's side of every even number, and so of every middle of two numbers of the format. By the root's parts (proofs/RootNearest.antt) both are q * 2^h units. Assumes nothing.
use mathlib.Core.Path.{◌≡◌, refl, sym, ap, ◌∙◌, subst}
use Prim.Native.Nat.{ℕ, zero, suc, ◌+◌, ◌-◌, ◌*◌, ◌/◌, ◌%◌, ◌^◌, ◌≤◌, ◌<◌, compare, Ordering}
use native.Mathlib.Nat.{le_antisymm, le_of_suc-le-suc, lt_of_not-le, lt_irrefl, mul-le-mul, mul-le-mul_right, div-add-mod', mul-div_cancel, mul-pos, le-div_iff_mul-le, div-lt_iff_lt-mul, mul-lt-mul_of_pos_right, two-pow-succ, zero-lt-suc, zero-mul}
use native.Mathlib.Omega.{arith}
use mathlib.Core.Bool.{Bool, true, false, not, cond}
use lib.IntN.{ℤ, pos, negsuc}
use lib.Dec.{T, ltb, eqb, is_le, compare_is_eq, leb→le, nleb→lt, eqb→eq, lt→ltb}
use lib.Pow.{pow-add, pow_pos}
use lib.Ieee.{Float, nan, inf, fin, binary64, up, down, fits, size, nearest, units, round, root_below, root_twice, sqrt, lt, is_nan, of_bits}
use lib.Ieee.Fits.{down_pos, round_is}
use lib.Ieee.Nearest.{closest}
use lib.Ieee.Root.{Root, whole_part}
use lib.Ieee.Positive.{positive}
use borrow.Author.Tests.{eqb-true, le-ltb}
use Rattle.float.specs.Number.{nought}
use Rattle.float.specs.Root.{in_units, root}
use Rattle.float.proofs.Order.{clash}
use Rattle.float.proofs.Numbers.{nought_is}
use Rattle.float.proofs.Patterns.{is_nan_lem}
use Rattle.float.proofs.RootWhole.{Near}
use Rattle.float.proofs.RootScaled.{size_is}
use Rattle.float.proofs.RootRead.{units_of}
use Rattle.float.proofs.RootNearest.{parts, at}

-- ---- the whole number nearest to a fraction a / b: a is w * b + r
module _ (w r b q : ℕ) (B : 0 < b) (R : r < b) (lo : 2 * (q * b) < 2 * (w * b + r) + b) (hi : 2 * (w * b + r) < 2 * (q * b) + b) where
  not_over : r * 2 ≤ b → q ≤ w
  not_over h = le_of_suc-le-suc (lt_of_not-le (λ (g : suc w ≤ q). lt_irrefl 0 (omega (arith, mul-le-mul_right b g))))

  not_under : w ≤ q
  not_under = le_of_suc-le-suc (lt_of_not-le (λ (g : suc q ≤ w). lt_irrefl 0 (omega (arith, mul-le-mul_right b g))))

  above : b ≤ r * 2 → suc w ≤ q
  above h = lt_of_not-le (λ (g : q ≤ w). lt_irrefl 0 (omega (arith, mul-le-mul_right b g)))

  below : q ≤ suc w
  below = le_of_suc-le-suc (lt_of_not-le (λ (g : suc (suc w) ≤ q). lt_irrefl 0 (omega (arith, mul-le-mul_right b g))))

  nearest_is : (o : Ordering) → (T (is_le o) → r * 2 ≤ b) → (T (not (is_le o)) → b < r * 2) → (T (compare_is_eq o) → r * 2 ≡ b) → nearest w o ≡ q
  nearest_is Ordering.lt h k e = le_antisymm not_under (not_over (h tt))
  nearest_is Ordering.eq h k e = absurd (lt_irrefl 0 (omega (arith, not_over (h tt), above (omega (arith, e tt)))))
  nearest_is Ordering.gt h k e = le_antisymm (above (omega (arith, k tt))) below

closest_is : (a b q : ℕ) → 0 < b → 2 * (q * b) < 2 * a + b → 2 * a < 2 * (q * b) + b → closest a b ≡ q
closest_is a b q B lo hi =
    let r = a % b * 2 in
    let s : a ≡ a / b * b + a % b = sym (div-add-mod' a b) in
    nearest_is (a / b) (a % b) b q B (omega arith) (subst (λ (z : ℕ). 2 * (q * b) < 2 * z + b) s lo) (subst (λ (z : ℕ). 2 * z < 2 * (q * b) + b) s hi) (compare r b) (leb→le r b) (nleb→lt r b) (eqb→eq r b)

-- ---- t is twice the root of n where that is whole, and else the odd number between twice its neighbours: it is on the root's side of every even number
module _ (n r : ℕ) (c : Root r n) where
  root_under : (k : ℕ) → n < k * k → r < k
  root_under k h = lt_of_not-le (λ (g : k ≤ r). lt_irrefl 0 (omega (arith, mul-le-mul g g)))

  root_over : (k : ℕ) → k * k ≤ n → k ≤ r
  root_over k h = le_of_suc-le-suc (lt_of_not-le (λ (g : suc r ≤ k). lt_irrefl 0 (omega (arith, mul-le-mul g g))))

  under : (k : ℕ) (b : Bool) → n < k * k → 2 * r + cond b 0 1 < 2 * k
  under k true h = omega (arith, root_under k h)
  under k false h = omega (arith, root_under k h)

  over : (k : ℕ) (b : Bool) → eqb (r * r) n ≡ b → k * k < n → 2 * k < 2 * r + cond b 0 1
  over k true e h = omega (arith, lt_of_not-le (λ (g : r ≤ k). lt_irrefl 0 (omega (arith, mul-le-mul g g, eqb-true (r * r) n e))))
  over k false e h = omega (arith, root_over k (omega arith))

  at_least : (k : ℕ) (b : Bool) → k * k ≤ n → 2 * k ≤ 2 * r + cond b 0 1
  at_least k b h = omega (arith, root_over k h)

record Twice (n t : ℕ) : Type 0 where
  under : (k : ℕ) → n < k * k → t < 2 * k
  over : (k : ℕ) → k * k < n → 2 * k < t
  at_least : (k : ℕ) → k * k ≤ n → 2 * k ≤ t

twice : (n : ℕ) → Twice n (root_twice n)
unfolding root_twice
twice n =
    let r = root_below (size n) n in
    let b = eqb (r * r) n in
    record { under = λ k. under n r (whole_part n) k b; over = λ k. over n r (whole_part n) k b refl; at_least = λ k. at_least n r (whole_part n) k b }

-- ---- t is that of M * (2D)², and q the whole number nearest to the root of M: t is between (2q - 1) * 2D and (2q + 1) * 2D
module _ (M q D t : ℕ) (close : Near M q) (lo : 2 ^ 52 ≤ q) (hi : q < 2 ^ 53) (large : 2 ^ 52 * 2 ^ 52 ≤ M) (some : 0 < D) (is : Twice (M * (4 * (D * D))) t) where
  area : 0 < D * D
  area = mul-pos some some

  upper : t < 2 * ((2 * q + 1) * D)
  upper = is.under ((2 * q + 1) * D) (regroup (2 * q + 1) (mul-lt-mul_of_pos_right (omega arith) area))
    where
      regroup : (v : ℕ) → 4 * M * (D * D) < v * v * (D * D) → M * (4 * (D * D)) < v * D * (v * D)
      regroup v h = omega arith

  lower : 2 * ((2 * q - 1) * D) < t
  lower = is.over ((2 * q - 1) * D) (regroup (2 * q - 1) (omega arith))
    where
      regroup : (u : ℕ) → u + 1 ≡ 2 * q → u * D * (u * D) < M * (4 * (D * D))
      regroup u e = let l : u * u < 4 * M = omega (arith, ap (λ (z : ℕ). z * z) e) in omega (arith, mul-lt-mul_of_pos_right l area)

  large_enough : 2 ^ 54 * D ≤ t
  large_enough = omega (arith, is.at_least (2 ^ 53 * D) (omega (arith, mul-le-mul_right (4 * (D * D)) large)))

  small_enough : t < 2 ^ 55 * D
  small_enough = omega (arith, upper, mul-le-mul_right D hi)

  -- of t * P / E, where E * 2^h is 4D * P, 53 digits are kept and h dropped, and it is rounded to q
  module _ (h P E : ℕ) (P' : 0 < P) (E' : 0 < E) (unit : E * 2 ^ h ≡ 4 * D * P) where
    per_unit : (w n p : ℕ) → w ≡ n * p → w * E ≡ n * (E * p)
    per_unit w n p e = omega (arith, ap (λ (z : ℕ). z * E) e)

    digits_lo : 2 ^ (52 + h) ≤ t * P / E
    digits_lo = (le-div_iff_mul-le E').1 (subst (λ (z : ℕ). z ≤ t * P) (sym (per_unit (2 ^ (52 + h)) (2 ^ 52) (2 ^ h) (pow-add 2 52 h))) (omega (arith, mul-le-mul_right P large_enough)))

    digits_hi : t * P / E < 2 ^ suc (52 + h)
    digits_hi =
        (div-lt_iff_lt-mul E').1
        (subst (λ (z : ℕ). t * P < z) (sym (per_unit (2 ^ suc (52 + h)) (2 ^ 53) (2 ^ h) (ap (λ (z : ℕ). 2 ^ z) (add_more h) ∙ pow-add 2 53 h))) (omega (arith, mul-lt-mul_of_pos_right small_enough P')))
      where
        add_more : (h : ℕ) → suc (52 + h) ≡ 53 + h
        add_more h = omega arith

    dropped : size (t * P / E) - 53 ≡ h
    dropped = omega (arith, size_is (t * P / E) (52 + h) digits_lo digits_hi)

    kept : closest (t * P) (E * 2 ^ h) ≡ q
    kept =
        closest_is (t * P) (E * 2 ^ h) q (mul-pos E' (pow_pos h))
        (subst (λ (z : ℕ). 2 * (q * z) < 2 * (t * P) + z) (sym unit) (not_lower (2 * q - 1) (omega arith) (mul-lt-mul_of_pos_right lower P')))
        (subst (λ (z : ℕ). 2 * (t * P) < 2 * (q * z) + z) (sym unit) (omega (arith, mul-lt-mul_of_pos_right upper P')))
      where
        not_lower : (u : ℕ) → u + 1 ≡ 2 * q → 2 * (u * D) * P < t * P → 2 * (q * (4 * D * P)) < 2 * (t * P) + 4 * D * P
        not_lower u e l = omega (arith, ap (λ (z : ℕ). z * (D * P)) e)

    in_digits : units binary64 false (closest (t * P) (E * 2 ^ (size (t * P / E) - 53))) (size (t * P / E) - 53) ≡ units binary64 false q h
    in_digits = rw (dropped, kept)

-- ---- powers of two: V units are V * 2^3468 where 2^1074 is taken to be 2^4542; with the M and h of V's root that is M * (2D)², for D = 2^(1196 + h)
abbrev half_place : ℕ → ℕ
half_place h = 2 ^ (1196 + h)

places : (h : ℕ) → 2 ^ h * 2 ^ h * 2 ^ 2394 ≡ 4 * (half_place h * half_place h)
places h = go (2 ^ 1196) (2 ^ 2394) (2 ^ h) (half_place h) refl (pow-add 2 1196 h)
  where
    go : (a b p d : ℕ) → b ≡ 4 * (a * a) → d ≡ a * p → p * p * b ≡ 4 * (d * d)
    go a b p d e g = omega (arith, ap (λ (z : ℕ). p * p * z) e, ap (λ (z : ℕ). z * z) g)

unit_is : (h : ℕ) → 2 ^ 2272 * 2 ^ h ≡ 4 * half_place h * 2 ^ 1074
unit_is h = go (2 ^ 1196) (2 ^ 2272) (2 ^ 1074) (2 ^ h) (half_place h) refl (pow-add 2 1196 h)
  where
    go : (a e p w d : ℕ) → e ≡ 4 * a * p → d ≡ a * w → e * w ≡ 4 * d * p
    go a e p w d i g = omega (arith, ap (λ (z : ℕ). z * w) i, ap (λ (z : ℕ). z * p) g)

scaled_up : (V M h : ℕ) → V * 2 ^ 1074 ≡ M * (2 ^ h * 2 ^ h) → V * 2 ^ 3468 ≡ M * (4 * (half_place h * half_place h))
scaled_up V M h e = go (2 ^ 1074) (2 ^ 2394) (2 ^ 3468) (2 ^ h * 2 ^ h) refl e ∙ ap (λ (z : ℕ). M * z) (places h)
  where
    go : (p r q s : ℕ) → q ≡ p * r → V * p ≡ M * s → V * q ≡ M * (s * r)
    go p r q s i g = omega (arith, ap (λ (z : ℕ). V * z) i, ap (λ (z : ℕ). z * r) g)

divided : (a d V : ℕ) → 0 < d → a * 2 ^ 1074 ≡ V * d → a * 2 ^ 4542 / d ≡ V * 2 ^ 3468
divided a d V D e = ap (λ (z : ℕ). z / d) (go (2 ^ 1074) (2 ^ 3468) (2 ^ 4542) refl e) ∙ mul-div_cancel (V * 2 ^ 3468) D
  where
    go : (p r q : ℕ) → q ≡ p * r → a * p ≡ V * d → a * q ≡ V * r * d
    go p r q i g = omega (arith, ap (λ (z : ℕ). a * z) i, ap (λ (z : ℕ). z * r) g)

-- ---- a number above zero
rounded : (x : Float) → T (positive x) → T (fits binary64 x) → round binary64 false (root_twice (in_units x * 2 ^ 3468)) (2 ^ 2272) ≡ root x
rounded x p f =
    let a = at x p f in
    let D = half_place a.h in
    let n = a.M * (4 * (D * D)) in
    ap (λ (z : ℕ). round binary64 false (root_twice z) (2 ^ 2272)) (scaled_up (in_units x) a.M a.h a.whole)
    ∙ round_is binary64 false (root_twice n) (2 ^ 2272)
    ∙ in_digits a.M a.q D (root_twice n) a.close a.lo a.hi a.large (pow_pos (1196 + a.h)) (twice n) a.h (2 ^ 1074) (2 ^ 2272) (pow_pos 1074) (pow_pos 2272) (unit_is a.h)
    ∙ sym a.made

-- ---- on every number of the format
in_places : (m : ℕ) (e : ℤ) → T (fits binary64 (fin false (suc m) e)) → suc m * up e * 2 ^ 4542 / down e ≡ in_units (fin false (suc m) e) * 2 ^ 3468
in_places m e f =
    let x = fin false (suc m) e in
    let v = parts x f in
    let n = v.digits * 2 ^ v.exponent in
    divided (suc m * up e) (down e) (in_units x) (down_pos e) (v.value.1 ∙ ap (λ (z : ℕ). z * down e) (sym (units_of x false n v.value)))

above_zero : (m : ℕ) (e : ℤ) → T (fits binary64 (fin false (suc m) e)) → sqrt binary64 (fin false (suc m) e) ≡ root (fin false (suc m) e)
unfolding sqrt
above_zero m e f = ap (λ (z : ℕ). round binary64 false (root_twice z) (2 ^ 2272)) (in_places m e f) ∙ rounded (fin false (suc m) e) (lt→ltb 0 (suc m) (zero-lt-suc m)) f

plain_zero : (s : Bool) (e : ℤ) → T (fits binary64 (fin s zero e)) → fin s zero (pos zero) ≡ fin s zero e
unfolding fits
plain_zero s (pos zero) f = refl
plain_zero s (pos (suc k)) f = absurd (omega (arith, eqb→eq (2 ^ suc k * 1) 1 f, two-pow-succ k, pow_pos k))
plain_zero s (negsuc k) f = absurd (omega (arith, eqb→eq (1 * 2 ^ suc k) 1 f, two-pow-succ k, pow_pos k))

pub sqrt_is : (x : Float) → T (fits binary64 x) → sqrt binary64 x ≡ root x
unfolding sqrt root
sqrt_is nan f = refl
sqrt_is (inf true) f = refl
sqrt_is (inf false) f = refl
sqrt_is (fin s zero e) f = plain_zero s e f
sqrt_is (fin true (suc m) e) f = refl
sqrt_is (fin false (suc m) e) f = above_zero m e f

-- ---- what has no root: below zero, and a NaN
negative : (x : Float) → lt x (fin false 0 (pos 0)) ≡ true → nan ≡ root x
unfolding lt root
negative nan p = refl
negative (inf true) p = refl
negative (inf false) p = clash false p refl
negative (fin true zero e) p = clash (ltb 0 (0 * up e * 1 + 0 * 1 * down e)) p (le-ltb 0 (0 * up e * 1 + 0 * 1 * down e) (omega (arith, zero-mul (up e), zero-mul (down e))))
negative (fin false zero e) p = clash (ltb (0 * up e * 1) (0 * 1 * down e)) p (le-ltb (0 * up e * 1) (0 * 1 * down e) (omega (arith, zero-mul (down e))))
negative (fin true (suc m) e) p = refl
negative (fin false (suc m) e) p = clash (ltb (suc m * up e * 1) (0 * 1 * down e)) p (le-ltb (suc m * up e * 1) (0 * 1 * down e) (omega (arith, zero-mul (down e))))

pub below_zero : (x : Float) → lt x nought ≡ true → of_bits binary64 0x7ff8_0000_0000_0000 ≡ root x
unfolding of_bits
below_zero x p = negative x (ap (λ (z : Float). lt x z) (sym nought_is) ∙ p)

pub of_nan : (x : Float) → is_nan x ≡ true → of_bits binary64 0x7ff8_0000_0000_0000 ≡ root x
unfolding of_bits root
of_nan x p = rw (is_nan_lem x p)
