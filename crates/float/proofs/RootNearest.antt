-- `root x` is what specs/Nearest.antt asks for, and the only float that is: the root of x is nearer to it than to any other number of the format, and there is no tie.
-- In units the root is q * P, with P a power of two and q of 53 digits. Numbers from 2^52 * P up are multiples of P, so that the next ones are (q ± 1) * P, and `Near` says that
-- the root is within half of P; below 2^52 * P they are closer, but there the root is no less than q * P. Assumes nothing.
use mathlib.Core.Path.{◌≡◌, refl, sym, ap, ◌∙◌, subst}
use Prim.Native.Nat.{ℕ, zero, suc, ◌+◌, ◌-◌, ◌*◌, ◌/◌, ◌%◌, ◌^◌, ◌≤◌, ◌<◌}
use native.Mathlib.Nat.{le_trans, le_antisymm, lt_trans, le_of_suc-le-suc, lt_of_not-le, mul-pos, lt_of_le_of_lt, lt_of_lt_of_le, lt_irrefl, mul-le-mul, mul-le-mul_left, mul-le-mul_right, mul-lt-mul_of_pos_right, lt_of_mul-lt-mul_right, mul_assoc, zero-mul, mul-one}
use native.Mathlib.Omega.{arith}
use mathlib.Core.Bool.{Bool, true, false}
use lib.Dec.{T, ltb, lt→ltb, lit<}
use lib.Pow.{pow-add, pow_pos, pow_mono, shl_lt}
use lib.Count.{count_leading_zeros}
use lib.Ieee.{Float, nan, inf, fin, binary64, up, down, fits, size, units, to_bits, of_bits}
use lib.Ieee.Exact.{HasValue, units_val}
use lib.Ieee.Bits.{of_bits-to_bits}
use lib.Ieee.Positive.{positive, positive_of_value}
use borrow.Author.Tests.{ltb-true, ltb-false}
use Rattle.float.specs.Root.{in_units, nearest_root, root_of, root}
use Rattle.float.specs.Nearest.{number, square, Nearest, IsRoot}
use Rattle.float.proofs.RootWhole.{Near}
use Rattle.float.proofs.RootScaled.{four, even_lo, even_hi, scaled, root_scaled, root_lo, root_hi, near, bits_of, within, units_held}
use Rattle.float.proofs.RootRead.{shifted, units_of, root_of_lem, read_low, high_value, high_small, high_scaled, low_above, low_scaled}

-- ---- the squares of the middles, for a root q * P of M * P²
module _ (M q P : ℕ) (near : Near M q) (some : 0 < P) where
  -- u is 2q - 1, and v is 2q + 1
  inner : (u : ℕ) → u + 1 ≡ 2 * q → u * u < 4 * M
  inner u e = omega (arith, ap (λ (z : ℕ). z * z) e)

  outer : 4 * M < (2 * q + 1) * (2 * q + 1)
  outer = omega arith

  pub lower_middle : (Y : ℕ) → 0 < q → Y + P ≤ q * P → (Y + q * P) * (Y + q * P) < 4 * (M * (P * P))
  lower_middle Y Q h =
      let u = 2 * q - 1 in
      let e : u + 1 ≡ 2 * q = omega arith in
      let b : Y + q * P ≤ u * P = omega (arith, ap (λ (z : ℕ). z * P) e) in
      lt_of_le_of_lt (mul-le-mul b b) (subst (λ (z : ℕ). z < 4 * (M * (P * P))) (omega arith) (subst (λ (z : ℕ). u * u * (P * P) < z) (omega arith) (mul-lt-mul_of_pos_right (inner u e) (squared P some))))
    where
      squared : (P : ℕ) → 0 < P → 0 < P * P
      squared P h = mul-le-mul h h

  pub higher_middle : (Y : ℕ) → q * P + P ≤ Y → 4 * (M * (P * P)) < (q * P + Y) * (q * P + Y)
  higher_middle Y h =
      let v = 2 * q + 1 in
      let b : v * P ≤ q * P + Y = omega arith in
      lt_of_lt_of_le (subst (λ (z : ℕ). 4 * (M * (P * P)) < z) (omega arith) (subst (λ (z : ℕ). z < v * v * (P * P)) (omega arith) (mul-lt-mul_of_pos_right outer (mul-le-mul some some)))) (mul-le-mul b b)

  -- where q² is at most M, any lower number will do
  pub any_lower : (Y : ℕ) → q * q ≤ M → Y < q * P → (Y + q * P) * (Y + q * P) < 4 * (M * (P * P))
  any_lower Y h l =
      let b : Y + q * P + 1 ≤ 2 * (q * P) = omega arith in
      lt_of_lt_of_le {m = 2 * (q * P) * (2 * (q * P))} (omega (arith, mul-le-mul b b)) (subst (λ (z : ℕ). z ≤ 4 * (M * (P * P))) (omega arith) (mul-le-mul_left 4 (mul-le-mul_right (P * P) h)))

-- ---- numbers of 53 digits: from 2^52 * 2^h up they are multiples of 2^h
multiple : (c j h : ℕ) → c < 2 ^ 53 → 2 ^ 52 * 2 ^ h ≤ c * 2 ^ j → (d : ℕ) × (c * 2 ^ j ≡ d * 2 ^ h)
multiple c j h C l = go (ltb j h) refl
  where
    short : j < h → ⊥
    short g = lt_irrefl (c * 2 ^ j) (lt_of_lt_of_le (shl_lt 53 j C) (le_trans (pow_mono {i = 53 + j} {j = 52 + h} (omega arith)) (subst (λ (z : ℕ). z ≤ c * 2 ^ j) (sym (pow-add 2 52 h)) l)))

    go : (b : Bool) → ltb j h ≡ b → (d : ℕ) × (c * 2 ^ j ≡ d * 2 ^ h)
    go true e = absurd (short (ltb-true j h e))
    go false e = (c * 2 ^ (j - h), ap (λ (z : ℕ). c * 2 ^ z) (parts j h (ltb-false j h e)) ∙ ap (λ (z : ℕ). c * z) (pow-add 2 (j - h) h) ∙ sym (mul_assoc c (2 ^ (j - h)) (2 ^ h)))
      where
        parts : (j h : ℕ) → h ≤ j → j ≡ j - h + h
        parts j h g = omega arith

step : (d q P : ℕ) → d * P < q * P → d * P + P ≤ q * P
step d q P h = omega (arith, mul-le-mul_right P (lt_of_mul-lt-mul_right P h))

-- ---- every number of the format is c * 2^j units, with c of 53 digits at most
pub record Parts (y : Float) : Type 0 where
  pub digits : ℕ
  pub exponent : ℕ
  pub few : digits < 2 ^ 53
  pub small : exponent ≤ 2045
  pub value : HasValue y false (digits * 2 ^ exponent) (2 ^ 1074)

positive_parts : (y : Float) → T (positive y) → T (fits binary64 y) → Parts y
positive_parts y p f = go (ltb (to_bits binary64 y) (2 ^ 52)) refl
  where
    go : (b : Bool) → ltb (to_bits binary64 y) (2 ^ 52) ≡ b → Parts y
    go true e =
        let l = ltb-true (to_bits binary64 y) (2 ^ 52) e in
        record {
          digits = to_bits binary64 y;
          exponent = 0;
          few = omega arith;
          small = omega arith;
          value = subst (λ (n : ℕ). HasValue y false n (2 ^ 1074)) (sym (mul-one (to_bits binary64 y))) (read_low y p f (to_bits binary64 y) refl l);
        }
    go false e =
        let v = high_value y p f (to_bits binary64 y) refl (ltb-false (to_bits binary64 y) (2 ^ 52) e) in
        record { digits = 2 ^ 52 + to_bits binary64 y % 2 ^ 52; exponent = v.0; few = omega arith; small = v.1; value = v.2 }

pub parts : (y : Float) → T (number y) → Parts y
parts nan n = absurd n
parts (inf s) n = absurd n
parts (fin true m e) n = absurd n
parts (fin false zero e) n = record { digits = 0; exponent = 0; few = omega arith; small = omega arith; value = (refl, none (up e) (down e)) }
  where
    none : (u d : ℕ) → 0 * u * 2 ^ 1074 ≡ 0 * 2 ^ 0 * d
    none u d = ap (λ (z : ℕ). z * 2 ^ 1074) (zero-mul u) ∙ zero-mul (2 ^ 1074) ∙ sym (zero-mul d)
parts (fin false (suc m) e) n = positive_parts (fin false (suc m) e) (lt→ltb 0 (suc m) (omega arith)) n

-- ---- a root, in parts
module _ (w M q h : ℕ) (close : Near M q) (is : w ≡ M * (2 ^ h * 2 ^ h)) (lo : 2 ^ 52 ≤ q) (large : 2 ^ 52 * 2 ^ 52 ≤ M) (Y : ℕ) where
  lower_side : (c j : ℕ) → c < 2 ^ 53 → Y ≡ c * 2 ^ j → Y < q * 2 ^ h → (Y + q * 2 ^ h) * (Y + q * 2 ^ h) < 4 * w
  lower_side c j C e l = subst (λ (z : ℕ). (Y + q * 2 ^ h) * (Y + q * 2 ^ h) < 4 * z) (sym is) (go (ltb Y (2 ^ 52 * 2 ^ h)) refl (ltb (2 ^ 52) q) refl)
    where
      go : (b : Bool) → ltb Y (2 ^ 52 * 2 ^ h) ≡ b → (a : Bool) → ltb (2 ^ 52) q ≡ a → (Y + q * 2 ^ h) * (Y + q * 2 ^ h) < 4 * (M * (2 ^ h * 2 ^ h))
      go true s true t =
          let n = ltb-true Y (2 ^ 52 * 2 ^ h) s in
          lower_middle M q (2 ^ h) close (pow_pos h) Y (omega arith) (omega (arith, mul-le-mul_right (2 ^ h) (ltb-true (2 ^ 52) q t)))
      go true s false t = any_lower M q (2 ^ h) close (pow_pos h) Y (le_trans (mul-le-mul (ltb-false (2 ^ 52) q t) (ltb-false (2 ^ 52) q t)) large) l
      go false s a t =
          let m = multiple c j h C (subst (λ (z : ℕ). 2 ^ 52 * 2 ^ h ≤ z) e (ltb-false Y (2 ^ 52 * 2 ^ h) s)) in
          let y : Y ≡ m.0 * 2 ^ h = e ∙ m.1 in
          lower_middle M q (2 ^ h) close (pow_pos h) Y (omega arith) (subst (λ (z : ℕ). z + 2 ^ h ≤ q * 2 ^ h) (sym y) (step m.0 q (2 ^ h) (subst (λ (z : ℕ). z < q * 2 ^ h) y l)))

  higher_side : (c j : ℕ) → c < 2 ^ 53 → Y ≡ c * 2 ^ j → q * 2 ^ h < Y → 4 * w < (q * 2 ^ h + Y) * (q * 2 ^ h + Y)
  higher_side c j C e l =
      let m = multiple c j h C (subst (λ (z : ℕ). 2 ^ 52 * 2 ^ h ≤ z) e (omega (arith, mul-le-mul_right (2 ^ h) lo))) in
      let y : Y ≡ m.0 * 2 ^ h = e ∙ m.1 in
      subst (λ (z : ℕ). 4 * z < (q * 2 ^ h + Y) * (q * 2 ^ h + Y)) (sym is)
      (higher_middle M q (2 ^ h) close (pow_pos h) Y (subst (λ (z : ℕ). q * 2 ^ h + 2 ^ h ≤ z) (sym y) (step q m.0 (2 ^ h) (subst (λ (z : ℕ). q * 2 ^ h < z) y l))))

-- ---- a number above zero, as c * 2^j with c of 53 digits
record Scale (x : Float) : Type 0 where
  c : ℕ
  j : ℕ
  lo : 2 ^ 52 ≤ c
  hi : c < 2 ^ 53
  low : 52 ≤ j
  high : j ≤ 3119
  is : c * 2 ^ j ≡ in_units x * 2 ^ 1074

scale : (x : Float) → T (positive x) → T (fits binary64 x) → Scale x
scale x p f = go (ltb (to_bits binary64 x) (2 ^ 52)) refl
  where
    go : (t : Bool) → ltb (to_bits binary64 x) (2 ^ 52) ≡ t → Scale x
    go true e =
        let b = to_bits binary64 x in
        let h : b < 2 ^ 52 = ltb-true b (2 ^ 52) e in
        let z = count_leading_zeros 64 b - 11 in
        let s = shifted b (low_above x p f b refl h) h in
        record {
          c = b * 2 ^ z;
          j = 1074 - z;
          lo = s.lower;
          hi = s.upper;
          low = omega (arith, s.few);
          high = omega arith;
          is = low_scaled x p f b refl h;
        }
    go false e =
        let b = to_bits binary64 x in
        let h : 2 ^ 52 ≤ b = ltb-false b (2 ^ 52) e in
        record {
          c = b % 2 ^ 52 + 2 ^ 52;
          j = b / 2 ^ 52 + 1073;
          lo = omega arith;
          hi = omega arith;
          low = omega arith;
          high = omega (arith, high_small x p f b refl h);
          is = high_scaled x p f b refl h;
        }

-- ---- the root of a number above zero
module _ (x : Float) (p : T (positive x)) (f : T (fits binary64 x)) where
  pub record At : Type 0 where
    pub M : ℕ
    pub q : ℕ
    pub h : ℕ
    pub close : Near M q
    pub whole : in_units x * 2 ^ 1074 ≡ M * (2 ^ h * 2 ^ h)
    pub lo : 2 ^ 52 ≤ q
    pub hi : q < 2 ^ 53
    pub large : 2 ^ 52 * 2 ^ 52 ≤ M
    small : h ≤ 1534
    pub made : root x ≡ units binary64 false q h

  pub at : At
  at =
      let s = scale x p f in
      let j = s.j in
      let h = (j - 52) / 2 in
      let o = j % 2 in
      let O : o < 2 = omega arith in
      let J : j ≡ 52 + (h + h) + o = omega (arith, s.low) in
      let C = s.c * (1 + o) in
      let lo = even_lo s.c h s.lo s.hi o O in
      let hi = even_hi s.c h s.lo s.hi o O in
      record {
        M = C * 2 ^ 52;
        q = nearest_root (C * 2 ^ 52);
        h = h;
        close = near C lo hi;
        whole = sym s.is ∙ scaled s.c h s.lo s.hi o j O J ∙ ap (λ (z : ℕ). C * 2 ^ 52 * z) (four h);
        lo = root_lo C lo hi;
        hi = root_hi C lo hi;
        large = mul-le-mul_right (2 ^ 52) lo;
        small = omega (arith, s.high);
        made = sym (root_of_lem x p) ∙ ap root_of (sym s.is) ∙ root_scaled s.c h s.lo s.hi o j O J;
      }

  value : HasValue (root x) false (at.q * 2 ^ at.h) (2 ^ 1074)
  value = subst (λ (r : Float). HasValue r false (at.q * 2 ^ at.h) (2 ^ 1074)) (sym at.made) (units_val binary64 false at.q at.h (within at.q at.h at.hi at.small))

  R_is : in_units (root x) ≡ at.q * 2 ^ at.h
  R_is = units_of (root x) false (at.q * 2 ^ at.h) value

  pub root_positive : T (positive (root x))
  root_positive = positive_of_value (root x) (at.q * 2 ^ at.h) (2 ^ 1074) value (mul-pos (lt_of_lt_of_le (lit< tt) at.lo) (pow_pos at.h))

  root_nearest : Nearest (in_units x * 2 ^ 1074) (root x)
  root_nearest = record {
    held = subst (λ (r : Float). T (fits binary64 r)) (sym at.made) (units_held at.q at.h at.hi at.small);
    above_zero = root_positive;
    to_lower = λ y n l.
        let v = parts y n in
        subst (λ (R : ℕ). square (in_units y + R) < 4 * (in_units x * 2 ^ 1074)) (sym R_is)
        (lower_side (in_units x * 2 ^ 1074) at.M at.q at.h at.close at.whole at.lo at.large (in_units y) v.digits v.exponent v.few (units_of y false (v.digits * 2 ^ v.exponent) v.value) (subst (λ (R : ℕ). in_units y < R) R_is l));
    to_higher = λ y n l.
        let v = parts y n in
        subst (λ (R : ℕ). 4 * (in_units x * 2 ^ 1074) < square (R + in_units y)) (sym R_is)
        (higher_side (in_units x * 2 ^ 1074) at.M at.q at.h at.close at.whole at.lo at.large (in_units y) v.digits v.exponent v.few (units_of y false (v.digits * 2 ^ v.exponent) v.value) (subst (λ (R : ℕ). R < in_units y) R_is l));
  }

  -- ---- what the laws of a quotient by the root ask (proofs/RootBounds.antt)
  pub root_value : HasValue (root x) false (in_units (root x)) (2 ^ 1074)
  root_value = rw R_is value

  -- half of x is at most the square
  pub root_square : in_units x * 2 ^ 1074 ≤ 2 * (in_units (root x) * in_units (root x))
  root_square = rw (at.whole, R_is) (half_square at.M at.q (2 ^ at.h) at.close (lt_of_lt_of_le (lit< tt) at.lo))
    where
      half_square : (M q P : ℕ) → Near M q → 0 < q → M * (P * P) ≤ 2 * (q * P * (q * P))
      half_square M q P n Q = omega (arith, mul-le-mul_right (P * P) (twice M q n Q))
        where
          twice : (M q : ℕ) → Near M q → 0 < q → M ≤ 2 * (q * q)
          twice M q n Q = omega (arith, mul-le-mul_left q Q)

-- ---- there is one
same_bits : (r t : Float) → T (positive r) → T (fits binary64 r) → T (positive t) → T (fits binary64 t) → in_units r ≡ in_units t → r ≡ t
same_bits r t p f g h e =
    let a = positive_parts r p f in
    let b = positive_parts t g h in
    let m = a.digits * 2 ^ a.exponent in
    let n = b.digits * 2 ^ b.exponent in
    let same : m ≡ n = sym (units_of r false m a.value) ∙ e ∙ units_of t false n b.value in
    sym (of_bits-to_bits binary64 r f)
    ∙ ap (of_bits binary64) (bits_of r m a.value ∙ ap (λ (z : ℕ). (size z - 53) * 2 ^ 52 + z / 2 ^ (size z - 53)) same ∙ sym (bits_of t n b.value))
    ∙ of_bits-to_bits binary64 t h

pub a_number : (r : Float) → T (positive r) → T (fits binary64 r) → T (number r)
a_number nan p f = p
a_number (inf s) p f = p
a_number (fin true m e) p f = p
a_number (fin false m e) p f = f

-- of two of them none is the lower: the root would be on either side of their middle
no_lower : (w : ℕ) (r t : Float) → Nearest w r → Nearest w t → in_units r < in_units t → ⊥
no_lower w r t n o l = lt_irrefl (4 * w) (lt_trans (n.to_higher t (a_number t o.above_zero o.held) l) (o.to_lower r (a_number r n.above_zero n.held) l))

nearest_one : (w : ℕ) (r t : Float) → Nearest w r → Nearest w t → r ≡ t
nearest_one w r t n o =
    same_bits r t n.above_zero n.held o.above_zero o.held
    (le_antisymm (le_of_suc-le-suc (lt_of_not-le (λ (l : in_units t < in_units r). no_lower w t r o n l))) (le_of_suc-le-suc (lt_of_not-le (λ (l : in_units r < in_units t). no_lower w r t n o l))))

-- ---- on every float
pub root_is : (x : Float) → T (fits binary64 x) → IsRoot x (root x)
unfolding root
root_is nan f = refl
root_is (inf true) f = refl
root_is (inf false) f = refl
root_is (fin s zero e) f = refl
root_is (fin true (suc m) e) f = refl
root_is (fin false (suc m) e) f = root_nearest (fin false (suc m) e) (lt→ltb 0 (suc m) (omega arith)) f

pub root_one : (x r t : Float) → IsRoot x r → IsRoot x t → r ≡ t
root_one nan r t p q = p ∙ sym q
root_one (inf true) r t p q = p ∙ sym q
root_one (inf false) r t p q = p ∙ sym q
root_one (fin s zero e) r t p q = p ∙ sym q
root_one (fin true (suc m) e) r t p q = p ∙ sym q
root_one (fin false (suc m) e) r t p q = nearest_one (in_units (fin false (suc m) e) * 2 ^ 1074) r t p q
