-- A finite number above zero, read from its bits: its sign is clear, its field is below 2047, and the digits and the field say how many units of 2^-1074 it is.
-- Assumes nothing.
use mathlib.Core.Path.{◌≡◌, refl, sym, ap, ◌∙◌, subst}
use Prim.Native.Nat.{ℕ, zero, suc, ◌+◌, ◌-◌, ◌*◌, ◌/◌, ◌%◌, ◌^◌, ◌≤◌, ◌<◌}
use native.Mathlib.Nat.{le_trans, lt_of_not-le, lt_of_lt_of_le, mul-le-mul_right, add_comm, mul_assoc, mul-one, mul-div_cancel, lt_irrefl}
use native.Mathlib.Omega.{arith}
use mathlib.Core.Bool.{Bool, true, false, cond}
use lib.Dec.{T, leb, eqb}
use lib.Pow.{pow-add, pow_pos, pow_mono, shl_lt}
use lib.Count.{count_leading_zeros, leading_top}
use lib.Ieee.{Float, nan, inf, fin, binary64, down, fits, odd, to_bits, of_bits, of_fields}
use lib.Ieee.Exact.{HasValue, odd_sign}
use lib.Ieee.Fits.{down_pos}
use lib.Ieee.Bits.{of_bits-to_bits}
use lib.Ieee.Positive.{positive, value_pos}
use borrow.Author.Tests.{leb-false, eqb-false}
use Rattle.float.specs.Root.{in_units, root_of, root}

-- ---- what is n units
pub units_of : (x : Float) (s : Bool) (n : ℕ) → HasValue x s n (2 ^ 1074) → in_units x ≡ n
units_of nan s n v = absurd v
units_of (inf t) s n v = absurd v
units_of (fin t m e) s n v = ap (λ (z : ℕ). z / down e) v.1 ∙ mul-div_cancel n (down_pos e)

pub root_of_lem : (x : Float) → T (positive x) → root_of (in_units x * 2 ^ 1074) ≡ root x
unfolding root
root_of_lem nan p = absurd p
root_of_lem (inf s) p = absurd p
root_of_lem (fin true m e) p = absurd p
root_of_lem (fin false zero e) p = absurd p
root_of_lem (fin false (suc m) e) p = refl

-- ---- the fields
-- a positive number's sign is clear
sign : (x : Float) (s : Bool) (n d : ℕ) → T (positive x) → HasValue x s n d → s ≡ false
sign nan s n d p v = absurd p
sign (inf t) s n d p v = absurd p
sign (fin true m e) s n d p v = absurd p
sign (fin false m e) s n d p v = sym v.0

record Fields (x : Float) (s : Bool) (n : ℕ) : Type 0 where
  clear : s ≡ false
  value : HasValue x false n (2 ^ 1074)

fields : (x : Float) (s : Bool) (n : ℕ) → T (positive x) → HasValue x s n (2 ^ 1074) → Fields x s n
fields x s n p v = let c = sign x s n (2 ^ 1074) p v in record { clear = c; value = subst (λ (t : Bool). HasValue x t n (2 ^ 1074)) c v }

low : (x : Float) (s : Bool) (t : ℕ) → T (positive x) → of_fields binary64 s 0 t ≡ x → Fields x s t
unfolding of_fields
low x s t p e = fields x s t p (subst (λ (y : Float). HasValue y s t (2 ^ 1074)) e (subst (λ (n : ℕ). HasValue (odd 53 s t 0 1074) s n (2 ^ 1074)) (mul-one t) (odd_sign 53 s t 0 1074)))

-- the field 2047 is that of an infinity or a NaN
special : (x : Float) (s b : Bool) → T (positive x) → cond b (inf s) nan ≡ x → ⊥
special x s true p e = subst (λ (y : Float). T (positive y)) (sym e) p
special x s false p e = subst (λ (y : Float). T (positive y)) (sym e) p

high : (x : Float) (s : Bool) (k t : ℕ) → T (positive x) → of_fields binary64 s (suc k) t ≡ x → Fields x s ((2 ^ 52 + t) * 2 ^ k) × (suc k ≡ 2047 → ⊥)
unfolding of_fields
high x s k t p e = go (eqb (suc k) 2047) refl e
  where
    go : (b : Bool) → eqb (suc k) 2047 ≡ b → cond b (cond (eqb t 0) (inf s) nan) (odd 53 s (2 ^ 52 + t) k 1074) ≡ x → Fields x s ((2 ^ 52 + t) * 2 ^ k) × (suc k ≡ 2047 → ⊥)
    go true q e = absurd (special x s (eqb t 0) p e)
    go false q e = (fields x s ((2 ^ 52 + t) * 2 ^ k) p (subst (λ (y : Float). HasValue y s ((2 ^ 52 + t) * 2 ^ k) (2 ^ 1074)) e (odd_sign 53 s (2 ^ 52 + t) k 1074)), eqb-false (suc k) 2047 q)

-- ---- a number of less than 53 digits, shifted until they are 53
pub record Shifted (b z : ℕ) : Type 0 where
  pub few : z ≤ 52
  pub lower : 2 ^ 52 ≤ b * 2 ^ z
  pub upper : b * 2 ^ z < 2 ^ 53

shift_by : (b j z : ℕ) → 2 ^ j ≤ b → b < 2 ^ suc j → j + z ≡ 52 → Shifted b z
shift_by b j z lo hi e =
    record {
      few = omega arith;
      lower = subst (λ (n : ℕ). n ≤ b * 2 ^ z) (sym (pow-add 2 j z) ∙ ap (λ (n : ℕ). 2 ^ n) e) (mul-le-mul_right (2 ^ z) lo);
      upper = subst (λ (n : ℕ). b * 2 ^ z < 2 ^ n) (up_one j z e) (shl_lt {a = b} (suc j) z hi);
    }
  where
    up_one : (j z : ℕ) → j + z ≡ 52 → suc j + z ≡ 53
    up_one j z e = omega arith

module _ (b : ℕ) (pos : 0 < b) (h : b < 2 ^ 52) where
  top : (j : ℕ) × (count_leading_zeros 64 b + suc j ≡ 64) × (2 ^ j ≤ b) × (b < 2 ^ suc j)
  top = leading_top 64 b pos (omega arith)

  below : top.0 < 52
  below = lt_of_not-le (λ (g : 52 ≤ top.0). lt_irrefl b (lt_of_lt_of_le h (le_trans (pow_mono g) top.2)))

  pub shifted : Shifted b (count_leading_zeros 64 b - 11)
  shifted = shift_by b top.0 (count_leading_zeros 64 b - 11) top.2 top.3 (omega (arith, top.1, below))

-- ---- the bits
module _ (x : Float) (p : T (positive x)) (f : T (fits binary64 x)) (b : ℕ) (is : b ≡ to_bits binary64 x) where
  read : of_fields binary64 (leb 0x8000_0000_0000_0000 b) (b % 0x8000_0000_0000_0000 / 0x10_0000_0000_0000) (b % 0x10_0000_0000_0000) ≡ x
  unfolding of_bits
  read = ap (λ (z : ℕ). of_bits binary64 z) is ∙ of_bits-to_bits binary64 x f

  at_field : (n : ℕ) → b % 0x8000_0000_0000_0000 / 0x10_0000_0000_0000 ≡ n → of_fields binary64 (leb 0x8000_0000_0000_0000 b) n (b % 0x10_0000_0000_0000) ≡ x
  at_field n e = subst (λ (z : ℕ). of_fields binary64 (leb 0x8000_0000_0000_0000 b) z (b % 0x10_0000_0000_0000) ≡ x) e read

  pub read_low : b < 2 ^ 52 → HasValue x false b (2 ^ 1074)
  read_low h = subst (λ (n : ℕ). HasValue x false n (2 ^ 1074)) (omega arith) (low x (leb 0x8000_0000_0000_0000 b) (b % 0x10_0000_0000_0000) p (at_field 0 (omega arith))).value

  record High : Type 0 where
    exponent : ℕ
    is_field : b / 2 ^ 52 ≡ suc exponent
    small : b / 2 ^ 52 < 2047
    value : HasValue x false ((2 ^ 52 + b % 2 ^ 52) * 2 ^ exponent) (2 ^ 1074)

  read_high : 2 ^ 52 ≤ b → High
  read_high h = go (b % 0x8000_0000_0000_0000 / 0x10_0000_0000_0000) refl
    where
      go : (n : ℕ) → b % 0x8000_0000_0000_0000 / 0x10_0000_0000_0000 ≡ n → High
      go zero e =
          let s : b < 0x8000_0000_0000_0000 = leb-false 0x8000_0000_0000_0000 b (low x (leb 0x8000_0000_0000_0000 b) (b % 0x10_0000_0000_0000) p (at_field 0 e)).clear in
          absurd (lt_irrefl 0 (omega arith))
      go (suc k) e =
          let w = high x (leb 0x8000_0000_0000_0000 b) k (b % 0x10_0000_0000_0000) p (at_field (suc k) e) in
          let s : b < 0x8000_0000_0000_0000 = leb-false 0x8000_0000_0000_0000 b w.0.clear in
          let n : suc k ≡ 2047 → ⊥ = w.1 in
          record { exponent = k; is_field = omega arith; small = omega arith; value = w.0.value }

  -- a normal number: 2^52 and its digits, at its field
  pub high_small : 2 ^ 52 ≤ b → b / 2 ^ 52 < 2047
  high_small h = (read_high h).small

  pub high_value : (h : 2 ^ 52 ≤ b) → (k : ℕ) × (k ≤ 2045) × HasValue x false ((2 ^ 52 + b % 2 ^ 52) * 2 ^ k) (2 ^ 1074)
  high_value h = let r = read_high h in (r.exponent, omega (arith, r.is_field, r.small), r.value)

  pub high_scaled : 2 ^ 52 ≤ b → (b % 2 ^ 52 + 2 ^ 52) * 2 ^ (b / 2 ^ 52 + 1073) ≡ in_units x * 2 ^ 1074
  high_scaled h =
      let r = read_high h in
      let k = r.exponent in
      ap (λ (z : ℕ). (b % 2 ^ 52 + 2 ^ 52) * 2 ^ z) (exponents (b / 2 ^ 52) k r.is_field)
      ∙ ap (λ (z : ℕ). (b % 2 ^ 52 + 2 ^ 52) * z) (pow-add 2 k 1074)
      ∙ sym (mul_assoc (b % 2 ^ 52 + 2 ^ 52) (2 ^ k) (2 ^ 1074))
      ∙ ap (λ (z : ℕ). z * 2 ^ k * 2 ^ 1074) (add_comm (b % 2 ^ 52) (2 ^ 52))
      ∙ ap (λ (z : ℕ). z * 2 ^ 1074) (sym (units_of x false ((2 ^ 52 + b % 2 ^ 52) * 2 ^ k) r.value))
    where
      exponents : (n k : ℕ) → n ≡ suc k → n + 1073 ≡ k + 1074
      exponents n k e = omega arith

  -- a subnormal number: its digits alone
  pub low_above : b < 2 ^ 52 → 0 < b
  low_above h = value_pos x b (2 ^ 1074) p (pow_pos 1074) (read_low h)

  pub low_scaled : (h : b < 2 ^ 52) → b * 2 ^ (count_leading_zeros 64 b - 11) * 2 ^ (1074 - (count_leading_zeros 64 b - 11)) ≡ in_units x * 2 ^ 1074
  low_scaled h =
      let s = shifted b (low_above h) h in
      let z = count_leading_zeros 64 b - 11 in
      mul_assoc b (2 ^ z) (2 ^ (1074 - z))
      ∙ ap (λ (n : ℕ). b * n) (sym (pow-add 2 z (1074 - z)))
      ∙ ap (λ (n : ℕ). b * 2 ^ n) (whole z s.few)
      ∙ ap (λ (n : ℕ). n * 2 ^ 1074) (sym (units_of x false b (read_low h)))
    where
      whole : (z : ℕ) → z ≤ 52 → z + (1074 - z) ≡ 1074
      whole z h = omega arith
