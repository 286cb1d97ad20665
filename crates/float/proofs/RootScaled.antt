-- The root of c * 2^j for a c of 53 digits: half of the twos come out of the root, and what `units` writes is a number of the format.
-- Assumes nothing.
use mathlib.Core.Path.{◌≡◌, refl, sym, ap, ◌∙◌, subst}
use Prim.Native.Nat.{ℕ, zero, suc, ◌+◌, ◌-◌, ◌*◌, ◌/◌, ◌^◌, ◌≤◌, ◌<◌}
use native.Mathlib.Nat.{zero-add, le_trans, le_antisymm, le_of_suc-le-suc, lt_of_not-le, lt_of_lt_of_le, lt_irrefl, zero-lt-suc, one-le-pow, mul-le-mul_right, mul-le-mul_left, mul-div_cancel, pow-suc}
use native.Mathlib.Omega.{arith}
use mathlib.Core.Bool.{Bool, true, false, cond}
use lib.Pow.{pow-add, pow_mono, shl_lt}
use lib.Dec.{T}
use lib.Ieee.{Float, nan, inf, fin, binary64, down, fits, size, units, odd, to_bits}
use lib.Ieee.Digits.{size-lt, size-le}
use lib.Ieee.Exact.{HasValue}
use lib.Ieee.Fits.{odd-fits, down_pos}
use borrow.Author.Tests.{lt-ltb}
use Rattle.float.proofs.Order.{clash}
use Rattle.float.specs.Root.{nearest_root, root_of}
use Rattle.float.proofs.RootWhole.{Near, nearest_near}

-- ---- digits
pub size_is : (n a : ℕ) → 2 ^ a ≤ n → n < 2 ^ suc a → size n ≡ suc a
size_is n a lo hi = le_antisymm (size-le n (suc a) hi) (lt_of_not-le (λ (g : size n ≤ a). lt_irrefl n (lt_of_lt_of_le (size-lt n) (le_trans (pow_mono g) lo))))

size_shifted : (c j : ℕ) → 2 ^ 52 ≤ c → c < 2 ^ 53 → size (c * 2 ^ j) ≡ suc (52 + j)
size_shifted c j lo hi =
    size_is (c * 2 ^ j) (52 + j) (subst (λ (z : ℕ). z ≤ c * 2 ^ j) (sym (pow-add 2 52 j)) (mul-le-mul_right (2 ^ j) lo))
    (subst (λ (z : ℕ). c * 2 ^ j < 2 ^ z) (add_more j) (shl_lt 53 j hi))
  where
    add_more : (j : ℕ) → 53 + j ≡ suc (52 + j)
    add_more j = omega arith

pub four : (k : ℕ) → 4 ^ k ≡ 2 ^ k * 2 ^ k
four zero = refl
four (suc k) = pow-suc 4 k ∙ ap (λ (z : ℕ). z * 4) (four k) ∙ twice (2 ^ k) (2 ^ suc k) (pow-suc 2 k)
  where
    twice : (p d : ℕ) → d ≡ p * 2 → p * p * 4 ≡ d * d
    twice p d e = omega (arith, ap (λ (z : ℕ). z * z) e)

-- ---- c * 2^j, with j even or odd: 2^52 of it make c a number of 105 or 106 digits, an odd 2 goes to c, and the others are 4^h
module _ (c h : ℕ) (lo : 2 ^ 52 ≤ c) (hi : c < 2 ^ 53) where
  last_two : (o p : ℕ) → o < 2 → c * (2 ^ 52 * (p * p) * 2 ^ o) ≡ c * (1 + o) * 2 ^ 52 * (p * p)
  last_two zero p O = omega arith
  last_two (suc zero) p O = omega arith
  last_two (suc (suc o)) p O = absurd (lt_irrefl 0 (omega arith))

  pub even_lo : (o : ℕ) → o < 2 → 2 ^ 52 ≤ c * (1 + o)
  even_lo zero O = omega arith
  even_lo (suc zero) O = omega arith
  even_lo (suc (suc o)) O = absurd (lt_irrefl 0 (omega arith))

  pub even_hi : (o : ℕ) → o < 2 → c * (1 + o) ≤ 2 ^ 54 - 2
  even_hi zero O = omega arith
  even_hi (suc zero) O = omega arith
  even_hi (suc (suc o)) O = absurd (lt_irrefl 0 (omega arith))

  module _ (o j : ℕ) (O : o < 2) (J : j ≡ 52 + (h + h) + o) where
    pub scaled : c * 2 ^ j ≡ c * (1 + o) * 2 ^ 52 * 4 ^ h
    scaled =
        ap (λ (z : ℕ). c * 2 ^ z) J
        ∙ ap (λ (z : ℕ). c * z) (pow-add 2 (52 + (h + h)) o ∙ ap (λ (z : ℕ). z * 2 ^ o) (pow-add 2 52 (h + h) ∙ ap (λ (z : ℕ). 2 ^ 52 * z) (pow-add 2 h h)))
        ∙ last_two o (2 ^ h) O
        ∙ ap (λ (z : ℕ). c * (1 + o) * 2 ^ 52 * z) (sym (four h))

    dropped : (size (c * 2 ^ j) + 1) / 2 - 53 ≡ h
    dropped = omega (arith, size_shifted c j lo hi)

    whole : c * 2 ^ j / 4 ^ h ≡ c * (1 + o) * 2 ^ 52
    whole = ap (λ (z : ℕ). z / 4 ^ h) scaled ∙ mul-div_cancel (c * (1 + o) * 2 ^ 52) (one-le-pow h 4 (zero-lt-suc 3))

    pub root_scaled : root_of (c * 2 ^ j) ≡ units binary64 false (nearest_root (c * (1 + o) * 2 ^ 52)) h
    unfolding root_of
    root_scaled = ap (λ (k : ℕ). units binary64 false (nearest_root (c * 2 ^ j / 4 ^ k)) k) dropped ∙ ap (λ (z : ℕ). units binary64 false (nearest_root z) h) whole

-- ---- a root has 53 digits
module _ (c : ℕ) (lo : 2 ^ 52 ≤ c) (hi : c ≤ 2 ^ 54 - 2) where
  pub near : Near (c * 2 ^ 52) (nearest_root (c * 2 ^ 52))
  near = nearest_near (c * 2 ^ 52) (omega arith) (omega arith)

  digits_lo : (q : ℕ) → Near (c * 2 ^ 52) q → 2 ^ 52 ≤ q
  digits_lo q n = le_of_suc-le-suc (lt_of_not-le (λ (g : suc q ≤ 2 ^ 52). lt_irrefl 0 (omega (arith, mul-le-mul_left q g))))

  digits_hi : (q : ℕ) → Near (c * 2 ^ 52) q → q < 2 ^ 53
  digits_hi q n = lt_of_not-le (λ (g : 2 ^ 53 ≤ q). lt_irrefl 0 (omega (arith, mul-le-mul_right q g)))

  pub root_lo : 2 ^ 52 ≤ nearest_root (c * 2 ^ 52)
  root_lo = digits_lo (nearest_root (c * 2 ^ 52)) near

  pub root_hi : nearest_root (c * 2 ^ 52) < 2 ^ 53
  root_hi = digits_hi (nearest_root (c * 2 ^ 52)) near

-- ---- the bits of n units, and q * 2^h units
pub bits_of : (x : Float) (n : ℕ) → HasValue x false n (2 ^ 1074) → to_bits binary64 x ≡ (size n - 53) * 2 ^ 52 + n / 2 ^ (size n - 53)
unfolding to_bits
bits_of nan n v = absurd v
bits_of (inf s) n v = absurd v
bits_of (fin true m e) n v = clash false (sym v.0) refl
bits_of (fin false m e) n v =
    ap (λ (z : ℕ). 0 + (size z - 53) * 2 ^ 52 + z / 2 ^ (size z - 53)) (ap (λ (z : ℕ). z / down e) v.1 ∙ mul-div_cancel n (down_pos e))
    ∙ ap (λ (z : ℕ). z + n / 2 ^ (size n - 53)) (zero-add ((size n - 53) * 2 ^ 52))

module _ (q h : ℕ) (hi : q < 2 ^ 53) (H : h ≤ 1534) where
  pub within : q * 2 ^ h < 2 ^ (1074 + 1024)
  within = lt_of_lt_of_le (shl_lt 53 h hi) (pow_mono {i = 53 + h} {j = 1074 + 1024} (omega arith))

  units_odd : units binary64 false q h ≡ odd 54 false q h 1074
  unfolding units
  units_odd = ap (λ (b : Bool). cond b (odd 54 false q h 1074) (inf false)) (lt-ltb (q * 2 ^ h) (2 ^ (1074 + 1024)) within)

  pub units_held : T (fits binary64 (units binary64 false q h))
  units_held = rw units_odd (odd-fits binary64 54 false q h (omega arith) (omega arith) within)
