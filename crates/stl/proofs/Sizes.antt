-- The order of binary32's patterns without their signs is that of the numbers' sizes: one is at most 2^j just where its pattern is at most that of 2^j. Infinities and NaNs come last. Assumes nothing.
use mathlib.Core.Path.{◌≡◌, sym, ap, ◌∙◌, subst}
use Prim.Native.Nat.{ℕ, zero, suc, ◌+◌, ◌*◌, ◌/◌, ◌%◌, ◌^◌, ◌≤◌, ◌<◌}
use native.Mathlib.Nat.{mul-le-mul_right, le_of_mul-le-mul_right, mul_right_comm, pow-succ'}
use native.Mathlib.Omega.{arith}
use mathlib.Core.Bool.{Bool, true, false, not, cond}
use mathlib.Core.Logic.{◌⊎◌, inl, inr}
use lib.IntN.{pos}
use lib.Dec.{T, eqb, lit≤}
use lib.Pow.{pow-add, pow_pos, pow_mono}
use lib.Ieee.{Float, nan, inf, fin, binary32, up, down, le, odd, of_fields, of_bits, nan_bits, is_nan}
use lib.Ieee.Bits.{nan_bits_is}
use lib.Ieee.Exact.{HasValue, odd_sign}
use lib.Ieee.Fits.{down_pos}
use borrow.Author.Tests.{ne_eqb}
use Rattle.float.specs.Pick.{magnitude}
use Rattle.float.proofs.Order.{le→under, under→le}
use Rattle.float.proofs.Cases.{low_or_high, same?}

-- ---- the powers: q * 2^k is at most 2^23 * 2^n, where q has its 24th digit set
module _ (k n t : ℕ) (small : t < 8388608) where
  below_power : k < n → (8388608 + t) * 2 ^ k ≤ 8388608 * 2 ^ n
  below_power h =
      let p : 2 ^ suc k ≤ 2 ^ n = pow_mono h in
      let e : 2 ^ suc k ≡ 2 * 2 ^ k = pow-succ' 2 k in
      let s : (8388608 + t) * 2 ^ k ≤ 16777216 * 2 ^ k = mul-le-mul_right (2 ^ k) (omega arith) in
      omega (arith, p, e, s)

  above_power : n < k → 8388608 * 2 ^ n < (8388608 + t) * 2 ^ k
  above_power h =
      let p : 2 ^ suc n ≤ 2 ^ k = pow_mono h in
      let e : 2 ^ suc n ≡ 2 * 2 ^ n = pow-succ' 2 n in
      let s : 8388608 * 2 ^ k ≤ (8388608 + t) * 2 ^ k = mul-le-mul_right (2 ^ k) (omega arith) in
      omega (arith, p, e, s, pow_pos n)

  -- so it is at most 2^23 * 2^n just where the fields in one number are at most those of 2^n
  power→fields : (8388608 + t) * 2 ^ k ≤ 8388608 * 2 ^ n → suc k * 8388608 + t ≤ suc n * 8388608
  power→fields h = go (low_or_high k n) (same? k n)
    where
      level : k ≡ n → t ≡ 0
      level e =
          let h' : (8388608 + t) * 2 ^ k ≤ 8388608 * 2 ^ k = subst (λ (m : ℕ). (8388608 + t) * 2 ^ k ≤ 8388608 * 2 ^ m) (sym e) h in
          let g : 8388608 + t ≤ 8388608 = le_of_mul-le-mul_right h' (pow_pos k) in
          omega (arith, g)

      go : (k < n) ⊎ (n ≤ k) → (k ≡ n) ⊎ (k ≡ n → ⊥) → suc k * 8388608 + t ≤ suc n * 8388608
      go (inl p) q = omega arith
      go (inr p) (inl e) = omega (arith, level e)
      go (inr p) (inr ne) = absurd (go' (low_or_high n k))
        where
          go' : (n < k) ⊎ (k ≤ n) → ⊥
          go' (inl l) = omega (arith, above_power l, h)
          go' (inr l) = ne (omega arith)

  fields→power : suc k * 8388608 + t ≤ suc n * 8388608 → (8388608 + t) * 2 ^ k ≤ 8388608 * 2 ^ n
  fields→power h = go (low_or_high k n)
    where
      level : k ≡ n → t ≡ 0 → (8388608 + t) * 2 ^ k ≤ 8388608 * 2 ^ n
      level p q = rw (p, q) (omega arith)

      go : (k < n) ⊎ (n ≤ k) → (8388608 + t) * 2 ^ k ≤ 8388608 * 2 ^ n
      go (inl p) = below_power p
      go (inr p) = level (omega arith) (omega arith)

-- ---- a value a / c is at most 2^j
module _ (j : ℕ) where
  abbrev limit : Float
  limit = fin false 1 (pos j)

  value→le : (v : Float) (s : Bool) (a c : ℕ) → 0 < c → HasValue v s a c → a ≤ 2 ^ j * c → T (le (magnitude v) limit)
  value→le nan s a c p h q = absurd h
  value→le (inf t) s a c p h q = absurd h
  value→le (fin t m e) s a c p h q =
      let r : a * down e ≤ 2 ^ j * c * down e = mul-le-mul_right (down e) q in
      let w : m * up e * c ≤ 2 ^ j * down e * c = rw (h.1, mul_right_comm (2 ^ j) (down e) c) r in
      let z : m * up e ≤ 2 ^ j * down e = le_of_mul-le-mul_right w p in
      under→le (fin false m e) limit tt tt (omega (arith, z))

  le→value : (v : Float) (s : Bool) (a c : ℕ) → 0 < c → HasValue v s a c → T (le (magnitude v) limit) → a ≤ 2 ^ j * c
  le→value nan s a c p h q = absurd h
  le→value (inf t) s a c p h q = absurd h
  le→value (fin t m e) s a c p h q =
      let z : m * up e ≤ 2 ^ j * down e = omega (arith, le→under (fin false m e) limit tt tt q) in
      let w : m * up e * c ≤ 2 ^ j * down e * c = mul-le-mul_right c z in
      let r : a * down e ≤ 2 ^ j * c * down e = rw (← h.1, mul_right_comm (2 ^ j) c (down e)) w in
      le_of_mul-le-mul_right r (down_pos e)

-- ---- the fields of a pattern
module _ (j : ℕ) (low : j ≤ 127) where
  scale : 2 ^ j * 2 ^ 149 ≡ 8388608 * 2 ^ (j + 126)
  scale = sym (pow-add 2 j 149) ∙ (ap (λ (x : ℕ). 2 ^ x) turn ∙ pow-add 2 23 (j + 126))
    where
      turn : j + 149 ≡ 23 + (j + 126)
      turn = omega arith

  le→fields : (s : Bool) (x t : ℕ) → t < 8388608 → T (le (magnitude (of_fields binary32 s x t)) (limit j)) → x * 8388608 + t ≤ (j + 127) * 8388608
  unfolding of_fields le
  le→fields s zero t h p = omega arith
  le→fields s (suc k) t h p = go (eqb (suc k) 255) p
    where
      none : (c : Bool) → T (le (magnitude (cond c (inf s) nan)) (limit j)) → ⊥
      none true q = q
      none false q = q

      go : (b : Bool) → T (le (magnitude (cond b (cond (eqb t 0) (inf s) nan) (odd 24 s (8388608 + t) k 149))) (limit j)) → suc k * 8388608 + t ≤ (j + 127) * 8388608
      go true q = absurd (none (eqb t 0) q)
      go false q =
          let v : (8388608 + t) * 2 ^ k ≤ 2 ^ j * 2 ^ 149 = le→value j (odd 24 s (8388608 + t) k 149) s ((8388608 + t) * 2 ^ k) (2 ^ 149) (pow_pos 149) (odd_sign 24 s (8388608 + t) k 149) q in
          omega (arith, power→fields k (j + 126) t h (subst (λ (z : ℕ). (8388608 + t) * 2 ^ k ≤ z) scale v))

  fields→le : (s : Bool) (x t : ℕ) → t < 8388608 → x * 8388608 + t ≤ (j + 127) * 8388608 → T (le (magnitude (of_fields binary32 s x t)) (limit j))
  unfolding of_fields
  fields→le s zero t h p = value→le j (odd 24 s t 0 149) s (t * 2 ^ 0) (2 ^ 149) (pow_pos 149) (odd_sign 24 s t 0 149) (tiny (2 ^ j) (2 ^ 149) (pow_pos j) (lit≤ tt))
    where
      tiny : (a c : ℕ) → 0 < a → 8388608 ≤ c → t * 1 ≤ a * c
      tiny a c q r = let m : 1 * c ≤ a * c = mul-le-mul_right c q in omega (arith, m)
  fields→le s (suc k) t h p = rw (ne_eqb (suc k) 255 (λ e. omega arith)) (value→le j (odd 24 s (8388608 + t) k 149) s ((8388608 + t) * 2 ^ k) (2 ^ 149) (pow_pos 149) (odd_sign 24 s (8388608 + t) k 149) bound)
    where
      bound : (8388608 + t) * 2 ^ k ≤ 2 ^ j * 2 ^ 149
      bound = subst (λ (z : ℕ). (8388608 + t) * 2 ^ k ≤ z) (sym scale) (fields→power k (j + 126) t h (omega arith))

  pub le→pattern : (w : ℕ) → T (le (magnitude (of_bits binary32 w)) (limit j)) → w % 2147483648 ≤ (j + 127) * 8388608
  unfolding of_bits
  le→pattern w p = omega (arith, le→fields _ (w % 2147483648 / 8388608) (w % 8388608) (omega arith) p)

  pub pattern→le : (w : ℕ) → w % 2147483648 ≤ (j + 127) * 8388608 → T (le (magnitude (of_bits binary32 w)) (limit j))
  unfolding of_bits
  pattern→le w p = fields→le _ (w % 2147483648 / 8388608) (w % 8388608) (omega arith) (omega arith)

-- a number that is at most anything is no NaN
pub within_no_nan : (w : ℕ) (y : Float) → T (le (magnitude (of_bits binary32 w)) y) → T (not (nan_bits binary32 w))
unfolding le is_nan
within_no_nan w y p = rw (nan_bits_is binary32 w) (go (of_bits binary32 w) p)
  where
    go : (x : Float) → T (le (magnitude x) y) → T (not (is_nan x))
    go nan q = absurd q
    go (inf s) q = tt
    go (fin s m e) q = tt
