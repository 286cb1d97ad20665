-- Every binary32 as a binary64's pattern: where its digits and its exponent's field go, and how the pattern is found back. Assumes nothing.
use mathlib.Core.Path.{◌≡◌, refl, sym, ap, ◌∙◌, subst}
use Prim.Native.Nat.{ℕ, zero, suc, ◌+◌, ◌-◌, ◌*◌, ◌/◌, ◌%◌, ◌^◌, ◌≤◌, ◌<◌}
use native.Mathlib.Nat.{mul_assoc, mul_right_comm, mul-one, mul-div_cancel, mul-le-mul, mul-le-mul_right, le_antisymm, lt_of_not-le, suc-add, add_assoc, zero-mul}
use native.Mathlib.Omega.{arith}
use mathlib.Core.Bool.{Bool, true, false, not, cond}
use lib.Dec.{T, leb, eqb, nltb→le}
use lib.Arith.{lt_of_le-ne}
use lib.Pow.{pow-add, pow_mono, shl_lt, shl-shr}
use lib.Ieee.{Float, nan, inf, fin, binary32, binary64, up, down, size, odd, of_fields, of_bits, to_bits, nan_bits}
use lib.Ieee.Digits.{size-lt, size_reaches, size-le}
use lib.Ieee.Exact.{HasValue, odd_sign}
use lib.Ieee.Fits.{down_pos}
use lib.Ieee.Bits.{nan_bits_above}
use borrow.Author.Tests.{eq-eqb, ne_eqb, leb-true, leb-false}
use Rattle.float.proofs.Cases.{same?}
use mathlib.Core.Logic.{◌⊎◌, inl, inr}

-- ---- a binary64's pattern, for n units of its smallest value
abbrev packed : Bool → ℕ → ℕ
packed s n = cond s 9223372036854775808 0 + (size n - 53) * 4503599627370496 + n / 2 ^ (size n - 53)

-- 2^925 of a binary64's smallest value make one of a binary32's
units : (m a d : ℕ) → 0 < d → m * 2 ^ 149 ≡ a * d → m * 2 ^ 1074 / d ≡ a * 2 ^ 925
units m a d p e = ap (λ (z : ℕ). z / d) moved ∙ mul-div_cancel (a * 2 ^ 925) p
  where
    moved : m * 2 ^ 1074 ≡ a * 2 ^ 925 * d
    moved =
        ap (λ (z : ℕ). m * z) (pow-add 2 149 925)
        ∙ (sym (mul_assoc m (2 ^ 149) (2 ^ 925))
        ∙ (ap (λ (z : ℕ). z * 2 ^ 925) e
        ∙ mul_right_comm a d (2 ^ 925)))

pattern_of : (x : Float) (s : Bool) (a : ℕ) → HasValue x s a (2 ^ 149) → to_bits binary64 x ≡ packed s (a * 2 ^ 925)
unfolding to_bits
pattern_of nan s a h = absurd h
pattern_of (inf t) s a h = absurd h
pattern_of (fin t m e) s a h = ap (λ (n : ℕ). packed t n) (units (m * up e) a (down e) (down_pos e) h.1) ∙ ap (λ (b : Bool). packed b (a * 2 ^ 925)) h.0

-- ---- how many digits a number with its highest at z has, moved up by j
size_is : (n z : ℕ) → 2 ^ z ≤ n → n < 2 ^ suc z → size n ≡ suc z
size_is n z low high = le_antisymm (size-le n (suc z) high) (reach (size n) (size-lt n))
  where
    reach : (y : ℕ) → n < 2 ^ y → suc z ≤ y
    reach y h = lt_of_not-le (λ q. omega (arith, pow_mono q, low, h))

module _ (q z j : ℕ) (low : 2 ^ z ≤ q) (high : q < 2 ^ suc z) where
  moved_size : size (q * 2 ^ j) ≡ suc (z + j)
  moved_size =
      size_is (q * 2 ^ j) (z + j) (subst (λ (y : ℕ). y ≤ q * 2 ^ j) (sym (pow-add 2 z j)) (mul-le-mul_right (2 ^ j) low)) (subst (λ (y : ℕ). q * 2 ^ j < 2 ^ y) (suc-add z j) (shl_lt (suc z) j high))

  -- with d digits more than are kept, e of them
  packed_is : (s : Bool) (k e : ℕ) → suc (z + j) - 53 ≡ k → j ≡ e + k → packed s (q * 2 ^ j) ≡ cond s 9223372036854775808 0 + k * 4503599627370496 + q * 2 ^ e
  packed_is s k e p r = ap (λ (y : ℕ). cond s 9223372036854775808 0 + y * 4503599627370496 + q * 2 ^ j / 2 ^ y) (ap (λ (y : ℕ). y - 53) moved_size ∙ p) ∙ ap (λ (y : ℕ). cond s 9223372036854775808 0 + k * 4503599627370496 + y) dropped
    where
      dropped : q * 2 ^ j / 2 ^ k ≡ q * 2 ^ e
      dropped = ap (λ (y : ℕ). q * 2 ^ y / 2 ^ k) r ∙ (ap (λ (y : ℕ). q * y / 2 ^ k) (pow-add 2 e k) ∙ (ap (λ (y : ℕ). y / 2 ^ k) (sym (mul_assoc q (2 ^ e) (2 ^ k))) ∙ shl-shr (q * 2 ^ e) k))

-- ---- the four forms: v is a binary32's pattern without the sign, g its binary64's
pub data Form : ℕ → ℕ → Type 0 where
  none : {v g : ℕ} → v ≡ 0 → g ≡ 0 → Form v g
  few : {v g : ℕ} (z d : ℕ) → z ≤ 22 → 4503599627370496 ≤ d → d < 9007199254740992 → d ≡ v * 2 ^ (52 - z) → g ≡ (z + 873) * 4503599627370496 + d → Form v g
  many : {v g : ℕ} → 8388608 ≤ v → v < 2139095040 → g ≡ 896 * 4503599627370496 + v * 536870912 → Form v g
  most : {v g : ℕ} → v ≡ 2139095040 → g ≡ 2047 * 4503599627370496 → Form v g

pub record Packs (s : Bool) (v b : ℕ) : Type 0 where
  pub g : ℕ
  pub is : b ≡ cond s 9223372036854775808 0 + g
  pub form : Form v g

-- a field of 0, and digits t, the highest at z
few_at : (s : Bool) (t z : ℕ) → z ≤ 22 → 2 ^ z ≤ t → t < 2 ^ suc z → Packs s t (packed s (t * 2 ^ 0 * 2 ^ 925))
few_at s t z short low high =
    record {
      g = (z + 873) * 4503599627370496 + t * 2 ^ (52 - z);
      is = ap (λ (y : ℕ). packed s (y * 2 ^ 925)) (mul-one t) ∙ (packed_is t z 925 low high s (z + 873) (52 - z) (omega arith) (omega arith) ∙ add_assoc (cond s 9223372036854775808 0) ((z + 873) * 4503599627370496) (t * 2 ^ (52 - z)));
      form = few z (t * 2 ^ (52 - z)) short
          (subst (λ (y : ℕ). y ≤ t * 2 ^ (52 - z)) (sym (pow-add 2 z (52 - z)) ∙ ap (λ (y : ℕ). 2 ^ y) whole) (mul-le-mul_right (2 ^ (52 - z)) low))
          (subst (λ (y : ℕ). t * 2 ^ (52 - z) < 2 ^ y) whole' (shl_lt (suc z) (52 - z) high))
          refl
          refl;
    }
  where
    whole : z + (52 - z) ≡ 52
    whole = omega arith

    whole' : suc z + (52 - z) ≡ 53
    whole' = omega arith

few_packs : (s : Bool) (t : ℕ) → t < 8388608 → (t ≡ 0 → ⊥) → Packs s t (packed s (t * 2 ^ 0 * 2 ^ 925))
few_packs s t small some =
    let some-digits : 0 < size t = lt_of_not-le (λ q. omega (arith, size-lt t, pow_mono q)) in
    let step : suc (size t - 1) ≡ size t = omega arith in
    few_at s t (size t - 1) (omega (arith, size-le t 23 small)) (size_reaches t (size t - 1) (omega arith)) (subst (λ (y : ℕ). t < 2 ^ y) (sym step) (size-lt t))

zero_packs : (s : Bool) → Packs s 0 (to_bits binary64 (odd 24 s 0 0 149))
unfolding odd to_bits
zero_packs true = record { g = 0; is = refl; form = none refl refl }
zero_packs false = record { g = 0; is = refl; form = none refl refl }

-- a field of k + 1
many_packs : (s : Bool) (k t : ℕ) → t < 8388608 → suc k < 255 → Packs s (suc k * 8388608 + t) (packed s ((8388608 + t) * 2 ^ k * 2 ^ 925))
many_packs s k t small field =
    record {
      g = (k + 896) * 4503599627370496 + (8388608 + t) * 536870912;
      is =
          ap (packed s) (mul_assoc (8388608 + t) (2 ^ k) (2 ^ 925) ∙ ap (λ (y : ℕ). (8388608 + t) * y) (sym (pow-add 2 k 925)))
          ∙ (packed_is (8388608 + t) 23 (k + 925) (omega arith) (omega arith) s (k + 896) 29 (omega arith) (omega arith)
          ∙ add_assoc (cond s 9223372036854775808 0) ((k + 896) * 4503599627370496) ((8388608 + t) * 536870912));
      form = many {v = suc k * 8388608 + t} {g = (k + 896) * 4503599627370496 + (8388608 + t) * 536870912} (omega arith) (omega arith) (omega arith);
    }

top_packs : (s : Bool) → Packs s 2139095040 (to_bits binary64 (inf s))
unfolding to_bits
top_packs s = record { g = 2047 * 4503599627370496; is = refl; form = most refl refl }

packs : (s : Bool) (x t : ℕ) → t < 8388608 → x ≤ 255 → (x ≡ 255 → t ≡ 0) → Packs s (x * 8388608 + t) (to_bits binary64 (of_fields binary32 s x t))
unfolding of_fields
packs s zero t small field no_nan = go (same? t 0)
  where
    go : (t ≡ 0) ⊎ (t ≡ 0 → ⊥) → Packs s (0 * 8388608 + t) (to_bits binary64 (odd 24 s t 0 149))
    go (inl e) = subst (λ (y : ℕ). Packs s (0 * 8388608 + y) (to_bits binary64 (odd 24 s y 0 149))) (sym e) (zero_packs s)
    go (inr ne) = subst (λ (y : ℕ). Packs s y (to_bits binary64 (odd 24 s t 0 149))) (omega arith) (subst (Packs s t) (sym (pattern_of (odd 24 s t 0 149) s (t * 2 ^ 0) (odd_sign 24 s t 0 149))) (few_packs s t small ne))
packs s (suc k) t small field no_nan = go (same? (suc k) 255)
  where
    go : (suc k ≡ 255) ⊎ (suc k ≡ 255 → ⊥) → Packs s (suc k * 8388608 + t) (to_bits binary64 (cond (eqb (suc k) 255) (cond (eqb t 0) (inf s) nan) (odd 24 s (8388608 + t) k 149)))
    go (inl e) = rw (eq-eqb (suc k) 255 e, eq-eqb t 0 (no_nan e)) (subst (λ (y : ℕ). Packs s y (to_bits binary64 (inf s))) (omega (arith, no_nan e)) (top_packs s))
    go (inr ne) =
        rw (ne_eqb (suc k) 255 ne) (subst (Packs s (suc k * 8388608 + t)) (sym (pattern_of (odd 24 s (8388608 + t) k 149) s ((8388608 + t) * 2 ^ k) (odd_sign 24 s (8388608 + t) k 149))) (many_packs s k t small (lt_of_le-ne field ne)))

-- ---- from the binary64's pattern back
form_small : (v g : ℕ) → Form v g → g < 9223372036854775808
form_small v g (none p q) = omega arith
form_small v g (few z d a b c e h) = omega arith
form_small v g (many a b c) = omega arith
form_small v g (most a b) = omega arith

pub record Back (w b : ℕ) : Type 0 where
  pub sign : w ≡ b / 9223372036854775808 * 2147483648 + w % 2147483648
  pub form : Form (w % 2147483648) (b % 9223372036854775808)

module _ (w : ℕ) (fits : w < 4294967296) (no_nan : T (not (nan_bits binary32 w))) where
  ordinary : w % 2147483648 ≤ 2139095040
  ordinary = nltb→le 2139095040 (w % 2147483648) (subst (λ (b : Bool). T (not b)) (nan_bits_above binary32 w) no_nan)

  pub packs_of : Packs (leb 2147483648 w) (w % 2147483648) (to_bits binary64 (of_bits binary32 w))
  unfolding of_bits
  packs_of = subst (λ (y : ℕ). Packs (leb 2147483648 w) y (to_bits binary64 (of_fields binary32 (leb 2147483648 w) (w % 2147483648 / 8388608) (w % 8388608)))) (omega arith) (packs (leb 2147483648 w) (w % 2147483648 / 8388608) (w % 8388608) (omega arith) (omega (arith, ordinary)) (λ e. omega (arith, ordinary)))

  back_by : (b g : ℕ) (s : Bool) → leb 2147483648 w ≡ s → g < 9223372036854775808 → b ≡ cond s 9223372036854775808 0 + g → Form (w % 2147483648) g → Back w b
  back_by b g true p small e f = record { sign = omega (arith, leb-true 2147483648 w p); form = subst (Form (w % 2147483648)) (omega arith) f }
  back_by b g false p small e f = record { sign = omega (arith, leb-false 2147483648 w p); form = subst (Form (w % 2147483648)) (omega arith) f }

  pub found_back : (b : ℕ) → b ≡ to_bits binary64 (of_bits binary32 w) → Back w b
  found_back b e = back_by b packs_of.g (leb 2147483648 w) refl (form_small (w % 2147483648) packs_of.g packs_of.form) (e ∙ packs_of.is) packs_of.form

module _ (v g : ℕ) where
  pub none_back : Form v g → g < 874 * 4503599627370496 → v ≡ 0
  none_back (none p q) h = p
  none_back (few z d a b c e f) h = absurd (omega arith)
  none_back (many a b c) h = absurd (omega arith)
  none_back (most a b) h = absurd (omega arith)

  pub many_back : Form v g → 897 * 4503599627370496 ≤ g → g < 1151 * 4503599627370496 → v ≡ (g - 896 * 4503599627370496) / 536870912
  many_back (none p q) h l = absurd (omega arith)
  many_back (few z d a b c e f) h l = absurd (omega arith)
  many_back (many a b c) h l = omega arith
  many_back (most a b) h l = absurd (omega arith)

  pub most_back : Form v g → 1151 * 4503599627370496 ≤ g → v ≡ 2139095040
  most_back (none p q) h = absurd (omega arith)
  most_back (few z d a b c e f) h = absurd (omega arith)
  most_back (many a b c) h = absurd (omega arith)
  most_back (most a b) h = a

  few_moved : (z d n : ℕ) → n ≡ 52 - z → d ≡ v * 2 ^ (52 - z) → v ≡ d / 2 ^ n
  few_moved z d n p q = sym (ap (λ (y : ℕ). d / 2 ^ y) p ∙ (ap (λ (y : ℕ). y / 2 ^ (52 - z)) q ∙ shl-shr v (52 - z)))

  pub few_back : Form v g → 874 * 4503599627370496 ≤ g → g < 897 * 4503599627370496 → v ≡ (4503599627370496 + g % 4503599627370496) / 2 ^ (926 - g / 4503599627370496)
  few_back (none p q) h l = absurd (omega arith)
  few_back (few z d a b c e f) h l =
      let digits : 4503599627370496 + g % 4503599627370496 ≡ d = omega (arith, a, b, c, f) in
      let field : 926 - g / 4503599627370496 ≡ 52 - z = omega (arith, a, b, c, f) in
      few_moved z (4503599627370496 + g % 4503599627370496) (926 - g / 4503599627370496) field (digits ∙ e)
  few_back (many a b c) h l = absurd (omega arith)
  few_back (most a b) h l = absurd (omega arith)

  -- ---- and from the binary32's: a zero's digits are none, and a normal number's stand where they stood
  pub none_forward : Form v g → v ≡ 0 → g ≡ 0
  none_forward (none p q) h = q
  none_forward (few z d a b c e f) h = absurd (omega (arith, e ∙ ap (λ (y : ℕ). y * 2 ^ (52 - z)) h, zero-mul (2 ^ (52 - z))))
  none_forward (many a b c) h = absurd (omega arith)
  none_forward (most a b) h = absurd (omega arith)

  pub many_forward : Form v g → 8388608 ≤ v → v < 2139095040 → g ≡ 896 * 4503599627370496 + v * 536870912
  many_forward (none p q) h l = absurd (omega arith)
  many_forward (few z d a b c e f) h l =
      let far : 2 ^ 30 ≤ 2 ^ (52 - z) = pow_mono {i = 30} {j = 52 - z} (omega arith) in
      let long : 8388608 * 2 ^ 30 ≤ v * 2 ^ (52 - z) = mul-le-mul {n₁ = 8388608} {m₁ = 2 ^ 30} {n₂ = v} {m₂ = 2 ^ (52 - z)} h far in
      absurd (omega (arith, e, long, c))
  many_forward (many a b c) h l = c
  many_forward (most a b) h l = absurd (omega arith)
