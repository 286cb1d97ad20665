-- A number is exactly a binary32 just where the one that its pattern points to, widened, has that pattern again. Assumes nothing.
use mathlib.Core.Path.{◌≡◌, refl, sym, ap, ◌∙◌, subst}
use Prim.Native.Nat.{ℕ, ◌+◌, ◌-◌, ◌*◌, ◌/◌, ◌%◌, ◌^◌, ◌≤◌, ◌<◌}
use native.Mathlib.Nat.{add-zero}
use native.Mathlib.Omega.{arith}
use mathlib.Core.Bool.{Bool, true, false, not, cond, ◌&&◌}
use lib.Dec.{T, leb, eqb, eqb→eq}
use borrow.Author.Tests.{leb-true, leb-false}
use lib.Arith.{le→nltb}
use lib.Pow.{pow_mono, shr_lt}
use lib.Ieee.{Float, binary32, binary64, of_bits, to_bits, nan_bits, fits, is_nan}
use lib.Ieee.Bits.{is_true, nan_bits_is, nan_bits_above, of_bits-to_bits, of_bits-fits, to_bits-lt}
use lib.Ieee.Fits.{and_l, and_i, eq→eqb, fits_widens}
use Rattle.float.specs.Single.{exactly32}
use Rattle.float.proofs.Patterns.{is_nan_lem}
use Rattle.float.proofs.Cases.{same_test}
use Rattle.float.proofs.SingleForms.{Form, Packs, packs_of, found_back, none_back, few_back, many_back, most_back, none_forward, many_forward}

-- r is no NaN, and is the only binary32 that b can come from
abbrev pub Points : ℕ → ℕ → Type 0
Points r b = T (not (nan_bits binary32 r)) × ((w : ℕ) → w < 4294967296 → T (not (nan_bits binary32 w)) → b ≡ to_bits binary64 (of_bits binary32 w) → r ≡ w)

no_nan_small : (r : ℕ) → r % 2147483648 ≤ 2139095040 → T (not (nan_bits binary32 r))
no_nan_small r h = subst (λ (b : Bool). T (not b)) (sym (nan_bits_above binary32 r)) (le→nltb 2139095040 (r % 2147483648) h)

module _ (b : ℕ) where
  abbrev signed : ℕ
  signed = b / 9223372036854775808 * 2147483648

  abbrev sized : ℕ
  sized = b % 9223372036854775808

  points : (x : ℕ) → x ≤ 2139095040 → ((w : ℕ) → Form (w % 2147483648) sized → w % 2147483648 ≡ x) → Points (signed + x) b
  points x small f = (
    no_nan_small (signed + x) (omega arith),
    λ w h n e. let q = found_back w h n b e in sym (q.sign ∙ ap (λ (v : ℕ). signed + v) (f w q.form)),
  )

  pub points_none : sized < 874 * 4503599627370496 → Points signed b
  points_none h = subst (λ (r : ℕ). Points r b) (add-zero signed) (points 0 (omega arith) (λ w f. none_back (w % 2147483648) sized f h))

  abbrev digits : ℕ
  digits = 4503599627370496 + sized % 4503599627370496

  abbrev beyond : ℕ
  beyond = 926 - sized / 4503599627370496

  pub few_small : 874 * 4503599627370496 ≤ sized → sized < 897 * 4503599627370496 → digits / 2 ^ beyond < 8388608
  few_small h l =
      let far : 2 ^ 53 ≤ 2 ^ (23 + beyond) = pow_mono {i = 53} {j = 23 + beyond} (omega arith) in
      let low : digits < 2 ^ 53 = omega arith in
      shr_lt 23 beyond (omega (arith, far, low))

  pub points_few : 874 * 4503599627370496 ≤ sized → sized < 897 * 4503599627370496 → Points (signed + digits / 2 ^ beyond) b
  points_few h l = points (digits / 2 ^ beyond) (omega (arith, few_small h l)) (λ w f. few_back (w % 2147483648) sized f h l)

  pub points_many : 897 * 4503599627370496 ≤ sized → sized < 1151 * 4503599627370496 → Points (signed + (sized - 896 * 4503599627370496) / 536870912) b
  points_many h l = points ((sized - 896 * 4503599627370496) / 536870912) (omega arith) (λ w f. many_back (w % 2147483648) sized f h l)

  pub points_most : 1151 * 4503599627370496 ≤ sized → Points (signed + 2139095040) b
  points_most h = points 2139095040 (omega arith) (λ w f. most_back (w % 2147483648) sized f h)

-- ---- the test
pub nan_inexact : (x : Float) → is_nan x ≡ true → false ≡ exactly32 x
unfolding exactly32 fits is_nan
nan_inexact x p = rw (is_nan_lem x p)

pub real_number : (r : ℕ) → T (not (nan_bits binary32 r)) → T (not (is_nan (of_bits binary32 r)))
real_number r n = subst (λ (b : Bool). T (not b)) (nan_bits_is binary32 r) n

pub widens : (r : ℕ) → T (not (nan_bits binary32 r)) → T (fits binary64 (of_bits binary32 r) && not (is_nan (of_bits binary32 r)))
widens r n = and_i (fits binary64 (of_bits binary32 r)) (not (is_nan (of_bits binary32 r))) (fits_widens (of_bits binary32 r) (of_bits-fits binary32 r)) (real_number r n)

module _ (x : Float) (held : T (fits binary64 x)) (real : T (not (is_nan x))) where
  abbrev bits : ℕ
  bits = to_bits binary64 x

  -- x is a binary32 that has its pattern
  same→exact : (r : ℕ) → to_bits binary64 (of_bits binary32 r) ≡ bits → T (exactly32 x)
  unfolding exactly32
  same→exact r e =
      let y = of_bits binary32 r in
      let q : y ≡ x = sym (of_bits-to_bits binary64 y (fits_widens y (of_bits-fits binary32 r))) ∙ (ap (of_bits binary64) e ∙ of_bits-to_bits binary64 x held) in
      and_i (fits binary32 x) (not (is_nan x)) (subst (λ (z : Float). T (fits binary32 z)) q (of_bits-fits binary32 r)) real

  -- ---- without a look at the one that it points to: v is the size of a binary32 that has x's size as a binary64
  module _ (v : ℕ) (small : v ≤ 2139095040) (one : (g : ℕ) → Form v g → g ≡ sized bits) where
    abbrev of_size : ℕ
    of_size = signed bits + v

    width : bits < 18446744073709551616
    width = to_bits-lt binary64 x held

    found : Packs (leb 2147483648 of_size) (of_size % 2147483648) (to_bits binary64 (of_bits binary32 of_size))
    found = packs_of of_size (omega (arith, width)) (no_nan_small of_size (omega arith))

    with_sign : (s : Bool) (g : ℕ) → leb 2147483648 of_size ≡ s → g ≡ sized bits → cond s 9223372036854775808 0 + g ≡ bits
    with_sign true g p e = omega (arith, width, leb-true 2147483648 of_size p)
    with_sign false g p e = omega (arith, width, leb-false 2147483648 of_size p)

    sized_exact : true ≡ exactly32 x
    sized_exact =
        let same : found.g ≡ sized bits = one found.g (subst (λ (z : ℕ). Form z found.g) (omega arith) found.form) in
        sym (is_true (exactly32 x) (same→exact of_size (found.is ∙ with_sign (leb 2147483648 of_size) found.g refl same)))

  pub zero_exact : sized bits ≡ 0 → true ≡ exactly32 x
  zero_exact h = sized_exact 0 (omega arith) (λ g f. none_forward 0 g f refl ∙ sym h)

  pub short_exact : sized bits % 536870912 ≡ 0 → 897 * 4503599627370496 ≤ sized bits → sized bits < 1151 * 4503599627370496 → true ≡ exactly32 x
  short_exact m h l =
      let v = (sized bits - 896 * 4503599627370496) / 536870912 in
      sized_exact v (omega arith) (λ g f. many_forward v g f (omega arith) (omega arith) ∙ omega (arith, m, h))

module _ (x : Float) (r : ℕ) (held : T (fits binary64 x)) (real : T (not (is_nan x))) (p : Points r (to_bits binary64 x)) where
  exact→same : T (exactly32 x) → to_bits binary64 (of_bits binary32 r) ≡ to_bits binary64 x
  unfolding exactly32
  exact→same t =
      let f : T (fits binary32 x) = and_l (fits binary32 x) (not (is_nan x)) t in
      let w = to_bits binary32 x in
      let q : of_bits binary32 w ≡ x = of_bits-to_bits binary32 x f in
      let n : T (not (nan_bits binary32 w)) = subst (λ (b : Bool). T (not b)) (sym (nan_bits_is binary32 w)) (subst (λ (z : Float). T (not (is_nan z))) (sym q) real) in
      let e : r ≡ w = p.1 w (to_bits-lt binary32 x f) n (ap (to_bits binary64) (sym q)) in
      ap (λ (z : ℕ). to_bits binary64 (of_bits binary32 z)) e ∙ ap (to_bits binary64) q

  pub exact_is : eqb (to_bits binary64 (of_bits binary32 r)) (to_bits binary64 x) ≡ exactly32 x
  exact_is =
      same_test (eqb (to_bits binary64 (of_bits binary32 r)) (to_bits binary64 x)) (exactly32 x) (λ t. same→exact x held real r (eqb→eq (to_bits binary64 (of_bits binary32 r)) (to_bits binary64 x) t))
      (λ t. eq→eqb {a = to_bits binary64 (of_bits binary32 r)} {b = to_bits binary64 x} (exact→same t))
