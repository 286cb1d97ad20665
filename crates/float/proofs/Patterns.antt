-- Which bit patterns are a NaN's, as code tests for them: the exponent's field is all ones and the digits are not 0. Assumes nothing.
use mathlib.Core.Path.{◌≡◌, refl}
use Prim.Native.Nat.{ℕ, ◌/◌, ◌%◌}
use mathlib.Core.Bool.{Bool, true, false, not, ◌&&◌}
use lib.Dec.{T, leb, eqb}
use lib.Ieee.{Float, nan, inf, fin, binary64, div, is_nan, of_bits, of_fields, to_bits, nan_bits, hid, ones, top}
use borrow.Author.Tests.{eq-eqb, ne_eqb}
use Rattle.float.proofs.Order.{clash}

pub is_nan_lem : (x : Float) → is_nan x ≡ true → x ≡ nan
unfolding is_nan
is_nan_lem nan p = refl
is_nan_lem (inf s) p = clash false p refl
is_nan_lem (fin s m e) p = clash false p refl

pub nan_pattern : (x : Float) → is_nan x ≡ true → 0x7ff8_0000_0000_0000 ≡ to_bits binary64 x
unfolding to_bits
nan_pattern x p = rw (is_nan_lem x p)

pub no_nan : (x : Float) → is_nan x ≡ false → T (not (is_nan x))
no_nan x p = rw p tt

fields_nan : (s : Bool) (x t : ℕ) → x ≡ 2047 → (t ≡ 0 → ⊥) → nan ≡ of_fields binary64 s x t
unfolding of_fields
fields_nan s x t p q = rw (p, ne_eqb t 0 q)

module _ (b : ℕ) where
  pub nan_of : b % 0x8000_0000_0000_0000 / 0x10_0000_0000_0000 ≡ 2047 → (b % 0x10_0000_0000_0000 ≡ 0 → ⊥) → of_bits binary64 0x7ff8_0000_0000_0000 ≡ of_bits binary64 b
  unfolding div of_bits
  nan_of p q = fields_nan (leb (top binary64) b) (b % top binary64 / hid binary64) (b % hid binary64) p q

  pub not_nan_digits : b % 0x10_0000_0000_0000 ≡ 0 → T (not (nan_bits binary64 b))
  unfolding nan_bits
  not_nan_digits p = no_second (eqb (b % top binary64 / hid binary64) (ones binary64)) (eqb (b % hid binary64) 0) (eq-eqb (b % hid binary64) 0 p)
    where
      no_second : (u v : Bool) → v ≡ true → T (not (u && not v))
      no_second true v p = rw p tt
      no_second false v p = tt

  pub not_nan_field : (b % 0x8000_0000_0000_0000 / 0x10_0000_0000_0000 ≡ 2047 → ⊥) → T (not (nan_bits binary64 b))
  unfolding nan_bits
  not_nan_field p = no_first (eqb (b % top binary64 / hid binary64) (ones binary64)) (not (eqb (b % hid binary64) 0)) (ne_eqb (b % top binary64 / hid binary64) (ones binary64) p)
    where
      no_first : (u v : Bool) → u ≡ false → T (not (u && v))
      no_first u v p = rw p tt
