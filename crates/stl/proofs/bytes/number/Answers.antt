-- A pattern that is no NaN's is no NaN's number, and what a binary32 holds a binary64 holds. Assumes nothing.
use mathlib.Core.Path.{sym, subst, ap}
use Prim.Native.Nat.{ℕ}
use mathlib.Core.Bool.{Bool, not}
use lib.Dec.{T}
use lib.Ieee.{binary32, binary64, nan_bits, of_bits, fits, is_nan}
use lib.Ieee.Bits.{nan_bits_is, of_bits-fits}
use lib.Ieee.Fits.{and_i, fits_widens}
use Rattle.stl.specs.Layout.{widened}
use Rattle.stl.proofs.bytes.number.Goals as goal

pub float_to_float-result : goal.float_to_float-result
float_to_float-result c =
    let x = of_bits binary32 c.word.result in
    and_i (fits binary64 x) (not (is_nan x)) (fits_widens x (of_bits-fits binary32 c.word.result))
    (subst (λ (b : Bool). T (not b)) (nan_bits_is binary32 c.word.result) (subst (λ (w : ℕ). T (not (nan_bits binary32 w))) (sym c.word.ensures) c.requires.1))

pub returns : goal.returns
unfolding widened
returns c = ap (of_bits binary32) c.word.ensures
