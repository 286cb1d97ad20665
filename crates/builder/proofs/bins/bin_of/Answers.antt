-- Four halvings leave one bin of sixteen. Assumes nothing.
use mathlib.Core.Path.{refl}
use native.Mathlib.Omega.{arith}
use lib.Ieee.{of_bits, of_int}
use Rattle.builder.proofs.Halves.{bin_most}
use Rattle.builder.proofs.bins.bin_of.Goals as goal

pub upper-eight-requires : goal.upper-eight-requires
unfolding of_bits of_int
upper-eight-requires c = (refl, refl, omega arith, omega arith, omega arith, omega (arith, bin_most 15 c.args.x))

pub upper-four-requires : goal.upper-four-requires
unfolding of_bits of_int
upper-four-requires c = let e = c.upper-eight.ensures in (e.0, refl, omega arith, omega (arith, e.1), e.2, omega (arith, e.3))

pub upper-two-requires : goal.upper-two-requires
unfolding of_bits of_int
upper-two-requires c =
    let e = c.upper-four.ensures in (e.0, refl, omega arith, omega (arith, e.1, c.upper-eight.ensures.1), e.2, omega (arith, e.3))

pub upper-one-requires : goal.upper-one-requires
unfolding of_bits of_int
upper-one-requires c =
    let e = c.upper-two.ensures in (e.0, refl, omega arith, omega (arith, e.1, c.upper-four.ensures.1, c.upper-eight.ensures.1), e.2, omega (arith, e.3))

pub returns : goal.returns
returns c = let e = c.upper-one.ensures in (omega (arith, e.2, e.3), omega (arith, e.2, bin_most 15 c.args.x))
