-- A NaN is none; a zero, and what has few digits, is one; any other number is told by the one binary32 that it can be. Assumes nothing.
use mathlib.Core.Path.{sym}
use Rattle.float.proofs.Cases.{true_is}
use Rattle.float.proofs.Patterns.{no_nan}
use Rattle.float.proofs.SingleExact.{nan_inexact, zero_exact, short_exact}
use Rattle.float.proofs.single.is_single.Goals as goal
use Rattle.float.proofs.single.is_single.Goals.{then-size-eq0-via-then-size-eq0, then-size-eq0-via-else-size-eq0+then-short}

pub returns-then-is_nan : goal.returns-then-is_nan
returns-then-is_nan c = nan_inexact c.args.x (sym c.if-is_nan.ensures.value)

pub float_to_bits-size : goal.float_to_bits-size
float_to_bits-size c = no_nan c.args.x (sym c.if-is_nan.ensures.value)

pub returns-then-size-eq0 : goal.returns-then-size-eq0
returns-then-size-eq0 c =
    let held = true_is _ c.well_formed.0.1 in
    let real = no_nan c.args.x (sym c.if-is_nan.ensures.value) in
    elim c.then-size-eq0.branch [
      | then-size-eq0-via-then-size-eq0 w ↦ zero_exact c.args.x held real w.if-size-eq0.true
      | then-size-eq0-via-else-size-eq0+then-short w ↦ let s = w.short.ensures (true_is _ w.if-short.true) in short_exact c.args.x held real s.0 s.1 s.2
    ]

pub stays-requires : goal.stays-requires
stays-requires c = no_nan c.args.x (sym c.if-is_nan.ensures.value)
