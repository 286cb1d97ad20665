-- The digits that `io` gives, written. Assumes nothing.
use native.Mathlib.Omega.{arith}
use Rattle.report.proofs.Places.{at_most, decimal_is}
use Rattle.report.proofs.Writing.{wrote_as}
use Rattle.report.proofs.text.put_decimal.Goals as goal

pub put-requires : goal.put-requires
put-requires c =
    let d = c.decimal-k in
    let k = at_most 10 1 20 _ _ (omega arith) (omega arith) (omega arith) d.ensures.len in
    omega (arith, k, d.ensures.in_bounds)

pub returns : goal.returns
returns c =
    let d = c.decimal-k in
    let p = c.put in
    let k = at_most 10 1 20 _ _ (omega arith) (omega arith) (omega arith) d.ensures.len in
    (wrote_as _ _ _ _ _ _ (decimal_is _ _ _ d.ensures.len d.ensures.digits) p.ensures, omega (arith, k, d.ensures.in_bounds, p.ensures.place))
