-- The digits that `io` gives, written. Assumes nothing.
use native.Mathlib.Omega.{arith}
use Rattle.report.proofs.Places.{at_most, hexadecimal_is}
use Rattle.report.proofs.Writing.{wrote_as}
use Rattle.report.proofs.text.put_hexadecimal.Goals as goal

pub put-requires : goal.put-requires
put-requires c =
    let d = c.hex-k in
    let k = at_most 16 16 16 _ _ (omega arith) (omega arith) (omega arith) d.ensures.len in
    omega (arith, k, d.ensures.in_bounds)

pub returns : goal.returns
returns c =
    let d = c.hex-k in
    let p = c.put in
    let k = at_most 16 16 16 _ _ (omega arith) (omega arith) (omega arith) d.ensures.len in
    (wrote_as _ _ _ _ _ _ (hexadecimal_is _ _ _ (omega arith) d.ensures.len d.ensures.digits) p.ensures, omega (arith, k, d.ensures.in_bounds, p.ensures.place))
