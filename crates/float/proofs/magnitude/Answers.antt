-- Below zero the sign is turned; a zero's magnitude is the literal 0.0. Assumes nothing.
use Rattle.float.proofs.Absolute.{magnitude_below, magnitude_zero, magnitude_above}
use Rattle.float.proofs.magnitude.Goals as goal

pub returns-then-x : goal.returns-then-x
returns-then-x c = magnitude_below c.args.x c.if-x.true

pub returns-then-x-2 : goal.returns-then-x-2
returns-then-x-2 c = magnitude_zero c.args.x c.well_formed.0.1 c.if-x-2.true

pub returns : goal.returns
returns c = magnitude_above c.args.x c.if-x.false c.if-x-2.false
