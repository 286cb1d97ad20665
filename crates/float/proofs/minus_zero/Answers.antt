-- 1 / x tells the sign of a zero. Assumes nothing.
use mathlib.Core.Path.{◌∙◌}
use Rattle.float.proofs.Total.{zero_sign, zero_none}
use Rattle.float.proofs.minus_zero.Goals as goal

pub returns-then-x : goal.returns-then-x
returns-then-x c = zero_sign c.args.x c.if-x.true

pub returns-else-x : goal.returns-else-x
returns-else-x c = c.if-x.false ∙ zero_none c.args.x c.if-x.false
