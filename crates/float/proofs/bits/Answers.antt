-- A NaN's pattern is the one that the logic writes. Assumes nothing.
use mathlib.Core.Path.{sym}
use Rattle.float.proofs.Patterns.{nan_pattern}
use Rattle.float.proofs.bits.Goals as goal

pub returns-then-is_nan : goal.returns-then-is_nan
returns-then-is_nan c = nan_pattern c.args.x (sym c.if-is_nan.ensures.value)
