-- The exponent's field and the digits tell a NaN's pattern. Assumes nothing.
use Rattle.float.proofs.Patterns.{nan_of, not_nan_digits, not_nan_field}
use Rattle.float.proofs.from_bits.Goals as goal

pub float_from_bits-result : goal.float_from_bits-result
float_from_bits-result c = not_nan_digits c.args.pattern c.if-pattern-eq0.true

pub returns-then-pattern-eq2047 : goal.returns-then-pattern-eq2047
returns-then-pattern-eq2047 c = nan_of c.args.pattern c.if-pattern-eq2047.true c.if-pattern-eq0.false

pub float_from_bits-result-2 : goal.float_from_bits-result-2
float_from_bits-result-2 c = not_nan_field c.args.pattern c.if-pattern-eq2047.false
