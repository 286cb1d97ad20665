-- The word, and then the digits. Assumes nothing.
use native.Mathlib.Omega.{arith}
use Rattle.report.specs.Text.{named}
use Rattle.report.proofs.Writing.{and_then}
use Rattle.report.proofs.text.put_named.Goals as goal

pub returns : goal.returns
unfolding named
returns c = (and_then _ _ _ _ _ _ _ _ (omega (arith, c.put-next.ensures.place)) c.put-next.ensures c.put_decimal.ensures.0, omega (arith, c.put-next.ensures.place, c.put_decimal.ensures.1))
