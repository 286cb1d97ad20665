-- Each return is a line of the definition. Assumes nothing.
use native.Mathlib.Omega.{arith}
use Rattle.watts.proofs.LowestTerms.{share_none, share_beyond, share_fits}
use Rattle.watts.proofs.fraction.share.Goals as goal

pub returns-then-common-eq0 : goal.returns-then-common-eq0
returns-then-common-eq0 c = share_none _ _ _ c.gcd-common.ensures c.if-common-eq0.true

pub returns-in-Some : goal.returns-in-Some
returns-in-Some c = let e = c.in-Some.ensures in rw e.1 (share_fits _ _ _ c.gcd-common.ensures c.if-common-eq0.false e.0)

pub returns-in-None : goal.returns-in-None
returns-in-None c = share_beyond _ _ _ c.gcd-common.ensures c.if-common-eq0.false (omega (arith, c.in-None.ensures))
