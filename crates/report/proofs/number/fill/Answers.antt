-- The numbers written so far are the first of the list. Assumes nothing.
use mathlib.Core.Path.{refl}
use native.Mathlib.Omega.{arith}
use borrow.Author.Rules.{rules}
use lib.ListN.{length-set}
use Rattle.report.specs.Little.{numbers}
use Rattle.report.proofs.Reading.{numbers_more, numbers_all}
use Rattle.report.proofs.number.fill.Goals as goal

pub loop-i-init : goal.loop-i-init
unfolding numbers
loop-i-init c = (search rules, refl, refl)

pub loop-i-preserved : goal.loop-i-preserved
loop-i-preserved c = (search rules, simp length-set c.loop-i.invariant.1, numbers_more _ _ c.loop-i.out c.loop-i.i _ (omega (arith, c.loop-i-test.true, c.loop-i.invariant.1)) c.number.ensures c.loop-i.invariant.2)

pub returns : goal.returns
returns c = numbers_all _ _ c.loop-i.out c.loop-i.i _ (omega (arith, c.loop-i.invariant.0, c.loop-i-test.false)) c.loop-i.invariant.1 c.loop-i.invariant.2
