-- The loop's invariant: the entries from here on have the verdict of all of them. Assumes nothing.
use mathlib.Core.Path.{refl, sym, ◌∙◌}
use Rattle.walk.proofs.Entries.{judging_over, judging_ten, judging_five, judging_again}
use Rattle.walk.proofs.leaf.judge.Goals as goal

pub returns-then-n-number : goal.returns-then-n-number
returns-then-n-number c = judging_ten _ _ _ _ _ c.loop-place.invariant c.loop-place-test.true _ refl c.if-n-number.true

pub returns-then-not-admitted_at : goal.returns-then-not-admitted_at
returns-then-not-admitted_at c =
    judging_five _ _ _ _ _ c.loop-place.invariant c.loop-place-test.true _ refl c.if-n-number.false (sym c.admitted_at.ensures ∙ c.if-not-admitted_at.true)

pub loop-place-preserved : goal.loop-place-preserved
loop-place-preserved c =
    judging_again _ _ _ _ _ c.loop-place.invariant c.loop-place-test.true _ refl c.if-n-number.false (sym c.admitted_at.ensures ∙ c.if-not-admitted_at.false)

pub returns : goal.returns
returns c = judging_over _ _ _ _ _ c.loop-place.invariant c.loop-place-test.false
