-- What is left of the way up gives the whole. Assumes nothing.
use mathlib.Core.Path.{◌≡◌, sym, ◌∙◌, ap}
use Prim.Native.Nat.{ℕ, ◌+◌, ◌-◌}
use native.Mathlib.Omega.{arith}
use Rattle.lent.specs.Limits.{deepest}
use Rattle.accept.specs.inner.Room.{climbs}
use Rattle.accept.proofs.Fills.{climb_there, climb_none, climb_on, climb_end}
use Rattle.accept.proofs.parents.climbs.Goals as goal

pub returns-then-at-eq0 : goal.returns-then-at-eq0
returns-then-at-eq0 c =
    let l = c.loop in
    sym (climb_there c.args.work.now (deepest - l.counter) l.at (omega (arith, c.loop-test.true)) c.if-at-eq0.true) ∙ l.invariant

pub returns-then-told-eq-NONE : goal.returns-then-told-eq-NONE
returns-then-told-eq-NONE c =
    let l = c.loop in
    sym (climb_none c.args.work.now (deepest - l.counter) l.at (omega (arith, c.loop-test.true)) c.if-at-eq0.false (sym c.word-told.ensures ∙ c.if-told-eq-NONE.true)) ∙ l.invariant

pub loop-preserved : goal.loop-preserved
loop-preserved c =
    let l = c.loop in
    let w = c.args.work.now in
    let n : deepest - (l.counter + 1) ≡ deepest - l.counter - 1 = omega arith in
    ap (λ (d : ℕ). climbs w d (c.word-told.result - 1)) n
    ∙ ap (λ (k : ℕ). climbs w (deepest - l.counter - 1) (k - 1)) c.word-told.ensures
    ∙ sym (climb_on w (deepest - l.counter) l.at (omega (arith, c.loop-test.true)) c.if-at-eq0.false (λ e. c.if-told-eq-NONE.false (c.word-told.ensures ∙ e)))
    ∙ l.invariant

pub returns : goal.returns
returns c =
    let l = c.loop in
    sym (climb_end c.args.work.now (deepest - l.counter) l.at (omega arith)) ∙ l.invariant
