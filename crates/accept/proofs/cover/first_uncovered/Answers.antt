-- Those from the round on give the lowest of all. Assumes nothing.
use mathlib.Core.Path.{◌≡◌, sym, ◌∙◌, ap}
use Prim.Native.Nat.{ℕ, ◌+◌, ◌-◌}
use native.Mathlib.Omega.{arith}
use lib.ListN.{length}
use Rattle.lent.specs.Lowest.{lowest}
use Rattle.lent.proofs.Lowest.{start, end, part_clear, part_broken}
use Rattle.accept.specs.inner.Room.{uneven}
use Rattle.accept.proofs.cover.first_uncovered.Goals as goal

pub loop-from-init : goal.loop-from-init
loop-from-init c = start (uneven c.args.links.now) c.args.places

pub returns-in-Some-clause-value : goal.returns-in-Some-clause-value
returns-in-Some-clause-value c =
    let a = c.args in
    let l = c.loop-from in
    sym (part_broken (uneven a.links.now) l.from (l.from + c.min.result) a.places (omega arith) (omega arith) _ _ c.first_uneven.ensures c.in-Some.is) ∙ l.invariant

pub loop-from-preserved : goal.loop-from-preserved
loop-from-preserved c =
    let a = c.args in
    let l = c.loop-from in
    let n : l.from + length a.work.now ≡ l.from + c.min.result = omega arith in
    ap (λ (k : ℕ). lowest (uneven a.links.now) k (a.places - k)) n
    ∙ sym (part_clear (uneven a.links.now) l.from (l.from + c.min.result) a.places (omega arith) (omega arith) _ c.first_uneven.ensures c.in_default.is)
    ∙ l.invariant

pub returns-clause-value : goal.returns-clause-value
returns-clause-value c = sym (end (uneven c.args.links.now) c.loop-from.from c.args.places c.loop-from-test.false) ∙ c.loop-from.invariant

pub returns-in_default-clause-value : goal.returns-in_default-clause-value
returns-in_default-clause-value c =
    let a = c.args in
    let l = c.loop-from in
    sym (end (uneven a.links.now) (l.from + c.min.result) a.places (omega arith))
    ∙ sym (part_clear (uneven a.links.now) l.from (l.from + c.min.result) a.places (omega arith) (omega arith) _ c.first_uneven.ensures c.in_default.is)
    ∙ l.invariant
