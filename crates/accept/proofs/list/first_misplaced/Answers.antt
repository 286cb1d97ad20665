-- Those from p on give the lowest of all; the room has 1 for what was seen below p. Assumes nothing.
use mathlib.Core.Path.{◌≡◌, sym, ◌∙◌, ap}
use mathlib.Core.Bool.{true}
use native.Mathlib.Omega.{arith}
use lib.ListN.{length, get_or}
use borrow.Author.Tests.{lt-ltb, le-ltb}
use Rattle.lent.proofs.Lowest.{start, on, stop, end}
use Rattle.accept.specs.Count.{tick}
use Rattle.accept.specs.Conditions.{misplaced}
use Rattle.accept.specs.Accept.{lacking}
use Rattle.accept.proofs.Fills.{seen_none, far, near, seen_set, ticked, unticked}
use Rattle.accept.proofs.list.first_misplaced.Goals.{then-n-k-via-then-n-k, then-n-k-via-else-n-k+then-work-k-ne-UNSEEN}
use Rattle.accept.proofs.list.first_misplaced.Goals as goal

pub loop-p-init : goal.loop-p-init
loop-p-init c =
    let a = c.args in
    (λ k l. c.requires.1 k l ∙ sym (ap tick (seen_none a.n a.index.now k)), start (misplaced a.n a.index.now) (length a.index.now))

pub returns-then-n-k-clause-value : goal.returns-then-n-k-clause-value
unfolding lacking
returns-then-n-k-clause-value c =
    let a = c.args in
    let l = c.loop-p in
    let k = get_or a.index.now l.p 0 in
    let m : misplaced a.n a.index.now l.p ≡ true =
    elim c.then-n-k.branch [
      | then-n-k-via-then-n-k w ↦ far a.n a.index.now l.p w.if-n-k.true
      | then-n-k-via-else-n-k+then-work-k-ne-UNSEEN w ↦ near a.n a.index.now l.p w.if-n-k.false ∙ ticked _ _ (l.invariant.0 k w.if-n-k.false) w.if-work-k-ne-UNSEEN.true
    ]
    in
    ap (lacking a.n a.index.now) (sym (stop (misplaced a.n a.index.now) l.p (length a.index.now) c.loop-p-test.true m) ∙ l.invariant.1)

pub loop-p-preserved : goal.loop-p-preserved
loop-p-preserved c =
    let a = c.args in
    let l = c.loop-p in
    let k = get_or a.index.now l.p 0 in
    let x = c.if-n-k.false in (
      λ j m. seen_set a.n a.index.now l.work l.p j (omega arith) (omega arith) (l.invariant.0 j m),
      sym (on (misplaced a.n a.index.now) l.p (length a.index.now) c.loop-p-test.true (near a.n a.index.now l.p x ∙ unticked _ _ (l.invariant.0 k x) c.if-work-k-ne-UNSEEN.false)) ∙ l.invariant.1,
    )

pub returns-then-index-n-clause-value : goal.returns-then-index-n-clause-value
unfolding lacking
returns-then-index-n-clause-value c =
    let a = c.args in
    sym (ap (lacking a.n a.index.now) (sym c.loop-p.invariant.1 ∙ end (misplaced a.n a.index.now) c.loop-p.p (length a.index.now) c.loop-p-test.false) ∙ rw (lt-ltb _ _ c.if-index-n.true))

pub returns-clause-value : goal.returns-clause-value
unfolding lacking
returns-clause-value c =
    let a = c.args in
    sym (ap (lacking a.n a.index.now) (sym c.loop-p.invariant.1 ∙ end (misplaced a.n a.index.now) c.loop-p.p (length a.index.now) c.loop-p-test.false) ∙ rw (le-ltb _ _ c.if-index-n.false))
