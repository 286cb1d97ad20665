-- After i nodes each node is told by those below i. Assumes nothing.
use mathlib.Core.Path.{◌≡◌, sym, ◌∙◌, ap}
use native.Mathlib.Omega.{arith}
use Rattle.tree.specs.Lent.{node_count}
use Rattle.accept.specs.inner.Room.{named}
use Rattle.accept.proofs.Fills.{named_more, named_none}
use Rattle.accept.proofs.parents.name_parents.Goals as goal

pub loop-i-init : goal.loop-i-init
loop-i-init c = λ j l. c.requires.2 j l ∙ sym (named_none c.args.links.now j)

pub loop-i-preserved : goal.loop-i-preserved
loop-i-preserved c =
    let l = c.loop-i in
    λ j m. c.name_children.ensures.by_index j (omega (arith, c.requires.1)) ∙ named_more c.args.links.now j l.i _ (l.invariant j m)

pub returns-clause-by_index : goal.returns-clause-by_index
returns-clause-by_index c =
    let a = c.args in
    let l = c.loop-i in
    let n : l.i ≡ node_count a.links.now = omega arith in
    λ j m. l.invariant j m ∙ ap (named a.links.now j) n
