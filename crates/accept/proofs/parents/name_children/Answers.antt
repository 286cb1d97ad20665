-- Each child in turn. Assumes nothing.
use lib.ListN.{get_or}
use Rattle.accept.proofs.Fills.{both_adopt, no_child}
use Rattle.accept.proofs.parents.name_children.Goals as goal

pub returns-then-links-i-eq0-clause-by_index : goal.returns-then-links-i-eq0-clause-by_index
returns-then-links-i-eq0-clause-by_index c =
    let a = c.args in
    both_adopt a.links.now a.work.now _ _ a.i c.if-links-i-eq0.true c.adopt.ensures c.adopt-then-links-i-eq0.ensures

pub returns-else-links-i-eq0-clause-by_index : goal.returns-else-links-i-eq0-clause-by_index
returns-else-links-i-eq0-clause-by_index c =
    let a = c.args in
    λ j m. no_child a.links.now (get_or a.work.now j 0) a.i c.if-links-i-eq0.false j
