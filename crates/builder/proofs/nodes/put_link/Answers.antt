-- Three stores, in the definition's order. Assumes nothing.
use native.Mathlib.Omega.{arith}
use lib.ListN.{length-set}
use Rattle.lent.proofs.Flat.{written}
use Rattle.builder.specs.Layout.{link_put}
use Rattle.builder.proofs.nodes.put_link.Goals as goal

pub bounds-links-at-2 : goal.bounds-links-at-2
bounds-links-at-2 c = simp length-set (omega arith)

pub bounds-links-at-3 : goal.bounds-links-at-3
bounds-links-at-3 c = simp length-set (omega arith)

pub shape_of-links : goal.shape_of-links
shape_of-links c = simp length-set

pub returns : goal.returns
unfolding link_put
returns c = written 3 _ _ _ _
