-- Six stores, in the definition's order. Assumes nothing.
use native.Mathlib.Omega.{arith}
use lib.ListN.{length-set}
use Rattle.lent.proofs.Flat.{written}
use Rattle.builder.specs.Layout.{box_put}
use Rattle.builder.proofs.nodes.put_box.Goals as goal

pub bounds-boxes-at-2 : goal.bounds-boxes-at-2
bounds-boxes-at-2 c = simp length-set (omega arith)

pub bounds-boxes-at-3 : goal.bounds-boxes-at-3
bounds-boxes-at-3 c = simp length-set (omega arith)

pub bounds-boxes-at-4 : goal.bounds-boxes-at-4
bounds-boxes-at-4 c = simp length-set (omega arith)

pub bounds-boxes-at-5 : goal.bounds-boxes-at-5
bounds-boxes-at-5 c = simp length-set (omega arith)

pub bounds-boxes-at-6 : goal.bounds-boxes-at-6
bounds-boxes-at-6 c = simp length-set (omega arith)

pub shape_of-boxes : goal.shape_of-boxes
shape_of-boxes c = simp length-set

pub returns : goal.returns
unfolding box_put
returns c = written 6 _ _ _ _
