-- The fallback runs where one side is empty, and only there. Assumes nothing.
use mathlib.Core.Path.{◌∙◌}
use native.Mathlib.Omega.{arith}
use Rattle.builder.proofs.Growing.{left_all, left_none, left_some, split_even, split_odd}
use Rattle.builder.proofs.partition.separate.Goals.{then-left-eq0-via-then-left-eq0, then-left-eq0-via-else-left-eq0+then-left-index}
use Rattle.builder.proofs.partition.separate.Goals as goal

pub put_in_order-requires : goal.put_in_order-requires
put_in_order-requires c = omega (arith, c.requires, c.partition-left.auto.index)

pub shape_of-index-then-left-eq0 : goal.shape_of-index-then-left-eq0
shape_of-index-then-left-eq0 c = c.put_in_order.auto.index ∙ c.partition-left.auto.index

pub returns-then-left-eq0 : goal.returns-then-left-eq0
returns-then-left-eq0 c =
    let a = c.args in
    let p = c.partition-left in
    let o = c.put_in_order in
    split_even a.triangles.now a.axis a.position a.index.now p.new.index o.new.index p.result p.ensures (elim c.then-left-eq0.branch [ then-left-eq0-via-then-left-eq0 w ↦ left_none p.result _ w.if-left-eq0.true | then-left-eq0-via-else-left-eq0+then-left-index w ↦ left_all p.result _ w.if-left-eq0.false w.if-left-index.true ]) o.ensures o.auto.index

pub returns : goal.returns
returns c =
    let a = c.args in
    let p = c.partition-left in
    split_odd a.triangles.now a.axis a.position a.index.now p.new.index p.result p.ensures (left_some p.result _ c.if-left-eq0.false c.if-left-index.false)
