-- The greater of one or two children. Assumes nothing.
use mathlib.Core.Path.{sym, ◌∙◌}
use Rattle.triangle.specs.Mesh.{centroid_at}
use Rattle.builder.specs.Fallback.{sorts_before}
use Rattle.builder.proofs.Heaps.{left_child, only_child, right_child}
use Rattle.builder.proofs.Linear.{linear_ahead}
use Rattle.builder.proofs.ordering.greater_child.Goals as goal

pub returns-then-index-l-lt2 : goal.returns-then-index-l-lt2
returns-then-index-l-lt2 c =
    let a = c.args in
    let at = centroid_at a.triangles.now a.axis in record {
      greater = only_child (sorts_before at) (linear_ahead at) a.index.now a.i c.requires c.if-index-l-lt2.true;
      number_value = c.of-left.ensures;
    }

pub returns-then-is_ahead : goal.returns-then-is_ahead
returns-then-is_ahead c =
    let a = c.args in
    let at = centroid_at a.triangles.now a.axis in
    let l = c.of-left.ensures in
    let r = c.of-right.ensures in
    let t = c.is_ahead.ensures at l.1 r.1 in record {
      greater = right_child (sorts_before at) (linear_ahead at) a.index.now a.i c.if-index-l-lt2.false (rw (← l.0, ← r.0) (sym t ∙ c.if-is_ahead.true));
      number_value = r;
    }

pub returns-else-is_ahead : goal.returns-else-is_ahead
returns-else-is_ahead c =
    let a = c.args in
    let at = centroid_at a.triangles.now a.axis in
    let l = c.of-left.ensures in
    let r = c.of-right.ensures in
    let t = c.is_ahead.ensures at l.1 r.1 in record {
      greater = left_child (sorts_before at) (linear_ahead at) a.index.now a.i c.if-index-l-lt2.false (rw (← l.0, ← r.0) (sym t ∙ c.if-is_ahead.false));
      number_value = l;
    }
