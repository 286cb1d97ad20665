-- Growing by the corners that are left gives what growing by all of them does. Assumes nothing.
use mathlib.Core.Path.{◌≡◌}
use mathlib.Core.List.{[], ◌∷◌}
use lib.ListN.{drop}
use Rattle.street.specs.Placing.{grown_by}
use Rattle.street.proofs.Corners.{at_each, spot, row, sheet}
use Rattle.street.proofs.placing.world_box.Given as goal

abbrev pub invariant-loop-x : goal.invariant-loop-x
invariant-loop-x l =
    let f = spot l.y l.z in
    grown_by l.matrix l.bounds (at_each f (drop l.x-index l.x-items)) ≡ grown_by l.matrix l.initial.bounds (at_each f l.x-items)

abbrev pub invariant-loop-y : goal.invariant-loop-y
invariant-loop-y l =
    let f = row (l.root.min.x ∷ l.root.max.x ∷ []) l.z in
    grown_by l.matrix l.bounds (at_each f (drop l.y-index l.y-items)) ≡ grown_by l.matrix l.initial.bounds (at_each f l.y-items)

abbrev pub invariant-loop-z : goal.invariant-loop-z
invariant-loop-z l =
    let f = sheet (l.root.min.x ∷ l.root.max.x ∷ []) (l.root.min.y ∷ l.root.max.y ∷ []) in
    grown_by l.matrix l.bounds (at_each f (drop l.z-index l.z-items)) ≡ grown_by l.matrix l.initial.bounds (at_each f l.z-items)
