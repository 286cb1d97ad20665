-- What the step of a leaf or of an internal node leaves where it goes on. Assumes nothing.
use mathlib.Core.Path.{refl, ap, ◌∙◌}
use Prim.Native.Nat.{◌+◌, ◌^◌}
use native.Mathlib.Omega.{arith}
use Rattle.tree.specs.Lent.{Lists, Lent, node_count}
use Rattle.walk.proofs.Visits.{leaf_opened, internal_opened}
use Rattle.walk.proofs.step.visit.Goals as goal

pub returns-then-x-eq1-clause-ahead : goal.returns-then-x-eq1-clause-ahead
returns-then-x-eq1-clause-ahead c =
    let a = c.args.a in
    rw c.open.ensures
    (leaf_opened (node_count c.args.scene.now.tree.links) c.args.besides a.boxes (a.triangles + 2 ^ 32) c.mesh.inside.triangles.now c.tree.inside.index.now c.args.aim.ray c.args.i a.triangles c.read-x.result a (record { tests = refl; most = omega arith }) (omega arith))

pub returns-clause-ahead : goal.returns-clause-ahead
returns-clause-ahead c =
    let a = c.args.a in
    rw (c.open_internal.ensures, ap (λ (t : Lists). node_count t.links) (c.tree.view_is ∙ ap (λ (s : Lent). s.tree) c.scene.view_is))
    (internal_opened (node_count c.args.scene.now.tree.links) c.args.besides a.boxes (a.triangles + 2 ^ 32) c.args.i c.read-x.result)
