-- The loop's invariant: what is left of the walk gives the whole walk's answer. Assumes nothing.
use mathlib.Core.Path.{◌≡◌, sym, ap, ◌∙◌}
use mathlib.Core.List.{[], ◌∷◌}
use Prim.Native.Nat.{ℕ, ◌-◌, ◌/◌}
use lib.ListN.{length, get_or}
use native.Mathlib.Omega.{arith}
use Rattle.std.specs.Prelude.{Ok}
use Rattle.std.proofs.lemmas.Result.{err_from_is_err_and}
use Rattle.aabb.specs.declared.vector.Ray.{Ray}
use Rattle.tree.specs.Lent.{Mesh, Lent}
use Rattle.walk.specs.Answer.{told}
use Rattle.walk.specs.Walk.{start, over, run}
use Rattle.walk.specs.declared.turn.Turn.TheVariants.{Down}
use mathlib.Core.Logic.{inl, inr}
use Rattle.walk.specs.inner.Turns.{visit}
use Rattle.walk.proofs.VisitEnds.{its_ray, its_own}
use Rattle.walk.proofs.LoopInvariant.{ended, last_of, spent, Counting, one_box, ready, stopped, dropped, open_room, opens}
use Rattle.walk.proofs.PendingList.{fewer, opened_last}
use Rattle.walk.proofs.run.Goals.{After-boxed-a, After-visit, in-Down, in-Missed}
use Rattle.walk.proofs.run.Goals as goal

-- the node that is taken, with its box test counted
counting : (b : After-boxed-a) → Counting b.args.scene.now b.args.ray (length b.tree.inside.links.now / 3) b.loop-pending.pending b.loop-pending.a b.boxed-a.result
counting b = record {
  going = b.loop-pending.invariant.0;
  some = b.loop-pending-test.true;
  more = b.if-nodes-a.false;
  one = b.boxed-a.ensures;
}

-- what its visit gives
seen : (v : After-visit) → let s = v.args.scene.now in v.visit.result ≡ visit s.mesh.triangles s.tree v.args.ray (last_of v.loop-pending.pending) (v.loop-pending.pending.len - 1) v.boxed-a.result
seen v =
    let s = v.args.scene.now in
    let b = v.boxed-a.result in
    v.visit.ensures.turn
    ∙ ap (λ (r : Ray). visit s.mesh.triangles s.tree r v.loop-pending.last (v.loop-pending.pending.len - 1) b) (its_ray _ _ v.of-aim.ensures)
    ∙ ap (λ (i : ℕ). visit s.mesh.triangles s.tree v.args.ray i (v.loop-pending.pending.len - 1) b) (v.loop-pending.invariant.1 v.loop-pending-test.true)

pub returns-then-nodes-a : goal.returns-then-nodes-a
unfolding told
returns-then-nodes-a c =
    let l = c.loop-pending in
    rw (l.invariant.1 c.loop-pending-test.true) (spent l.invariant.0 c.loop-pending-test.true c.if-nodes-a.true)
    ∙ ap (λ (n : ℕ). run c.args.scene.now c.args.ray n (0 ∷ []) start) l.invariant.0.whole

pub visit-requires : goal.visit-requires
visit-requires c =
    (rw (c.loop-pending.invariant.1 c.loop-pending-test.true) (ready (counting (goal.at.visit-requires c).After-boxed-a)), its_own _ _ c.of-aim.ensures)

pub returns-in_err-left : goal.returns-in_err-left
unfolding told
returns-in_err-left c =
    let p = err_from_is_err_and c.from_residual.result c.from_residual.ensures.1 in
    rw (p.1, p.2) (stopped (counting (goal.at.returns-in_err-left c).After-boxed-a) (seen (goal.at.returns-in_err-left c).After-visit) _ c.in_err-left.was)
    ∙ ap (λ (n : ℕ). run c.args.scene.now c.args.ray n (0 ∷ []) start) c.loop-pending.invariant.0.whole

pub loop-pending-smaller-then-besides-gt0 : goal.loop-pending-smaller-then-besides-gt0
loop-pending-smaller-then-besides-gt0 c =
    let d = dropped (counting (goal.at.loop-pending-smaller-then-besides-gt0 c).After-boxed-a) (seen (goal.at.loop-pending-smaller-then-besides-gt0 c).After-visit) c.visit.ensures.ahead c.match-branch-2.a (elim c.match-branch-2.branch [ in-Down w ↦ inl (c.in_ok-left.was ∙ ap Ok (w.in-Down.is ∙ ap Down (sym w.a-is))) | in-Missed w ↦ inr (c.in_ok-left.was ∙ ap Ok w.in-Missed.is, w.a-is) ]) in omega (arith, c.if-nodes-a.false, d.0)

pub loop-pending-preserved-then-besides-gt0 : goal.loop-pending-preserved-then-besides-gt0
loop-pending-preserved-then-besides-gt0 c =
    let e = c.dropped-pending.ensures in
    let d = dropped (counting (goal.at.loop-pending-preserved-then-besides-gt0 c).After-boxed-a) (seen (goal.at.loop-pending-preserved-then-besides-gt0 c).After-visit) c.visit.ensures.ahead c.match-branch-2.a (elim c.match-branch-2.branch [ in-Down w ↦ inl (c.in_ok-left.was ∙ ap Ok (w.in-Down.is ∙ ap Down (sym w.a-is))) | in-Missed w ↦ inr (c.in_ok-left.was ∙ ap Ok w.in-Missed.is, w.a-is) ]) in (
      d.1 c.dropped-pending.result e.0 (fewer _ _ _ _ e.0 e.1),
      λ h. ap (λ (k : ℕ). get_or c.dropped-pending.result.nodes (k - 1) 0) (sym e.0),
      ap length e.1 ∙ c.loop-pending.invariant.2,
    )

pub loop-pending-smaller : goal.loop-pending-smaller
loop-pending-smaller c =
    let d = dropped (counting (goal.at.loop-pending-smaller c).After-boxed-a) (seen (goal.at.loop-pending-smaller c).After-visit) c.visit.ensures.ahead c.match-branch-2.a (elim c.match-branch-2.branch [ in-Down w ↦ inl (c.in_ok-left.was ∙ ap Ok (w.in-Down.is ∙ ap Down (sym w.a-is))) | in-Missed w ↦ inr (c.in_ok-left.was ∙ ap Ok w.in-Missed.is, w.a-is) ]) in omega (arith, c.if-nodes-a.false, d.0)

pub loop-pending-preserved : goal.loop-pending-preserved
loop-pending-preserved c =
    let e = c.dropped-pending.ensures in
    let d = dropped (counting (goal.at.loop-pending-preserved c).After-boxed-a) (seen (goal.at.loop-pending-preserved c).After-visit) c.visit.ensures.ahead c.match-branch-2.a (elim c.match-branch-2.branch [ in-Down w ↦ inl (c.in_ok-left.was ∙ ap Ok (w.in-Down.is ∙ ap Down (sym w.a-is))) | in-Missed w ↦ inr (c.in_ok-left.was ∙ ap Ok w.in-Missed.is, w.a-is) ]) in (
      d.1 c.dropped-pending.result e.0 (fewer _ _ _ _ e.0 e.1),
      λ h. absurd (omega (arith, h, c.if-besides-gt0.false, e.0)),
      ap length e.1 ∙ c.loop-pending.invariant.2,
    )

pub opened-pending-requires : goal.opened-pending-requires
opened-pending-requires c =
    (c.loop-pending-test.true, open_room (counting (goal.at.opened-pending-requires c).After-boxed-a) (seen (goal.at.opened-pending-requires c).After-visit) c.visit.ensures.ahead (c.in_ok-left.was ∙ ap Ok c.in-Open.is), c.loop-pending.invariant.2)

pub loop-pending-smaller-in-Open : goal.loop-pending-smaller-in-Open
loop-pending-smaller-in-Open c = omega (arith, c.if-nodes-a.false, one_box (counting (goal.at.loop-pending-smaller-in-Open c).After-boxed-a))

pub loop-pending-preserved-in-Open : goal.loop-pending-preserved-in-Open
loop-pending-preserved-in-Open c =
    let e = c.opened-pending.ensures in (
      opens (counting (goal.at.loop-pending-preserved-in-Open c).After-boxed-a) (seen (goal.at.loop-pending-preserved-in-Open c).After-visit) c.visit.ensures.ahead (c.in_ok-left.was ∙ ap Ok c.in-Open.is) c.opened-pending.result e.0 e.1,
      λ h. sym (opened_last _ _ _ _ _ e.0 e.1),
      e.2,
    )

pub returns : goal.returns
returns c =
    let l = c.loop-pending in
    c.over.ensures
    ∙ ap (λ (m : Mesh). over m c.args.ray l.a) (ap (λ (s : Lent). s.mesh) c.scene.view_is)
    ∙ ended l.invariant.0 (omega arith)
    ∙ ap (λ (n : ℕ). run c.args.scene.now c.args.ray n (0 ∷ []) start) l.invariant.0.whole
