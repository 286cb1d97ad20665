-- A check that fails is answered, and else the conditions' verdict with the room zeroed. Assumes nothing.
use mathlib.Core.Path.{refl, sym, ◌∙◌, ap}
use Prim.Native.Nat.{ℕ, ◌+◌}
use lib.ListN.{length, replicate}
use borrow.Author.Tests.{ltb-false}
use Rattle.std.proofs.lemmas.Result.{err_from_is_err_and}
use Rattle.lent.specs.Ladder.{none, triangle_count, answered}
use Rattle.lent.specs.Refusals.{refusal}
use Rattle.lent.proofs.Ladder.{ends, judged, each_passed}
use Rattle.tree.specs.Lent.{node_count}
use Rattle.tree.proofs.Fitted.{fitting}
use Rattle.accept.specs.Conditions.{foreign}
use Rattle.accept.specs.Accept.{ruling, checks, accepted}
use Rattle.accept.proofs.Verdicts.{both_are}
use Rattle.accept.proofs.accept.Goals as goal

pub returns-in_err-fitting : goal.returns-in_err-fitting
unfolding accepted ruling answered
returns-in_err-fitting c =
    let p = err_from_is_err_and c.from_residual.result c.from_residual.ensures.1 in
    rw (p.1, p.2) (ends (judged (refusal c.in_err-fitting.field-0.0) c.in_err-fitting.ensures refl))

pub judge-verdict-requires : goal.judge-verdict-requires
judge-verdict-requires c =
    let a = c.args in
    let t = a.tree.now in
    let q = each_passed (checks (foreign a.triangles.now t.index t.boxes t.links) (length a.work.now)) (sym c.in_ok-fitting.ensures) in
    let h = fitting _ _ q.1.1.0 in
    (h.0, h.1, ltb-false (length a.work.now) (node_count t.links + triangle_count a.triangles.now) q.1.1.1.0)

pub returns : goal.returns
unfolding accepted answered
returns c =
    let e = c.judge-verdict.ensures in
    ends (judged none c.in_ok-fitting.ensures (both_are e.value (c.fill.ensures.after (λ y e. e) ∙ ap (λ (n : ℕ). replicate n 0) e.work_len_unchanged)))
