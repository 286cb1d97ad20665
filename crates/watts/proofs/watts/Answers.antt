-- Where both judgements pass the sky refuses nothing, and the report is of the places that it filled. Assumes nothing.
use mathlib.Core.Path.{sym, ap, ◌∙◌}
use native.Mathlib.Omega.{arith}
use Rattle.lent.proofs.Ladder.{apart}
use Rattle.lent.specs.Refusals.{refusal_of}
use Rattle.tree.specs.Lent.{Lent}
use Rattle.sky.specs.Sky.{Filling}
use Rattle.sky.proofs.Room.{served as sky_served}
use Rattle.watts.specs.Watts.{Report}
use Rattle.watts.specs.Cut.{Served}
use Rattle.watts.proofs.Serving.{asked, both_pass, watts_reported}
use Rattle.watts.proofs.watts.Goals.{After-sky}
use Rattle.watts.proofs.watts.Goals as goal

served : (c : After-sky) → Served c.args.scene.now c.args.rays.now c.args.weights.now c.args.times.now c.args.told.now
served c =
    both_pass _ _ _ _ _ _ (ap (λ (s : Lent). s.mesh) c.scene.view_is) (sym (ap refusal_of c.in_ok-judge.was) ∙ c.judge.ensures) (sym (ap refusal_of c.in_ok-weighable.was) ∙ c.weighable.ensures)

pub returns-in_err-sky : goal.returns-in_err-sky
returns-in_err-sky c =
    let s = c.args.scene.now in
    let a = asked s _ _ _ _ (served (goal.at.returns-in_err-sky c).After-sky) in
    apart _ _ (sym (ap (λ (o : Filling). o.refusal) c.sky.ensures ∙ sky_served s _ _ _ a.sky) ∙ ap refusal_of c.in_err-sky.was)

pub summed-figures-requires : goal.summed-figures-requires
summed-figures-requires c =
    let a = asked _ _ _ _ _ (served (goal.at.summed-figures-requires c).After-sky) in
    (omega (arith, a.sky.roomy, c.sky.auto.told), omega (arith, a.matched), a.within)

pub returns : goal.returns
returns c =
    watts_reported _ _ _ _ _ (served (goal.at.returns c).After-sky) _ c.sky.ensures _ _ c.summed-figures.ensures (ap (Report c.summed-figures.result) c.share-share.ensures)
