-- The build's cases. Assumes nothing.
use mathlib.Core.Path.{◌∙◌}
use native.Mathlib.Omega.{arith}
use Rattle.report.specs.Survey.{built_of}
use Rattle.report.proofs.Writing.{and_then, wrote_as}
use Rattle.report.proofs.SurveyEnds.{handed_is, refused_report, built_report}
use Rattle.report.proofs.report.Goals as goal

pub returns-in-Err : goal.returns-in-Err
unfolding built_of
returns-in-Err c =
    let b = c.build in
    wrote_as _ _ _ _ _ _ (refused_report _ _ _ _ _ _ _ _ b.ensures c.in-Err.field-0 _ c.in-Err.is c.number.ensures) c.put_build_refused.ensures.0

pub returns-in-Ok : goal.returns-in-Ok
unfolding built_of
returns-in-Ok c =
    let b = c.build in
    let p = c.put_built-at in
    let w = c.new-scene.ensures ∙ handed_is _ _ _ _ _ _ _ _ c.requires.0 b.auto.boxes b.auto.links c.min-shown.ensures in
    wrote_as _ _ _ _ _ _ (built_report _ _ _ _ _ _ _ _ b.ensures _ _ c.in-Ok.is w) (and_then _ _ _ _ _ _ _ _ (omega (arith, p.ensures.1, c.requires)) p.ensures.0 c.put_rays.ensures)
