-- The input's cases. Assumes nothing.
use mathlib.Core.Path.{sym, ◌∙◌}
use native.Mathlib.Omega.{arith}
use Rattle.report.proofs.Measuring.{fits}
use Rattle.report.proofs.Writing.{wrote_as, wrote_within}
use Rattle.report.proofs.SurveyEnds.{mesh_read, mesh_within, mesh_is, bad_report, good_report}
use borrow.Author.Rules.{rules}
use Rattle.report.proofs.survey.Goals as goal

pub overflow_mul-end : goal.overflow_mul-end
overflow_mul-end c = let f = fits _ _ (sym c.in-Some.is ∙ c.measure.ensures) in omega arith

pub slice_bounds-mesh-end : goal.slice_bounds-mesh-end
slice_bounds-mesh-end c = let f = fits _ _ (sym c.in-Some.is ∙ c.measure.ensures) in search rules

pub fill-requires : goal.fill-requires
fill-requires c = let f = fits _ _ (sym c.in-Some.is ∙ c.measure.ensures) in mesh_read _ _ _ _ f.2

pub slice_bounds-report-end : goal.slice_bounds-report-end
slice_bounds-report-end c = let f = fits _ _ (sym c.in-Some.is ∙ c.measure.ensures) in mesh_within _ c.fill.new.out _ (omega (arith, f)) c.fill.auto.out

pub report-requires : goal.report-requires
report-requires c = let f = fits _ _ (sym c.in-Some.is ∙ c.measure.ensures) in search rules

pub returns-in_default : goal.returns-in_default
returns-in_default c = let w = wrote_as _ _ _ _ _ _ (bad_report _ _ c.measure.ensures c.in_default.is) c.put.ensures in record {
  wrote = w;
  prefix_len = wrote_within _ _ _ _ w;
}

pub returns : goal.returns
returns c =
    let f = fits _ _ (sym c.in-Some.is ∙ c.measure.ensures) in
    let l = c.fill in
    let w = wrote_as _ _ _ _ _ _ (good_report _ _ _ _ c.measure.ensures c.in-Some.is (mesh_is _ _ _ _ (omega (arith, f)) l.auto.out l.ensures)) c.report.ensures in record {
      wrote = w;
      prefix_len = wrote_within _ _ _ _ w;
    }
