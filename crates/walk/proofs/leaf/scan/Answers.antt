-- The two passes give what one pass gives. Assumes nothing.
use mathlib.Core.Path.{sym, ◌∙◌}
use Rattle.std.proofs.lemmas.Result.{err_from_is_err_and}
use Rattle.walk.proofs.Entries.{scan_unfit, scan_fit}
use Rattle.walk.proofs.leaf.scan.Goals as goal

pub returns-in_err-judge : goal.returns-in_err-judge
returns-in_err-judge c =
    let p = err_from_is_err_and c.from_residual.result c.from_residual.ensures.1 in rw (p.1, p.2) (scan_unfit _ _ _ _ _ _ _ (sym c.judge.ensures ∙ c.in_err-judge.was))

pub returns : goal.returns
returns c = scan_fit _ _ _ _ _ _ _ (sym c.judge.ensures ∙ c.in_ok-judge.was) _ c.nearest-nearest.ensures
