-- By what `distance` and `hit` ensure. Assumes nothing.
use mathlib.Core.Path.{sym, ◌∙◌}
use Rattle.triangle.specs.Meeting.{strike, found}
use Rattle.triangle.proofs.Triangle.intersect.Goals as goal

pub returns-in_err-t : goal.returns-in_err-t
unfolding strike found
returns-in_err-t c = rw (c.from_residual.ensures, sym c.distance.ensures ∙ c.in_err-t.was)

pub returns : goal.returns
unfolding strike found
returns c = rw (sym c.distance.ensures ∙ c.in_ok-t.was, c.hit.ensures)
