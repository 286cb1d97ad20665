-- The line of the case that the answer is. Assumes nothing.
use mathlib.Core.Path.{◌∙◌}
use Rattle.report.proofs.Writing.{wrote_as}
use Rattle.report.proofs.Lines.{hit_line_lem, miss_line_lem, refused_line_lem}
use Rattle.report.proofs.line.put_ray.Goals as goal

pub returns-in-Struck : goal.returns-in-Struck
returns-in-Struck c = (wrote_as _ _ _ _ _ _ (hit_line_lem _ _ _ _ _ _ _ c.in-Struck.is c.from.ensures c.bits.ensures) c.put_hit.ensures.0, c.put_hit.ensures.1)

pub returns-in-Missed : goal.returns-in-Missed
returns-in-Missed c = (wrote_as _ _ _ _ _ _ (miss_line_lem _ _ _ _ c.in-Missed.is) c.put_miss.ensures.0, c.put_miss.ensures.1)

pub returns-in-Refused : goal.returns-in-Refused
returns-in-Refused c = (wrote_as _ _ _ _ _ _ (refused_line_lem _ _ _ _ c.in-Refused.is (c.from-in-Refused.ensures ∙ c.number.ensures)) c.put_refused.ensures.0, c.put_refused.ensures.1)
