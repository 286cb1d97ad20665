-- The signs are masked off, and each margin is added to its half. Assumes nothing.
use mathlib.Core.Path.{◌∙◌}
use native.Mathlib.Omega.{arith}
use Rattle.stl.proofs.Admits.{raised_is}
use Rattle.stl.proofs.bytes.raised.Goals as goal

pub returns : goal.returns
returns c = raised_is c.args.s.now c.args.at c.from-low.result c.from-high.result c.args.first c.args.second (omega arith) (c.from-low.ensures ∙ c.word.ensures) (c.from-high.ensures ∙ c.word-2.ensures)
