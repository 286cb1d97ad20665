-- Each way out is by the tests that led there; the first one says no more than those after it. Assumes nothing.
use Rattle.triangle.proofs.Steps.{none_first, none_det, none_u, none_u2, none_v, none_uv, none_t, to_t}
use Rattle.triangle.proofs.Crossing.distance.Goals as goal

pub returns-then-not-least : goal.returns-then-not-least
returns-then-not-least c = none_first _ _ _ _ _ _ c.lower.ensures c.lower-least.ensures c.if-not-least.true

pub returns-then-magnitude : goal.returns-then-magnitude
returns-then-magnitude c = none_det _ _ _ _ _ c.magnitude.ensures c.if-magnitude.true

pub returns-then-not-self : goal.returns-then-not-self
returns-then-not-self c =
    none_u _ _ _ _ _ c.magnitude.ensures c.if-magnitude.false c.if-not-self.true

pub returns-then-not-self-2 : goal.returns-then-not-self-2
returns-then-not-self-2 c =
    none_u2 _ _ _ _ _ c.magnitude.ensures c.if-magnitude.false c.if-not-self.false c.if-not-self-2.true

pub returns-then-self : goal.returns-then-self
returns-then-self c =
    none_v _ _ _ _ _ c.magnitude.ensures c.if-magnitude.false c.if-not-self.false c.if-not-self-2.false c.if-self.true

pub returns-then-both : goal.returns-then-both
returns-then-both c =
    none_uv _ _ _ _ _ c.magnitude.ensures c.if-magnitude.false c.if-not-self.false c.if-not-self-2.false c.if-self.false c.if-both.true

pub returns-then-self-2 : goal.returns-then-self-2
returns-then-self-2 c =
    none_t _ _ _ _ _ c.magnitude.ensures c.if-magnitude.false c.if-not-self.false c.if-not-self-2.false c.if-self.false c.if-both.false c.if-self-2.true

pub returns : goal.returns
returns c =
    to_t _ _ _ _ _ c.magnitude.ensures c.if-magnitude.false c.if-not-self.false c.if-not-self-2.false c.if-self.false c.if-both.false c.if-self-2.false
