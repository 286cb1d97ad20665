-- One return for each form that a binary32 has among the binary64's patterns. Assumes nothing.
use native.Mathlib.Omega.{arith}
use Rattle.float.proofs.SingleExact.{points_none, few_small, points_few, points_many, points_most}
use Rattle.float.proofs.single.candidate.Goals as goal

pub returns-then-size-lt3936146074321813504 : goal.returns-then-size-lt3936146074321813504
returns-then-size-lt3936146074321813504 c = points_none c.args.pattern c.if-size-lt3936146074321813504.true

pub overflow_cast-result : goal.overflow_cast-result
overflow_cast-result c = omega (arith, few_small c.args.pattern c.if-size-lt3936146074321813504.false c.if-size-lt4039728865751334912.true)

pub overflow_add-result : goal.overflow_add-result
overflow_add-result c = omega (arith, few_small c.args.pattern c.if-size-lt3936146074321813504.false c.if-size-lt4039728865751334912.true)

pub returns-then-size-lt4039728865751334912 : goal.returns-then-size-lt4039728865751334912
returns-then-size-lt4039728865751334912 c = points_few c.args.pattern c.if-size-lt3936146074321813504.false c.if-size-lt4039728865751334912.true

pub returns-then-size-lt5183643171103440896 : goal.returns-then-size-lt5183643171103440896
returns-then-size-lt5183643171103440896 c = points_many c.args.pattern c.if-size-lt4039728865751334912.false c.if-size-lt5183643171103440896.true

pub returns : goal.returns
returns c = points_most c.args.pattern c.if-size-lt5183643171103440896.false
