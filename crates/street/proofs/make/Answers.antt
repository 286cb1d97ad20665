-- A refusal of the placements' own checks is the call's. Assumes nothing.
use Rattle.std.proofs.lemmas.Result.{err_from_is_err_and}
use Rattle.lent.specs.Ladder.{answered, unless}
use Rattle.lent.proofs.Ladder.{further}
use Rattle.builder.specs.Reply.{reply}
use Rattle.street.specs.Making.{made, made_over}
use Rattle.street.proofs.make.Goals as goal

pub returns-in_err-judge : goal.returns-in_err-judge
unfolding reply made made_over unless answered
returns-in_err-judge c =
    let p = err_from_is_err_and c.from_residual.result c.from_residual.ensures.1 in
    rw (p.1, p.2, further, ← c.judge.ensures, c.in_err-judge.was)
