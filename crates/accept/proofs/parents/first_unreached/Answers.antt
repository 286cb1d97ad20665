-- The lowest that `find` finds. Assumes nothing.
use Rattle.std.proofs.Common.{◌≡◌, true, false, rules, tests}
use Rattle.std.proofs.lemmas.Iterator.{first_from_Range}
use Rattle.lent.proofs.Lowest.{lowest_below}
use Rattle.accept.specs.inner.Room.{adrift}
use Rattle.accept.proofs.parents.first_unreached.Goals as goal

pub returns : goal.returns
unfolding adrift
returns c =
    let p = adrift c.args.work.now in
    lowest_below p c.args.nodes _ (first_from_Range _ _ _ _ (λ i. p i ≡ true) (λ i. p i ≡ false) c.find.ensures.ran (λ x q k. search (rules, tests)) (λ x q k. search (rules, tests)))
