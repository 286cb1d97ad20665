-- The lowest that `find` finds. Assumes nothing.
use Rattle.std.proofs.Common.{◌≡◌, true, false, rules, tests}
use Rattle.std.proofs.lemmas.Iterator.{first_from_Range}
use Rattle.lent.proofs.Lowest.{lowest_below}
use Rattle.stl.specs.Writing.{inexact_at, first_inexact}
use Rattle.stl.proofs.writing.first_inexact.Goals as goal

pub returns : goal.returns
unfolding first_inexact
returns c =
    let p = inexact_at c.args.mesh.now in
    lowest_below p c.args.n _ (first_from_Range _ _ _ _ (λ i. p i ≡ true) (λ i. p i ≡ false) c.find.ensures.ran (λ x q k. search (rules, tests)) (λ x q k. search (rules, tests)))
