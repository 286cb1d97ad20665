-- The lowest that `find` finds. Assumes nothing.
use Rattle.std.proofs.Common.{◌≡◌, true, false, ◌∙◌, rules, tests}
use Rattle.std.proofs.lemmas.Iterator.{first_from_Range}
use Rattle.lent.proofs.Lowest.{lowest_below}
use Rattle.stl.proofs.Held.{refused_in, held_lowest}
use Rattle.stl.proofs.reading.first_refused.Goals as goal

pub returns : goal.returns
returns c =
    let a = c.args in
    let p = refused_in a.s.now a.at a.n in
    lowest_below p a.n _ (first_from_Range _ _ _ _ (λ i. p i ≡ true) (λ i. p i ≡ false) c.find.ensures.ran (λ x q k. search (rules, tests)) (λ x q k. search (rules, tests)))
    ∙ held_lowest a.s.now a.at a.n
