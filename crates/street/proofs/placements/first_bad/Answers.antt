-- The lowest that `find` finds. Assumes nothing.
use Rattle.std.proofs.Common.{◌≡◌, ℕ, not, true, false, rules, tests}
use Rattle.std.proofs.lemmas.Iterator.{first_from_Range}
use Rattle.lent.proofs.Lowest.{lowest_below}
use Rattle.street.specs.Making.{good_at}
use Rattle.street.proofs.placements.first_bad.Goals as goal

pub returns : goal.returns
returns c =
    let a = c.args in
    let p = λ (i : ℕ). not (good_at a.matrices.now a.inverses.now i) in
    lowest_below p a.m _ (first_from_Range _ _ _ _ (λ i. p i ≡ true) (λ i. p i ≡ false) c.find.ensures.ran (λ x q k. search (rules, tests)) (λ x q k. search (rules, tests)))
