-- The lowest that `find` finds. Assumes nothing.
use Rattle.std.proofs.Common.{◌≡◌, true, false, ap, ◌∙◌, rules, tests}
use Rattle.std.proofs.lemmas.Iterator.{first_from_Range}
use Rattle.lent.specs.Lowest.{lowest}
use Rattle.lent.proofs.Lowest.{lowest_below}
use Rattle.tree.specs.Lent.{Lists, node_count}
use Rattle.accept.specs.Conditions.{foreign, breaks_1}
use Rattle.accept.proofs.nodes.first_faulty.Goals as goal

pub returns : goal.returns
unfolding breaks_1
returns c =
    let t = c.args.tree.now in
    let p = breaks_1 (foreign c.args.triangles.now t.index t.boxes t.links) in
    lowest_below p _ _ (first_from_Range _ _ _ _ (λ i. p i ≡ true) (λ i. p i ≡ false) c.find.ensures.ran (λ x q k. search (rules, tests)) (λ x q k. search (rules, tests)))
    ∙ ap (λ (s : Lists). lowest p 0 (node_count s.links)) c.tree.view_is
