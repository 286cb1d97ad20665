-- The lowest that `find` finds, in the range where the room has what it counts. Assumes nothing.
use Rattle.std.proofs.Common.{◌≡◌, ℕ, ◌+◌, ◌-◌, ◌≤◌, ◌<◌, Bool, true, false, eqb, Option, Some, None, get_or, refl, arith, rules, tests}
use Rattle.std.specs.Option.{MatchOption}
use Rattle.std.proofs.lemmas.Iterator.{first_from_Range}
use Rattle.lent.specs.Lowest.{lowest}
use Rattle.lent.proofs.Lowest.{lowest_in}
use Rattle.tree.specs.Lent.{node_count}
use Rattle.accept.specs.Count.{tick}
use Rattle.accept.specs.inner.Room.{uneven}
use Rattle.accept.proofs.Fills.{uneven_yes, uneven_no}
use Rattle.accept.proofs.cover.first_uneven.Goals as goal

found : (p : ℕ → Bool) (Yes No : ℕ → Type 0) (a b : ℕ) (r : Option ℕ) → a ≤ b
    → ((x : ℕ) → a ≤ x → x < b → Yes x → p x ≡ true)
    → ((x : ℕ) → a ≤ x → x < b → No x → p x ≡ false)
    → MatchOption r ((k : ℕ) → a ≤ k → k < b → No k) (λ i. (a ≤ i) × (i < b) × Yes i × ((k : ℕ) → a ≤ k → k < i → No k))
    → r ≡ lowest p a (b - a)
found p Yes No a b None l y n h = lowest_in p a b None l (λ k i j. n k i j (h k i j))
found p Yes No a b (Some x) l y n h = lowest_in p a b (Some x) l (h.0, h.1, y x h.0 h.1 h.2, λ k i j. n k i (omega arith) (h.3 k i j))

pub returns : goal.returns
returns c =
    let a = c.args in
    let q = c.requires in
    let told = λ (x : ℕ). get_or a.work.now (x - a.from) 0 in
    let even = λ (x : ℕ). node_count a.links.now + tick (eqb x 0) in
    found (uneven a.links.now) (λ x. told x ≡ even x → ⊥) (λ x. told x ≡ even x) a.from a.end _ q.1
    (λ x l m. uneven_yes a.links.now a.work.now a.from x (even x) q.3 l (omega (arith, q.2)) refl)
    (λ x l m. uneven_no a.links.now a.work.now a.from x (even x) q.3 l (omega (arith, q.2)) refl)
    (first_from_Range _ _ _ _ (λ x. told x ≡ even x → ⊥) (λ x. told x ≡ even x) c.find.ensures.ran (λ x q k. search (rules, tests)) (λ x q k. search (rules, tests)))
