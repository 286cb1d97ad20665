-- An index list of which no entry breaks (v) and none is lacking has each triangle number once, and one that has breaks nothing. Assumes nothing.
use mathlib.Core.Path.{◌≡◌, refl, sym, ◌∙◌, ap}
use mathlib.Core.Bool.{Bool, true, false}
use mathlib.Core.List.{List, [], ◌∷◌}
use mathlib.Core.Logic.{⊎_elim}
use Prim.Native.Nat.{ℕ, zero, suc, ◌+◌, ◌≤◌, ◌<◌}
use native.Mathlib.Omega.{arith}
use lib.Dec.{leb, eqb}
use lib.ListN.{length, get_or}
use borrow.Author.Tests.{eq-eqb, ne_eqb, eqb-true, leb-false, lt-leb}
use Rattle.lent.specs.Permutation.{occurs, occ, Perm, up_to}
use Rattle.lent.proofs.Permutation.{occurs_same, occurs_cases, occ_append, occ_at, up_below}
use Rattle.float.proofs.Cases.{same?, low_or_high, neither}
use Rattle.accept.specs.Count.{tick, any, count}
use Rattle.accept.specs.Conditions.{misplaced}
use Rattle.accept.proofs.Count.{any_none}
use Rattle.trusted.proofs.Sums.{sum, sum_same, sum_most, sum_ones, sum_turned, count_sum, share, sum_one, all_ones}

turned_eqb : (a b : ℕ) → eqb a b ≡ eqb b a
turned_eqb a b = ⊎_elim (λ e. eq-eqb a b e ∙ sym (eq-eqb b a (sym e))) (λ e. ne_eqb a b e ∙ sym (ne_eqb b a (λ w. e (sym w)))) (same? a b)

-- ---- how often a number stands in a list, by places
count_front : (p : ℕ → Bool) (n : ℕ) → count p (suc n) ≡ tick (p 0) + count (λ i. p (suc i)) n
unfolding count
count_front p zero = omega arith
count_front p (suc n) = omega (arith, count_front p n)

occ_count : (v : ℕ) (xs : List ℕ) → occ v xs ≡ count (λ q. eqb (get_or xs q 0) v) (length xs)
unfolding count occurs
occ_count v [] = refl
occ_count v (x ∷ xs) = omega (arith, count_front (λ q. eqb (get_or (x ∷ xs) q 0) v) (length xs), ap tick (turned_eqb v x), occ_count v xs)

none_so : (p : ℕ → Bool) (n : ℕ) → ((i : ℕ) → i < n → p i ≡ false) → count p n ≡ 0
unfolding count
none_so p zero f = refl
none_so p (suc n) f = omega (arith, none_so p n (λ i l. f i (omega arith)), ap tick (f n (omega arith)))

-- 0, 1, .., n - 1 has each number below n once
up_zero : (n v : ℕ) → n ≤ v → occ v (up_to n) ≡ 0
up_zero n v h = go (occ v (up_to n)) refl
  where
    go : (k : ℕ) → occ v (up_to n) ≡ k → occ v (up_to n) ≡ 0
    go zero e = e
    go (suc k) e = let o : 0 < occ v (up_to n) = omega arith in absurd (omega (arith, up_below n v o))

up_one : (n v : ℕ) → v < n → occ v (up_to n) ≡ 1
unfolding up_to
up_one zero v h = absurd (omega arith)
up_one (suc n) v h =
    ⊎_elim (λ e. omega (arith, occ_append v (up_to n) (n ∷ []), up_zero n v (omega arith), ap (λ (z : ℕ). occurs v z) (sym e), occurs_same v))
    (λ d. ⊎_elim (λ e. absurd (d e)) (λ z. omega (arith, occ_append v (up_to n) (n ∷ []), up_one n v (omega arith))) (occurs_cases v n)) (same? v n)

-- ---- (v): each number once at most, and as many entries as triangles
module _ (n : ℕ) (index : List ℕ) where
  pub entry : (p : ℕ) → misplaced n index p ≡ false → get_or index p 0 < n
  unfolding misplaced
  entry p e = leb-false n (get_or index p 0) (neither (leb n (get_or index p 0)) (any (λ q. eqb (get_or index q 0) (get_or index p 0)) p) e).0

  any_false : (t : ℕ → Bool) (m : ℕ) → any t m ≡ false → count t m ≡ 0
  unfolding any count
  any_false t zero e = refl
  any_false t (suc m) e = let h = neither (any t m) (t m) e in omega (arith, any_false t m h.0, ap tick h.1)

  unseen : (p : ℕ) → misplaced n index p ≡ false → count (λ q. eqb (get_or index q 0) (get_or index p 0)) p ≡ 0
  unfolding misplaced
  unseen p e =
      any_false (λ q. eqb (get_or index q 0) (get_or index p 0)) p (neither (leb n (get_or index p 0)) (any (λ q. eqb (get_or index q 0) (get_or index p 0)) p) e).1

  module _ (f : (p : ℕ) → p < length index → misplaced n index p ≡ false) where
    at_most_once : (k m : ℕ) → m ≤ length index → count (λ q. eqb (get_or index q 0) k) m ≤ 1
    unfolding count
    at_most_once k zero l = omega arith
    at_most_once k (suc m) l = go (eqb (get_or index m 0) k) refl (at_most_once k m (omega arith))
      where
        none : get_or index m 0 ≡ k → count (λ q. eqb (get_or index q 0) k) m ≡ 0
        none w = ap (λ (z : ℕ). count (λ q. eqb (get_or index q 0) z) m) (sym w) ∙ unseen m (f m (omega arith))

        go : (t : Bool) → eqb (get_or index m 0) k ≡ t → count (λ q. eqb (get_or index q 0) k) m ≤ 1 → count (λ q. eqb (get_or index q 0) k) m + tick (eqb (get_or index m 0) k) ≤ 1
        go true e r = omega (arith, none (eqb-true (get_or index m 0) k e), ap tick e)
        go false e r = omega (arith, ap tick e)

    row : (p : ℕ) → p < length index → sum (λ k. tick (eqb (get_or index p 0) k)) n ≡ 1
    row p l =
        sum_same (λ k. tick (eqb (get_or index p 0) k)) (λ k. share (eqb k (get_or index p 0)) 1) n (λ k m. ap tick (turned_eqb (get_or index p 0) k))
        ∙ sum_one (λ k. 1) (get_or index p 0) n (entry p (f p l))

    -- the entries, told by the number that each has
    by_number : sum (λ k. count (λ p. eqb (get_or index p 0) k) (length index)) n ≡ length index
    by_number =
        sum_same (λ k. count (λ p. eqb (get_or index p 0) k) (length index)) (λ k. sum (λ p. tick (eqb (get_or index p 0) k)) (length index)) n
        (λ k l. count_sum (λ p. eqb (get_or index p 0) k) (length index))
        ∙ sym (sum_turned (λ p k. tick (eqb (get_or index p 0) k)) (length index) n)
        ∙ sum_same (λ p. sum (λ k. tick (eqb (get_or index p 0) k)) n) (λ p. 1) (length index) row
        ∙ sum_ones (length index)

    pub no_more : length index ≤ n
    no_more =
        omega
        (arith, by_number, sum_most (λ k. count (λ p. eqb (get_or index p 0) k) (length index)) (λ k. 1) n (λ k l. at_most_once k (length index) (omega arith)), sum_ones n)

    pub permuted : length index ≡ n → Perm index (up_to n)
    permuted e v = ⊎_elim (λ l. there v l ∙ sym (up_one n v l)) (λ l. beyond v l ∙ sym (up_zero n v l)) (low_or_high v n)
      where
        there : (v : ℕ) → v < n → occ v index ≡ 1
        there v l =
            occ_count v index ∙ all_ones (λ k. count (λ p. eqb (get_or index p 0) k) (length index)) n (λ k m. at_most_once k (length index) (omega arith)) (by_number ∙ e) v l

        beyond : (v : ℕ) → n ≤ v → occ v index ≡ 0
        beyond v l = occ_count v index ∙ none_so (λ q. eqb (get_or index q 0) v) (length index) (λ p m. ne_eqb (get_or index p 0) v (λ w. omega (arith, entry p (f p m))))

  -- ---- the other way
  twice : (xs : List ℕ) (k p : ℕ) → k < p → p < length xs → get_or xs k 0 ≡ get_or xs p 0 → 2 ≤ occ (get_or xs p 0) xs
  twice [] k p h l e = absurd (omega arith)
  twice (x ∷ xs) k zero h l e = absurd (omega arith)
  twice (x ∷ xs) zero (suc p) h l e = omega (arith, occ_at xs p (omega arith), occurs_same x, ap (λ (z : ℕ). occurs z x) (sym e))
  twice (x ∷ xs) (suc k) (suc p) h l e = omega (arith, twice xs k p (omega arith) (omega arith) e)

  pub in_place : Perm index (up_to n) → ((p : ℕ) → p < length index → get_or index p 0 < n) → (p : ℕ) → p < length index → misplaced n index p ≡ false
  unfolding misplaced
  in_place P below p l =
      let v = get_or index p 0 in
      rw (lt-leb n v (below p l))
      (any_none (λ q. eqb (get_or index q 0) v) p (λ q m. ne_eqb (get_or index q 0) v (λ e. omega (arith, twice index q p m l e, P v, up_one n v (below p l)))))
