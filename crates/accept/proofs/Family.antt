-- Conditions (ii) and (iii) by what the work room tells of each node's parent. Assumes nothing.
use mathlib.Core.Path.{◌≡◌, refl, sym, ◌∙◌, ap}
use mathlib.Core.Bool.{Bool, true, false, not, ◌&&◌, ◌||◌, cond}
use mathlib.Core.List.{List}
use mathlib.Core.Logic.{◌⊎◌, inl, inr, ⊎_elim}
use Prim.Native.Nat.{ℕ, zero, suc, ◌-◌, ◌≤◌, ◌<◌}
use native.Mathlib.Omega.{arith}
use lib.Dec.{eqb}
use lib.ListN.{get_or}
use borrow.Author.Tests.{eq-eqb, ne_eqb, eqb-true, not-false}
use Rattle.float.proofs.Cases.{same?}
use Rattle.lent.specs.Limits.{most_nodes}
use Rattle.tree.specs.Lent.{Lent}
use Rattle.tree.specs.Node.{node_at, linked, left_of, right_of}
use Rattle.accept.specs.Count.{tick, count}
use Rattle.accept.specs.Conditions.{nodes, parent, breaks_2, reached}
use Rattle.accept.specs.inner.Room.{several, parent_at, adopted, named, orphan, climbs}
use Rattle.accept.proofs.Count.{count_more, count_same, count_one, any_one}

pub parent_is : (s : Lent) (j i : ℕ) → parent s j i ≡ parent_at s.tree.links j i
unfolding parent parent_at node_at linked left_of right_of
parent_is s j i = refl

-- ---- what stands for a node tells how many parents it has
pub data Tells (links : List ℕ) (j n w : ℕ) : Type 0 where
  none : w ≡ 0 → count (parent_at links j) n ≡ 0 → Tells links j n w
  one : (p : ℕ) → w ≡ suc p → p < n → parent_at links j p ≡ true → count (parent_at links j) n ≡ 1 → Tells links j n w
  more : w ≡ several → 2 ≤ count (parent_at links j) n → Tells links j n w

module _ (links : List ℕ) (j : ℕ) where
  kept : (n w : ℕ) → parent_at links j n ≡ false → Tells links j n w → Tells links j (suc n) w
  kept n w e (none v z) = none v (omega (arith, count_more (parent_at links j) n, ap tick e))
  kept n w e (one p v l a o) = one p v (omega arith) a (omega (arith, count_more (parent_at links j) n, ap tick e))
  kept n w e (more v m) = more v (omega (arith, count_more (parent_at links j) n, ap tick e))

  first_parent : (w i : ℕ) → w ≡ 0 → adopted w i ≡ suc i
  unfolding adopted
  first_parent w i e = rw (eq-eqb w 0 e) (omega arith)

  next_parent : (w i : ℕ) → (w ≡ 0 → ⊥) → adopted w i ≡ several
  unfolding adopted
  next_parent w i e = rw (ne_eqb w 0 e)

  added : (n w : ℕ) → parent_at links j n ≡ true → Tells links j n w → Tells links j (suc n) (adopted w n)
  added n w e (none v z) = one n (first_parent w n v) (omega arith) e (omega (arith, count_more (parent_at links j) n, ap tick e))
  added n w e (one p v l a o) = more (next_parent w n (λ z. omega arith)) (omega (arith, count_more (parent_at links j) n, ap tick e))
  added n w e (more v m) = more (next_parent w n (λ z. omega arith)) (omega (arith, count_more (parent_at links j) n, ap tick e))

  pub named_tells : (n : ℕ) → Tells links j n (named links j n)
  unfolding named count
  named_tells zero = none refl refl
  named_tells (suc n) = go (parent_at links j n) refl (named_tells n)
    where
      go : (t : Bool) → parent_at links j n ≡ t → Tells links j n (named links j n) → Tells links j (suc n) (cond t (adopted (named links j n) n) (named links j n))
      go true e r = added n (named links j n) e r
      go false e r = kept n (named links j n) e r

-- ---- (ii)
several_parents : (j w c : ℕ) → ((w ≡ 0) × (c ≡ 0)) ⊎ ((w ≡ several) × (2 ≤ c)) → not (eqb c (cond (eqb j 0) 0 1)) ≡ cond (eqb j 0) (not (eqb w 0)) (eqb w 0 || eqb w several)
several_parents j w c t = go (eqb j 0) t
  where
    go : (b : Bool) → ((w ≡ 0) × (c ≡ 0)) ⊎ ((w ≡ several) × (2 ≤ c)) → not (eqb c (cond b 0 1)) ≡ cond b (not (eqb w 0)) (eqb w 0 || eqb w several)
    go true (inl (v, z)) = rw (v, z)
    go true (inr (v, m)) = rw (v, ne_eqb c 0 (λ e. omega arith))
    go false (inl (v, z)) = rw (v, z)
    go false (inr (v, m)) = rw (v, ne_eqb c 1 (λ e. omega arith))

one_parent : (j w c p : ℕ) → w ≡ suc p → p < most_nodes → c ≡ 1 → not (eqb c (cond (eqb j 0) 0 1)) ≡ cond (eqb j 0) (not (eqb w 0)) (eqb w 0 || eqb w several)
one_parent j w c p v l o = go (eqb j 0)
  where
    go : (b : Bool) → not (eqb c (cond b 0 1)) ≡ cond b (not (eqb w 0)) (eqb w 0 || eqb w several)
    go true = rw (o, ne_eqb w 0 (λ e. omega arith))
    go false = rw (o, ne_eqb w 0 (λ e. omega arith), ne_eqb w several (λ e. omega arith))

module _ (s : Lent) (few : nodes s ≤ most_nodes) (work : List ℕ) (writes : (j : ℕ) → j < nodes s → get_or work j 0 ≡ named s.tree.links j (nodes s)) where
  parents_are : (j n : ℕ) → count (parent s j) n ≡ count (parent_at s.tree.links j) n
  parents_are j n = count_same (parent s j) (parent_at s.tree.links j) n (λ i l. parent_is s j i)

  told_by : (j w n : ℕ) → n ≤ most_nodes → Tells s.tree.links j n w
      → not (eqb (count (parent_at s.tree.links j) n) (cond (eqb j 0) 0 1)) ≡ cond (eqb j 0) (not (eqb w 0)) (eqb w 0 || eqb w several)
  told_by j w n f (none v z) = several_parents j w _ (inl (v, z))
  told_by j w n f (one p v l a o) = one_parent j w _ p v (omega arith) o
  told_by j w n f (more v m) = several_parents j w _ (inr (v, m))

  pub orphan_is : (j : ℕ) → j < nodes s → breaks_2 s j ≡ orphan work j
  unfolding breaks_2 orphan
  orphan_is j l =
      ap (λ (c : ℕ). not (eqb c (cond (eqb j 0) 0 1))) (parents_are j (nodes s))
      ∙ told_by j (named s.tree.links j (nodes s)) (nodes s) few (named_tells s.tree.links j (nodes s))
      ∙ ap (λ (w : ℕ). cond (eqb j 0) (not (eqb w 0)) (eqb w 0 || eqb w several)) (sym (writes j l))

-- ---- (iii), where (ii) holds
pub data Parent (s : Lent) (j w : ℕ) : Type 0 where
  only : (p : ℕ) → w ≡ suc p → p < nodes s → parent s j p ≡ true → ((i : ℕ) → i < nodes s → (i ≡ p → ⊥) → parent s j i ≡ false) → Parent s j w

module _ (s : Lent) (family : (j : ℕ) → j < nodes s → breaks_2 s j ≡ false) where
  pub has_one : (j : ℕ) → j < nodes s → (j ≡ 0 → ⊥) → count (parent s j) (nodes s) ≡ 1
  unfolding breaks_2
  has_one j l z = eqb-true _ _ (not-false _ (ap (λ (t : Bool). not (eqb (count (parent s j) (nodes s)) (cond t 0 1))) (sym (ne_eqb j 0 z)) ∙ family j l))

  parent_by : (j w : ℕ) → count (parent s j) (nodes s) ≡ 1 → Tells s.tree.links j (nodes s) w → Parent s j w
  parent_by j w c (none v z) = absurd (omega (arith, count_same (parent s j) (parent_at s.tree.links j) (nodes s) (λ i l. parent_is s j i)))
  parent_by j w c (one p v l a o) =
      only p v l (parent_is s j p ∙ a) (λ i m d. count_one (parent s j) (nodes s) c p i l m (parent_is s j p ∙ a) d)
  parent_by j w c (more v m) = absurd (omega (arith, count_same (parent s j) (parent_at s.tree.links j) (nodes s) (λ i l. parent_is s j i)))

  pub parent_of : (j : ℕ) → j < nodes s → (j ≡ 0 → ⊥) → Parent s j (named s.tree.links j (nodes s))
  parent_of j l z = parent_by j _ (has_one j l z) (named_tells s.tree.links j (nodes s))

  -- a node is reached in so many steps if its parent is in one less
  up_one : (d j w : ℕ) → (j ≡ 0 → ⊥) → Parent s j w → (p : ℕ) → w ≡ suc p → reached s (suc d) j ≡ reached s d p
  unfolding reached
  up_one d j w z (only q v l a o) p e =
      let same : p ≡ q = omega arith in
      rw (ne_eqb j 0 z)
      (any_one (λ i. parent s j i && reached s d i) (nodes s) q l (λ i m n. ap (λ (t : Bool). t && reached s d i) (o i m n))
      ∙ ap (λ (t : Bool). t && reached s d q) a
      ∙ ap (λ (k : ℕ). reached s d k) (sym same))

  module _ (work : List ℕ) (writes : (j : ℕ) → j < nodes s → get_or work j 0 ≡ named s.tree.links j (nodes s)) where
    step : (d j w : ℕ) → (j ≡ 0 → ⊥) → Parent s j w → get_or work j 0 ≡ w → ((p : ℕ) → p < nodes s → climbs work d p ≡ reached s d p) → climbs work (suc d) j ≡ reached s (suc d) j
    unfolding climbs
    step d j w z (only p v l a o) e r =
        rw (ne_eqb j 0 z, e, v, ne_eqb (suc p) 0 (λ y. omega arith))
        (ap (λ (k : ℕ). climbs work d k) (less p) ∙ r p l ∙ sym (up_one d j w z (only p v l a o) p v))
      where
        less : (p : ℕ) → suc p - 1 ≡ p
        less p = omega arith

    pub climbs_is : (d j : ℕ) → j < nodes s → climbs work d j ≡ reached s d j
    unfolding climbs reached
    climbs_is zero j l = refl
    climbs_is (suc d) j l =
        ⊎_elim (λ z. rw (eq-eqb j 0 z))
        (λ z. step d j _ z (parent_of j l z) (writes j l) (λ p m. climbs_is d p m))
        (same? j 0)
