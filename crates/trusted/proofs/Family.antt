-- A node's parents, by the test and as the predicate of a tree says it: both ways. Assumes nothing.
use mathlib.Core.Path.{◌≡◌, refl, sym, ◌∙◌, ap}
use mathlib.Core.Bool.{Bool, true, false, ◌||◌, true≢false}
use mathlib.Core.Logic.{◌⊎◌, inl, inr, ⊎_elim}
use Prim.Native.Nat.{ℕ, ◌<◌}
use native.Mathlib.Omega.{arith}
use lib.Dec.{eqb}
use borrow.Author.Tests.{eq-eqb, ne_eqb, eqb-true}
use Rattle.float.proofs.Cases.{same?, and_both}
use Rattle.tree.specs.Lent.{Lent}
use Rattle.tree.specs.Node.{node_of, left_of, right_of}
use Rattle.tree.specs.Holds.{ChildOf, OnlyChild}
use Rattle.accept.specs.Count.{count}
use Rattle.accept.specs.Conditions.{nodes, parent, breaks_2}
use Rattle.accept.proofs.Count.{count_none}
use Rattle.accept.proofs.Family.{Parent, only, parent_of}

module _ (s : Lent) where
  one_of : (j a b : ℕ) → (eqb j a || eqb j b) ≡ true → (j ≡ a) ⊎ (j ≡ b)
  one_of j a b e = ⊎_elim (λ w. inl w) (λ w. inr (eqb-true j b (sym (ap (λ (t : Bool). t || eqb j b) (ne_eqb j a w)) ∙ e))) (same? j a)

  or_true : (a : Bool) → (a || true) ≡ true
  or_true true = refl
  or_true false = refl

  pub child_of : (i j : ℕ) → parent s j i ≡ true → ChildOf s.tree i j
  unfolding parent
  child_of i j e =
      let p = and_both (eqb (node_of s.tree i).kind 0) (eqb j (left_of i (node_of s.tree i)) || eqb j (right_of i (node_of s.tree i))) e in
      (eqb-true (node_of s.tree i).kind 0 p.0, one_of j (left_of i (node_of s.tree i)) (right_of i (node_of s.tree i)) p.1)

  pub is_parent : (i j : ℕ) → ChildOf s.tree i j → parent s j i ≡ true
  unfolding parent
  is_parent i j (k, inl e) = rw (eq-eqb (node_of s.tree i).kind 0 k, eq-eqb j (left_of i (node_of s.tree i)) e)
  is_parent i j (k, inr e) =
      rw (eq-eqb (node_of s.tree i).kind 0 k, eq-eqb j (right_of i (node_of s.tree i)) e) (or_true (eqb j (left_of i (node_of s.tree i))))

  pub no_parent : (i j : ℕ) → (ChildOf s.tree i j → ⊥) → parent s j i ≡ false
  no_parent i j n = go (parent s j i) refl
    where
      go : (t : Bool) → parent s j i ≡ t → parent s j i ≡ false
      go true e = absurd (n (child_of i j e))
      go false e = e

  -- (ii), as rule G2 says it
  module _ (family : (j : ℕ) → j < nodes s → breaks_2 s j ≡ false) where
    pub only_child : (j : ℕ) → 0 < j → j < nodes s → OnlyChild s.tree j
    only_child j z l = by (parent_of s family j l (λ e. omega arith))
      where
        by : {w : ℕ} → Parent s j w → OnlyChild s.tree j
        by (only p v m a o) = record {
          parent = p;
          inside = m;
          child = child_of p j a;
          only = λ i k c. ⊎_elim (λ e. e) (λ n. absurd (true≢false (sym (is_parent i j c) ∙ o i k n))) (same? i p);
        }

    pub no_child : count (parent s 0) (nodes s) ≡ 0 → (i : ℕ) → i < nodes s → ChildOf s.tree i 0 → ⊥
    no_child z i l c = true≢false (sym (is_parent i 0 c) ∙ count_none (parent s 0) (nodes s) z i l)
