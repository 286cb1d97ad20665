-- Lists that break no condition hold a tree as rule G2 asks of one: the tree that grows from node 0. Assumes nothing.
use mathlib.Core.Path.{◌≡◌, refl, sym, ◌∙◌, subst}
use mathlib.Core.Bool.{true, false, ◌&&◌}
use mathlib.Core.Logic.{⊎_elim}
use Prim.Native.Nat.{ℕ, zero, suc, ◌+◌, ◌<◌}
use native.Mathlib.Omega.{arith}
use lib.Dec.{leb, ltb}
use lib.ListN.{length}
use borrow.Author.Tests.{eqb-true, not-false}
use Rattle.lent.specs.Limits.{deepest}
use Rattle.float.proofs.Cases.{same?, true_is, or_r, and_both}
use Rattle.aabb.specs.Bounds.{bounded, is_empty, usable, box_at}
use Rattle.tree.specs.Lent.{Lent}
use Rattle.tree.specs.Node.{node_at, linked, node_of}
use Rattle.tree.specs.Tree.{Tree}
use Rattle.tree.specs.Accepted.{Accepted}
use Rattle.tree.proofs.Fitted.{fitting}
use Rattle.accept.specs.Count.{tick, count}
use Rattle.accept.specs.Conditions.{nodes, meshed, single, parent, reached, breaks_2, breaks_3, covered, breaks_4}
use Rattle.accept.specs.inner.Room.{first_at, count_at, kind_at}
use Rattle.accept.proofs.Count.{count_same}
use Rattle.accept.proofs.Faults.{of_empty}
use Rattle.trusted.specs.Meets.{Sound, Meets}
use Rattle.trusted.proofs.Sums.{sum, sum_same, sum_ones, sum_turned, count_sum, range_count}
use Rattle.trusted.proofs.Entries.{entry, no_more, permuted}
use Rattle.trusted.proofs.Family.{only_child, no_child}
use Rattle.trusted.proofs.Good.{Good, leafy, inner, good}
use Rattle.trusted.proofs.Growing.{grow, grow_leaf, in_leaf, not_in, whole_total, whole_stands}

-- ---- (iv): the leaves hold as many places as the list has
count_nil : (n : ℕ) → count (λ p. false) n ≡ 0
unfolding count
count_nil zero = refl
count_nil (suc n) = omega (arith, count_nil n)

module _ (s : Lent) where
  holds_places : (i : ℕ) → Good s i → count (λ p. covered s p i) (length s.tree.index) ≡ count_at s.tree.links i
  holds_places i (leafy k h o b) =
      count_same (λ p. covered s p i) (λ p. leb (first_at s.tree.links i) p && ltb p (first_at s.tree.links i + count_at s.tree.links i)) (length s.tree.index) (λ p l. in_leaf s i p k)
      ∙ range_count (first_at s.tree.links i) (first_at s.tree.links i + count_at s.tree.links i) (omega arith) (length s.tree.index) h
      ∙ omega arith
  holds_places i (inner k c h b) =
      count_same (λ p. covered s p i) (λ p. false) (length s.tree.index) (λ p l. not_in s i p k) ∙ count_nil (length s.tree.index) ∙ sym c

  alone : (p : ℕ) → breaks_4 s p ≡ false → count (covered s p) (nodes s) ≡ 1
  unfolding breaks_4
  alone p e = eqb-true _ _ (not-false _ e)

  all_places : ((i : ℕ) → i < nodes s → Good s i) → ((p : ℕ) → p < length s.tree.index → breaks_4 s p ≡ false) → sum (count_at s.tree.links) (nodes s) ≡ length s.tree.index
  all_places g f =
      sum_same (count_at s.tree.links) (λ i. sum (λ p. tick (covered s p i)) (length s.tree.index)) (nodes s) (λ i l. sym (holds_places i (g i l)) ∙ count_sum (λ p. covered s p i) (length s.tree.index))
      ∙ sum_turned (λ i p. tick (covered s p i)) (nodes s) (length s.tree.index)
      ∙ sum_same (λ p. sum (λ i. tick (covered s p i)) (nodes s)) (λ p. 1) (length s.tree.index) (λ p l. sym (count_sum (covered s p) (nodes s)) ∙ alone p (f p l))
      ∙ sum_ones (length s.tree.index)

module _ (s : Lent) (A : Sound s) (K : Meets s) where
  some : 0 < nodes s
  some = (fitting s.tree.boxes s.tree.links A.fitted).0

  one_each : length s.tree.index ≡ meshed s
  one_each = omega (arith, K.long, no_more (meshed s) s.tree.index K.five)

  no_parent : count (parent s 0) (nodes s) ≡ 0
  unfolding breaks_2
  no_parent = eqb-true _ _ (not-false _ (K.two 0 some))

  -- ---- a mesh of triangles
  module _ (mesh : meshed s ≡ 0 → ⊥) where
    sound : (i : ℕ) → i < nodes s → Good s i
    sound i l = good s i mesh (K.one i l)

    reach : (j : ℕ) → j < nodes s → reached s deepest j ≡ true
    unfolding breaks_3
    reach j l = not-false _ (K.three j l)

    of_mesh : Accepted s (grow s deepest 0)
    of_mesh =
        let x = whole_stands s sound some K.two reach K.six in
        let size-sum = whole_total s sound some K.two reach K.six (λ k. 1) in
        let held-sum = whole_total s sound some K.two reach K.six (count_at s.tree.links) in
        let sized = x.size_is ∙ size-sum ∙ sum_ones (nodes s) in
        record {
          walkable = record {
            whole = A.whole;
            few = A.few;
            fitted = A.fitted;
            one_each = one_each;
            entries = λ p l. entry (meshed s) s.tree.index p (K.five p l);
            admitted = A.admitted;
            holds = x.holds;
            sized = omega (arith, sized);
            shallow = x.shallow;
            nested = x.nested;
            covers = x.held_is ∙ held-sum ∙ all_places s sound K.four;
          };
          finite = λ h. x.finite;
          occupied = λ h. x.occupied;
          bare = λ e. absurd (mesh e);
          once = only_child s K.two;
          root = no_child s K.two no_parent;
          all_nodes = sym sized;
          apart = λ q l. x.covering_is q ∙ whole_total s sound some K.two reach K.six (λ k. tick (covered s q k)) ∙ sym (count_sum (covered s q) (nodes s)) ∙ alone s q (K.four q l);
          permuted = permuted (meshed s) s.tree.index K.five one_each;
          snug = x.snug;
        }

  -- ---- the empty mesh
  module _ (none : meshed s ≡ 0) where
    is_single : single s (node_of s.tree 0) ≡ true
    is_single = not-false _ (sym (of_empty s (single s (node_of s.tree 0)) 0 none refl) ∙ K.one 0 some)

    pub record Lone : Type 0 where
      pub nodes_are : nodes s ≡ 1
      pub empty_list : length s.tree.index ≡ 0
      pub empty_box_lem : is_empty (box_at s.tree.boxes 0) ≡ true
      pub first_is : first_at s.tree.links 0 ≡ 0
      pub count_is : count_at s.tree.links 0 ≡ 0
      pub kind_is : kind_at s.tree.links 0 ≡ 1

    lone : Lone
    unfolding single node_at linked
    lone =
        let a = and_both _ _ is_single in
        let b = and_both _ _ a.1 in
        let c = and_both _ _ b.1 in
        let d = and_both _ _ c.1 in
        let e = and_both _ _ d.1 in
        record {
          nodes_are = eqb-true _ _ a.0;
          empty_list = eqb-true _ _ b.0;
          empty_box_lem = c.0;
          first_is = eqb-true _ _ d.0;
          count_is = eqb-true _ _ e.0;
          kind_is = eqb-true _ _ e.1;
        }

    of_none : Accepted s (grow s deepest 0)
    unfolding node_at linked usable
    of_none =
        let o = lone in
        subst (λ (t : Tree). Accepted s t) (sym (grow_leaf s deepest 0 o.kind_is))
        (record {
          walkable = record {
            whole = A.whole;
            few = A.few;
            fitted = A.fitted;
            one_each = one_each;
            entries = λ p l. absurd (omega (arith, o.empty_list, l));
            admitted = A.admitted;
            holds = record { bounds = refl; first = refl; count = refl; kind = o.kind_is; inside = omega (arith, o.first_is, o.count_is) };
            sized = omega (arith, o.nodes_are);
            shallow = omega arith;
            nested = or_r (bounded (box_at s.tree.boxes 0)) (is_empty (box_at s.tree.boxes 0)) (true_is _ o.empty_box_lem);
            covers = o.count_is ∙ sym o.empty_list;
          };
          finite = λ h. absurd (omega (arith, none));
          occupied = λ h. absurd (omega (arith, none));
          bare = λ e. (true_is _ o.empty_box_lem, o.first_is, o.count_is);
          once = only_child s K.two;
          root = no_child s K.two no_parent;
          all_nodes = o.nodes_are;
          apart = λ q l. absurd (omega (arith, o.empty_list));
          permuted = permuted (meshed s) s.tree.index K.five one_each;
          snug = λ q h l. absurd (omega (arith, o.count_is));
        })

  -- (i) to (vi) hold, so rule G2 does
  pub meets_tree : Accepted s (grow s deepest 0)
  meets_tree = ⊎_elim (λ e. of_none e) (λ n. of_mesh n) (same? (meshed s) 0)
