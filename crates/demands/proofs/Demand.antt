-- Demand 3 holds of every tree that a walk can take, and so of every tree that is accepted and of every tree that is built. Assumes nothing.
use mathlib.Core.Path.{◌≡◌, refl, sym, ap, subst}
use Prim.Native.Nat.{ℕ, ◌*◌}
use native.Mathlib.Omega.{arith}
use lib.Dec.{T}
use mathlib.Core.List.{List}
use lib.ListN.{length, take}
use lib.Ieee.{Float}
use Rattle.aabb.specs.declared.vector.Ray.{Ray}
use Rattle.aabb.specs.Vector.{admitted_ray}
use Rattle.builder.specs.Reply.{served_reply}
use Rattle.builder.specs.Build.{Outcome, built}
use Rattle.builder.proofs.Successes.{success, accepted as accepted_lists}
use Rattle.tree.specs.Lent.{Lent, Labelled, lent}
use Rattle.lent.specs.Ladder.{triangle_count}
use Rattle.walk.specs.Answer.{Told}
use Rattle.walk.specs.Walk.{over}
use Rattle.tree.specs.Tree.{Tree, size, leaves}
use Rattle.tree.proofs.Counts.{odd_size}
use Rattle.tree.specs.Accepted.{Walkable, Accepted}
use Rattle.demands.proofs.Walking.{short, walked, few_tests}
use Rattle.demands.proofs.NearestHit.{walk_nearest, walk_clear}
use Rattle.demands.proofs.SameHit.{same_leaves_hit, reordered_hit}
use Rattle.trusted.specs.Exactly.{Trusted}
use Rattle.demands.specs.Handed.{handed_as, handed}
use Rattle.demands.specs.Demand.{Demand3, Signed}

module _ (s : Lent) (t : Tree) (r : Ray) (A : Walkable s t) (M : Labelled s.mesh) (R : T (admitted_ray r)) where
  -- every tree that lists hold and a walk can take, wherever it was built, with one material for each triangle
  pub demand_3 : Demand3 s t r
  unfolding over
  demand_3 =
      let e = walked s t r A M R in
      let boxes = ap (λ (a : Told). a.boxes) e in
      let tests = ap (λ (a : Told). a.triangles) e in
      record {
        served = ap (λ (a : Told). a.refusal) e;
        box_tests = boxes;
        triangle_tests = tests;
        most_boxes = omega (arith, boxes, short r t, odd_size t);
        most_triangles = omega (arith, tests, few_tests s t r A);
        hit = walk_nearest s t r A M R;
        no_hit = walk_clear s t r A M R;
      }

-- ---- a tree that is accepted, wherever it was built
module _ (s : Lent) (t : Tree) (A : Accepted s t) (M : Labelled s.mesh) where
  pub signed_tree : Signed s (size t) (leaves t)
  signed_tree =
      let W = A.walkable in
      record {
        tree = t;
        accepted = A;
        nodes_are = A.all_nodes;
        size_is = refl;
        leaves_are = refl;
        odd = odd_size t;
        answer = λ r R. demand_3 s t r W M R;
        settled = λ r R s' t' m C L. same_leaves_hit s s' t t' r m W C M R L;
        any_order = λ r R order O. reordered_hit s order t r W M O R;
      }

-- ---- a built tree
module _ (mesh : List Float) (materials index : List ℕ) (boxes : List Float) (links : List ℕ) (nodes leaf_count : ℕ) where
  abbrev left : Outcome
  left = built mesh index boxes links

  abbrev given : Lent
  given = lent mesh materials (take (triangle_count mesh) left.index) (take (nodes * 6) left.boxes) (take (nodes * 3) left.links)

  handed_is : left.answer ≡ served_reply nodes leaf_count → handed mesh materials left ≡ given
  unfolding handed handed_as
  handed_is e = rw e

  signed : left.answer ≡ served_reply nodes leaf_count → length materials ≡ triangle_count mesh → Signed given nodes leaf_count
  signed e n =
      let w = success mesh index boxes links nodes leaf_count left e refl in
      let t = w.grown.tree in
      subst (λ (k : ℕ). Signed given k leaf_count) (sym w.nodes_are)
      (subst (λ (l : ℕ). Signed given (size t) l) (sym w.leaves_are) (signed_tree given t (accepted_lists mesh index boxes links nodes leaf_count left w materials) n))

  -- Rule G2, whatever the materials
  pub built_tree : left.answer ≡ served_reply nodes leaf_count → Trusted (handed mesh materials left)
  built_tree e =
      let w = success mesh index boxes links nodes leaf_count left e refl in
      rw (handed_is e) (record { tree = w.grown.tree; accepted = accepted_lists mesh index boxes links nodes leaf_count left w materials })

  pub labelled : left.answer ≡ served_reply nodes leaf_count → length materials ≡ triangle_count mesh → Labelled (handed mesh materials left).mesh
  labelled e n = rw (handed_is e) n

  -- Demand 3: of every built tree, unchanged, over its own triangles, with one material for each
  pub built_walk : left.answer ≡ served_reply nodes leaf_count → length materials ≡ triangle_count mesh → Signed (handed mesh materials left) nodes leaf_count
  built_walk e n = rw (handed_is e) (signed e n)
