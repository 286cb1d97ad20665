-- The steps of a walk over any tree, whatever its leaves hold: what one step comes to, by what is told of its node. Assumes nothing.
use mathlib.Core.Path.{◌≡◌, refl}
use Prim.Native.Nat.{ℕ, zero, suc, ◌+◌, ◌≤◌, ◌<◌}
use mathlib.Core.Bool.{true, false, ◌||◌}
use mathlib.Core.List.{List, [], ◌∷◌}
use borrow.Author.Tests.{le-ltb, lt-ltb, ne_eqb}
use lib.Dec.{leb}
use lib.ListN.{length}
use Rattle.lent.specs.Limits.{most_pending}
use Rattle.aabb.specs.declared.vector.Ray.{Ray}
use Rattle.aabb.specs.Slab.{passes}
use Rattle.tree.specs.declared.Node.{Node}
use Rattle.tree.specs.Lent.{Lists, node_count}
use Rattle.tree.specs.Node.{node_of, sound, left_of, right_of}
use Rattle.walk.specs.Steps.{Went, on, stop, internal_by, step_by, steps}

-- ---- the list of pending nodes
module _ {A : Type 0} (tick : A → A) (entry : ℕ → A → Went A) (s : Lists) (r : Ray) where
  pub none_pending : (left : ℕ) (a : A) → steps tick entry s r left [] a ≡ on a
  unfolding steps
  none_pending zero a = refl
  none_pending (suc left) a = refl

  pub none_left : (i : ℕ) (rest : List ℕ) (a : A) → steps tick entry s r zero (i ∷ rest) a ≡ stop 12 i
  unfolding steps
  none_left i rest a = refl

  pub one_taken : (left i : ℕ) (rest : List ℕ) (a : A) → steps tick entry s r (suc left) (i ∷ rest) a ≡ step_by entry s r i (node_of s i) rest (tick a) (steps tick entry s r left)
  unfolding steps
  one_taken left i rest a = refl

-- ---- the node that is taken
module _ {A : Type 0} (entry : ℕ → A → Went A) (s : Lists) (r : Ray) (i : ℕ) (x : Node) (rest : List ℕ) (a : A) (go : List ℕ → A → Went A) where
  pub unsound : sound x ≡ false → step_by entry s r i x rest a go ≡ stop 9 i
  unfolding step_by
  unsound h = rw h

  module _ (h : sound x ≡ true) where
    pub outside : passes r x.bounds ≡ false → step_by entry s r i x rest a go ≡ go rest a
    unfolding step_by
    outside p = rw (h, p)

    module _ (p : passes r x.bounds ≡ true) where
      module _ (k : x.kind ≡ 1 → ⊥) where
        pub child_beyond : (leb (node_count s.links) (left_of i x) || leb (node_count s.links) (right_of i x)) ≡ true → step_by entry s r i x rest a go ≡ stop 9 i
        unfolding step_by internal_by
        child_beyond c = rw (h, p, ne_eqb x.kind 1 k, c)

        module _ (c : (leb (node_count s.links) (left_of i x) || leb (node_count s.links) (right_of i x)) ≡ false) where
          pub no_room : most_pending < length rest + 2 → step_by entry s r i x rest a go ≡ stop 11 i
          unfolding step_by internal_by
          no_room m = rw (h, p, ne_eqb x.kind 1 k, c, lt-ltb most_pending (length rest + 2) m)

          pub both_children : length rest + 2 ≤ most_pending → step_by entry s r i x rest a go ≡ go (left_of i x ∷ right_of i x ∷ rest) a
          unfolding step_by internal_by
          both_children m = rw (h, p, ne_eqb x.kind 1 k, c, le-ltb most_pending (length rest + 2) m)
