-- An internal node whose children are put, and the ray that is prepared: each from what code tells. Assumes nothing.
use mathlib.Core.Path.{◌≡◌, sym, ap, ◌∙◌}
use mathlib.Core.Bool.{◌||◌, cond}
use Prim.Native.Nat.{ℕ, ◌+◌, ◌≤◌, ◌<◌}
use native.Mathlib.Omega.{arith}
use borrow.Author.Tests.{lt-leb, le-ltb}
use lib.Dec.{leb, ltb}
use Rattle.aabb.specs.declared.vector.Ray.{Ray}
use Rattle.aabb.specs.declared.slab.Aim.{Aim}
use Rattle.std.specs.Prelude.{Result, Ok}
use Rattle.aabb.specs.Slab.{aimed}
use Rattle.walk.specs.declared.turn.Turn.{Turn}
use Rattle.walk.specs.declared.turn.Turn.TheVariants.{Open}
use Rattle.lent.specs.declared.refusal.Reason.TheVariants.{BadNode, Full}
use Rattle.lent.specs.declared.refusal.Refused.{Refused}
use Rattle.walk.specs.inner.State.{refuse}
use Rattle.tree.specs.declared.Node.{Node}
use Rattle.lent.specs.Limits.{most_pending}
use Rattle.tree.specs.Node.{left_of, right_of}
use Rattle.walk.specs.inner.Turns.{open_internal}

-- ---- an internal node
module _ (nodes i : ℕ) (x : Node) (besides left right : ℕ) (l : left ≡ left_of i x) (e : right ≡ right_of i x) where
  abbrev decided : Result Turn Refused
  decided = cond (leb nodes left || leb nodes right) (refuse BadNode i) (cond (ltb most_pending (besides + 2)) (refuse Full i) (Ok (Open left right)))

  by_names : decided ≡ open_internal nodes i x besides
  unfolding open_internal
  by_names = rw (l, e)

  next_to : right ≡ left + 1
  unfolding left_of right_of
  next_to = rw (l, e)

  -- where right is a node, so is left
  module _ (k : right < nodes) where
    pub left_there : left < nodes
    left_there = omega (arith, next_to)

    pub both_put : besides + 2 ≤ most_pending → Ok (Open left right) ≡ open_internal nodes i x besides
    both_put m = rw (lt-leb nodes left left_there, lt-leb nodes right k, le-ltb most_pending (besides + 2) m) at by_names

-- ---- the ray, prepared
pub its_ray : (m : Aim) (r : Ray) → m ≡ aimed r → m.ray ≡ r
unfolding aimed
its_ray m r e = ap (λ (a : Aim). a.ray) e

pub its_own : (m : Aim) (r : Ray) → m ≡ aimed r → m ≡ aimed m.ray
its_own m r e = e ∙ ap aimed (sym (its_ray m r e))
