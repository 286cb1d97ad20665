-- What a walk of a tree must find (rule G3). Definitions only.
use Rattle.std.specs.Prelude.{cond, List, [], ◌∷◌, ◌++◌, ℕ, ◌+◌, ◌*◌, length, get_or, Option, None}
use Rattle.aabb.specs.declared.vector.Ray.{Ray}
use Rattle.aabb.specs.Slab.{passes}
use Rattle.tree.specs.Lent.{Lent}
use Rattle.tree.specs.Tree.{Tree, leaf, internal}
use Rattle.tree.specs.Leaves.{range_of}
use Rattle.walk.specs.declared.tally.Met.{Met}
use Rattle.walk.specs.Answer.{Told}
use Rattle.walk.specs.Walk.{after, over}

-- how many internal nodes there are whose own box the ray passes
abbrev pub entered : Ray → Tree → ℕ
entered r (leaf b p c) = 0
entered r (internal b u v) = cond (passes r b) 1 0 + (entered r u + entered r v)

-- the places that the leaves hold whose own box the ray passes, the leaves from left to right
abbrev pub reached : Ray → Tree → List ℕ
reached r (leaf b p c) = cond (passes r b) (range_of c p) []
reached r (internal b u v) = reached r u ++ reached r v

-- the nearest of what the tests at the places find, in order
abbrev pub nearest : Lent → Ray → Option Met → List ℕ → Option Met
nearest s r best [] = best
nearest s r best (p ∷ ps) = nearest s r (after s.mesh.triangles r (get_or s.tree.index p 0) best) ps

-- one box test for the root and two for each internal node that is passed, one triangle test for each place that is reached, and the nearest hit there
abbrev pub found_in : Lent → Ray → Tree → Told
found_in s r t =
    over s.mesh r (record { boxes = 1 + 2 * entered r t; triangles = length (reached r t); nearest = nearest s r None (reached r t) })
