-- What the inner functions promise, besides the definitions of the walk: nothing that is public speaks of these. Definitions only.
use Rattle.std.specs.Prelude.{ℕ, zero, suc, ◌-◌, ◌^◌, ◌≤◌, ◌<◌, cond, List, [], ◌∷◌, leb, get_or, Float, Option, Result, Ok, Err, ⊤}
use Rattle.aabb.specs.declared.vector.Ray.{Ray}
use Rattle.triangle.specs.Mesh.{triangle_at, admitted_triangle}
use Rattle.walk.specs.declared.pending.Pending.{Pending}
use Rattle.walk.specs.declared.Answer.{Answer}
use Rattle.walk.specs.declared.Answer.TheVariants.{Refused as Stopped}
use Rattle.walk.specs.declared.tally.Met.{Met}
use Rattle.walk.specs.declared.tally.Tally.{Tally}
use Rattle.lent.specs.declared.refusal.Reason.{Reason}
use Rattle.lent.specs.declared.refusal.Reason.TheVariants.{BadTriangle, BadEntry}
use Rattle.lent.specs.declared.refusal.Refused.{Refused}
use Rattle.lent.specs.Limits.{most_nodes, most_pending}
use Rattle.lent.specs.Ladder.{triangle_count}
use Rattle.tree.specs.Lent.{node_count}
use Rattle.walk.specs.Walk.{after}

-- a refusal, by its reason and its `at`
abbrev pub refuse : {A : Type 0} → Reason → ℕ → Result A Refused
refuse why at = Err (record { reason = why; at = at })

-- Rule W8: a walk's answer, or its refusal as one
abbrev pub answer : Result Answer Refused → Answer
answer (Ok a) = a
answer (Err r) = Stopped r

-- the first so many of the array, the last one first
abbrev pub top : List ℕ → ℕ → List ℕ
top nodes zero = []
top nodes (suc k) = get_or nodes k 0 ∷ top nodes k

abbrev pub pending : Pending → List ℕ
pending p = top p.nodes p.len

-- all but the last one
abbrev pub besides : Pending → List ℕ
besides p = top p.nodes (p.len - 1)

-- what a visit of node i asks: there is such a node, there is room to speak of two more, and the triangle tests are far from wrapping
pub record Ready (links : List ℕ) (i besides : ℕ) (a : Tally) : Type 0 where
  pub here : i < node_count links
  pub few : node_count links ≤ most_nodes
  pub room : besides ≤ most_pending
  pub triangles : a.triangles < 2 ^ 60

-- a leaf in two passes. The first looks for what refuses a leaf's entries, 10 and 5
unfoldable pub verdict : List Float → List ℕ → ℕ → ℕ → Result ⊤ Refused
verdict mesh index zero p = Ok tt
verdict mesh index (suc left) p =
    cond (leb (triangle_count mesh) (get_or index p 0)) (refuse BadEntry p)
    (cond (admitted_triangle (triangle_at mesh (get_or index p 0))) (verdict mesh index left (suc p)) (refuse BadTriangle (get_or index p 0)))

-- The second makes the tests
unfoldable pub nearest_of : List Float → List ℕ → Ray → ℕ → ℕ → Option Met → Option Met
nearest_of mesh index r zero p best = best
nearest_of mesh index r (suc left) p best = nearest_of mesh index r left (suc p) (after mesh r (get_or index p 0) best)
