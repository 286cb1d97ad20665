-- How a step of the code ends, turn by turn: the shared steps (Steps.antt) over one mesh come to the same (proofs/OneMesh.antt). Nothing that is public speaks of these. Definitions only.
use Rattle.std.specs.Prelude.{◌≡◌, ℕ, zero, suc, ◌+◌, ◌≤◌, ◌<◌, ◌||◌, cond, List, ◌∷◌, leb, ltb, eqb, length, get_or, Float, Result, Ok, Err}
use Rattle.aabb.specs.declared.vector.Ray.{Ray}
use Rattle.aabb.specs.Slab.{passes}
use Rattle.triangle.specs.Mesh.{triangle_at, admitted_triangle}
use Rattle.walk.specs.declared.tally.Tally.{Tally}
use Rattle.walk.specs.declared.turn.Turn.{Turn}
use Rattle.walk.specs.declared.turn.Turn.TheVariants.{Missed, Down, Open}
use Rattle.lent.specs.declared.refusal.Reason.TheVariants.{BadTriangle, BadNode, BadEntry, Full}
use Rattle.lent.specs.declared.refusal.Refused.{Refused}
use Rattle.lent.specs.Refusals.{number}
use Rattle.tree.specs.declared.Node.{Node}
use Rattle.tree.specs.Lent.{Lists, node_count}
use Rattle.lent.specs.Limits.{most_pending}
use Rattle.lent.specs.Ladder.{triangle_count}
use Rattle.tree.specs.Node.{left_or_first, node_of, sound, left_of, right_of}
use Rattle.walk.specs.Answer.{Told}
use Rattle.walk.specs.Walk.{tested, refused}
use Rattle.walk.specs.inner.State.{refuse}

-- Rule W4: the entries from place p on, as many as the number says. Each is looked at (10), its triangle too (5), and then tested
unfoldable pub scan : List Float → List ℕ → Ray → ℕ → ℕ → Tally → Result Turn Refused
scan mesh index r zero p a = Ok (Down a)
scan mesh index r (suc left) p a =
    cond (leb (triangle_count mesh) (get_or index p 0)) (refuse BadEntry p)
    (cond (admitted_triangle (triangle_at mesh (get_or index p 0))) (scan mesh index r left (suc p) (tested mesh r (get_or index p 0) a))
    (refuse BadTriangle (get_or index p 0)))

-- Rule W4: a range that ends beyond the list refuses the walk (9)
unfoldable pub open_leaf : List Float → List ℕ → Ray → ℕ → Node → Tally → Result Turn Refused
open_leaf mesh index r i x a = cond (ltb (length index) (left_or_first x + x.count)) (refuse BadNode i) (scan mesh index r x.count (left_or_first x) a)

-- Rule W5: both children must be nodes (9), and there must be room for them (11)
unfoldable pub open_internal : ℕ → ℕ → Node → ℕ → Result Turn Refused
open_internal nodes i x besides =
    cond (leb nodes (left_of i x) || leb nodes (right_of i x)) (refuse BadNode i)
    (cond (ltb most_pending (besides + 2)) (refuse Full i) (Ok (Open (left_of i x) (right_of i x))))

unfoldable pub opened : List Float → Lists → Ray → ℕ → Node → ℕ → Tally → Result Turn Refused
opened mesh s r i x besides a =
    cond (eqb x.kind 1) (open_leaf mesh s.index r i x a)
    (open_internal (node_count s.links) i x besides)

-- Rule W3: an unsound node refuses the walk (9), a box that is missed drops its node
unfoldable pub judged : List Float → Lists → Ray → ℕ → Node → ℕ → Tally → Result Turn Refused
judged mesh s r i x besides a = cond (sound x) (cond (passes r x.bounds) (opened mesh s r i x besides a) (Ok Missed)) (refuse BadNode i)

-- Rule W2: node i, taken from the pending ones, with so many pending besides; its box test is counted
unfoldable pub visit : List Float → Lists → Ray → ℕ → ℕ → Tally → Result Turn Refused
visit mesh s r i besides a = judged mesh s r i (node_of s i) besides a

-- ---- what a visit leaves where it goes on: no box test and few triangle tests more, and children that there are and that there is room for
-- so many box tests, and at most so many triangle tests
pub record Counted (boxes triangles : ℕ) (a : Tally) : Type 0 where
  pub tests : a.boxes ≡ boxes
  pub most : a.triangles ≤ triangles

pub record Opens (nodes besides left right : ℕ) : Type 0 where
  pub left_there : left < nodes
  pub right_there : right < nodes
  pub room : besides + 2 ≤ most_pending

abbrev pub Leaves : ℕ → ℕ → ℕ → ℕ → Result Turn Refused → Type 0
Leaves nodes besides b t (Err r) = Unit {0}
Leaves nodes besides b t (Ok Missed) = Unit {0}
Leaves nodes besides b t (Ok (Down a)) = Counted b t a
Leaves nodes besides b t (Ok (Open left right)) = Opens nodes besides left right

-- ---- and how the walk goes on after it
-- Rule W5: the left child comes next, the right one after all that is below it. (The last pending node stands first.)
abbrev pub onward : Result Turn Refused → List ℕ → Tally → (List ℕ → Tally → Told) → Told
onward (Err r) rest a go = refused (number r.reason) r.at
onward (Ok Missed) rest a go = go rest a
onward (Ok (Down b)) rest a go = go rest b
onward (Ok (Open left right)) rest a go = go (left ∷ right ∷ rest) a
