-- The steps over one mesh, by how a visit of a node ends: what the code does turn by turn is the shared steps with a triangle's test for an entry. Assumes nothing.
use mathlib.Core.Path.{◌≡◌, refl, sym, ◌∙◌}
use Prim.Native.Nat.{ℕ, zero, suc, ◌+◌}
use mathlib.Core.Bool.{Bool, true, false, ◌||◌, cond}
use mathlib.Core.List.{List, [], ◌∷◌}
use lib.Dec.{leb, ltb, eqb}
use lib.ListN.{length, get_or}
use lib.Ieee.{Float}
use Rattle.lent.specs.Limits.{most_pending}
use Rattle.lent.specs.Ladder.{triangle_count}
use Rattle.aabb.specs.declared.vector.Ray.{Ray}
use Rattle.aabb.specs.Slab.{passes}
use Rattle.triangle.specs.Mesh.{triangle_at, admitted_triangle}
use Rattle.tree.specs.declared.Node.{Node}
use Rattle.tree.specs.Lent.{Lent, node_count}
use Rattle.tree.specs.Node.{left_or_first, node_of, sound, left_of, right_of}
use Rattle.walk.specs.declared.tally.Tally.{Tally}
use Rattle.walk.specs.declared.turn.Turn.TheVariants.{Missed, Open}
use Rattle.std.specs.Prelude.{Ok}
use Rattle.lent.specs.declared.refusal.Reason.TheVariants.{BadTriangle, BadNode, BadEntry, Full}
use Rattle.walk.specs.Answer.{Told}
use Rattle.walk.specs.Steps.{Went, on, stop, and_then, entries, leaf_by, internal_by, step_by, steps}
use Rattle.walk.specs.Walk.{boxed, tested, refused, over, triangle_entry, ended, run}
use Rattle.walk.specs.inner.State.{refuse}
use Rattle.walk.specs.inner.Turns.{scan, open_leaf, open_internal, opened, judged, visit, onward}

module _ (rest : List ℕ) (go : List ℕ → Tally → Told) where
  -- what comes after an entry's turn
  abbrev finish : Went Tally → Told
  finish (on b) = go rest b
  finish (stop k i) = refused k i

  scan_is : (mesh : List Float) (index : List ℕ) (r : Ray) (n p : ℕ) (a b : Tally) → onward (scan mesh index r n p a) rest b go ≡ finish (entries (triangle_entry mesh index r) n p a)
  unfolding scan entries triangle_entry
  scan_is mesh index r zero p a b = refl
  scan_is mesh index r (suc n) p a b =
      let k = get_or index p 0 in
      either (leb (triangle_count mesh) k) (admitted_triangle (triangle_at mesh k)) (scan_is mesh index r n (suc p) (tested mesh r k a) b)
    where
      either : (s t : Bool) → onward (scan mesh index r n (suc p) (tested mesh r (get_or index p 0) a)) rest b go ≡ finish (entries (triangle_entry mesh index r) n (suc p) (tested mesh r (get_or index p 0) a))
          → onward (cond s (refuse BadEntry p) (cond t (scan mesh index r n (suc p) (tested mesh r (get_or index p 0) a)) (refuse BadTriangle (get_or index p 0)))) rest b go
          ≡ finish (and_then (cond s (stop 10 p) (cond t (on (tested mesh r (get_or index p 0) a)) (stop 5 (get_or index p 0)))) (entries (triangle_entry mesh index r) n (suc p)))
      either true t e = unfold and_then in refl
      either false true e = unfold and_then in e
      either false false e = unfold and_then in refl

module _ (s : Lent) (r : Ray) (left : ℕ) (rest : List ℕ) where
  abbrev entry : ℕ → Tally → Went Tally
  entry = triangle_entry s.mesh.triangles s.tree.index r

  abbrev further : List ℕ → Tally → Went Tally
  further = steps boxed entry s.tree r left

  after : (w : Went Tally) → finish rest (run s r left) w ≡ ended s.mesh r (and_then w (further rest))
  unfolding and_then run
  after (on b) = refl
  after (stop k i) = refl

  at_node : (i : ℕ) (x : Node) (a : Tally) → onward (judged s.mesh.triangles s.tree r i x (length rest) a) rest a (run s r left) ≡ ended s.mesh r (step_by entry s.tree r i x rest a further)
  unfolding judged opened open_leaf open_internal step_by leaf_by internal_by run
  at_node i x a =
      go (sound x) (passes r x.bounds) (eqb x.kind 1) (ltb (length s.tree.index) (left_or_first x + x.count)) (leb (node_count s.tree.links) (left_of i x) || leb (node_count s.tree.links) (right_of i x)) (ltb most_pending (length rest + 2))
    where
      go : (b p k l c m : Bool)
          → onward (cond b (cond p (cond k (cond l (refuse BadNode i) (scan s.mesh.triangles s.tree.index r x.count (left_or_first x) a)) (cond c (refuse BadNode i) (cond m (refuse Full i) (Ok (Open (left_of i x) (right_of i x)))))) (Ok Missed)) (refuse BadNode i)) rest a (run s r left)
          ≡ ended s.mesh r (cond b (cond p (cond k (and_then (cond l (stop 9 i) (entries entry x.count (left_or_first x) a)) (further rest)) (cond c (stop 9 i) (cond m (stop 11 i) (further (left_of i x ∷ right_of i x ∷ rest) a)))) (further rest a)) (stop 9 i))
      go false p k l c m = refl
      go true false k l c m = refl
      go true true true true c m = unfold and_then in refl
      go true true true false c m =
          scan_is rest (run s r left) s.mesh.triangles s.tree.index r x.count (left_or_first x) a a ∙ after (entries entry x.count (left_or_first x) a)
      go true true false l true m = refl
      go true true false l false true = refl
      go true true false l false false = refl

  -- one step more: the node is visited
  pub next_step : (i : ℕ) (a : Tally) → run s r (suc left) (i ∷ rest) a ≡ onward (visit s.mesh.triangles s.tree r i (length rest) (boxed a)) rest (boxed a) (run s r left)
  unfolding run steps visit
  next_step i a = sym (at_node i (node_of s.tree i) (boxed a))

-- none is pending
pub none_pending : (s : Lent) (r : Ray) (left : ℕ) (a : Tally) → run s r left [] a ≡ over s.mesh r a
unfolding run steps
none_pending s r zero a = refl
none_pending s r (suc left) a = refl

-- no box test is left
pub none_left : (s : Lent) (r : Ray) (i : ℕ) (rest : List ℕ) (a : Tally) → run s r zero (i ∷ rest) a ≡ refused 12 i
unfolding run steps
none_left s r i rest a = refl
