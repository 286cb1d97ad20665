-- A walk of an accepted tree: no refusal, and the counts and the hit are those of the nodes and leaves whose own box the ray passes. Walking
-- a tree with the rest pending is counting the tree and then walking the rest. Assumes nothing.
use Rattle.std.specs.Prelude.{Option, Result, Ok}
use mathlib.Core.Path.{◌≡◌, refl, sym, ap, ◌∙◌}
use mathlib.Core.Bool.{Bool, true, false, not, cond}
use mathlib.Core.List.{List, [], ◌∷◌, ◌++◌}
use Prim.Native.Nat.{ℕ, zero, suc, ◌+◌, ◌-◌, ◌*◌, ◌≤◌, ◌<◌}
use native.Mathlib.Nat.{zero-add}
use native.Mathlib.Omega.{arith}
use borrow.Author.Tests.{lt-leb, le-ltb, ne_eqb}
use lib.Dec.{T, T_not, not_T}
use lib.ListN.{length, get_or, length-append}
use lib.Ieee.Bits.{is_true, is_false}
use Rattle.aabb.specs.declared.vector.Ray.{Ray}
use Rattle.aabb.specs.declared.bounds.Aabb.{Aabb}
use Rattle.aabb.specs.Vector.{admitted_ray}
use Rattle.aabb.specs.Bounds.{bounded, usable, contains}
use Rattle.aabb.specs.Slab.{passes}
use Rattle.aabb.proofs.Inside.{usable_inside}
use Rattle.triangle.specs.Mesh.{triangle_at, admitted_triangle}
use Rattle.walk.specs.declared.tally.Met.{Met}
use Rattle.walk.specs.declared.tally.Tally.{Tally}
use Rattle.lent.specs.declared.refusal.Refused.{Refused}
use Rattle.walk.specs.declared.turn.Turn.{Turn}
use Rattle.walk.specs.declared.turn.Turn.TheVariants.{Missed, Down, Open}
use Rattle.tree.specs.declared.Node.{Node}
use Rattle.tree.specs.Lent.{Lent, Labelled, node_count}
use Rattle.lent.specs.Limits.{deepest, most_pending}
use Rattle.lent.specs.Ladder.{triangle_count}
use Rattle.tree.specs.Node.{sound, left_of, right_of}
use Rattle.walk.specs.Walk.{start, boxed, after, tested, run, walk}
use Rattle.walk.specs.inner.Turns.{scan, open_leaf, opened, judged, visit, onward}
use Rattle.tree.specs.Tree.{Tree, leaf, internal, box_of, size, depth, held}
use Rattle.tree.specs.Holds.{IsLeaf, IsInternal, Holds, Nested}
use Rattle.tree.specs.Node.{node_of}
use Rattle.tree.specs.Accepted.{Walkable}
use Rattle.demands.specs.Reached.{entered, reached, nearest, found_in}
use Rattle.tree.specs.Leaves.{range_of}
use Rattle.walk.proofs.VisitEnds.{both_put}
use Rattle.walk.proofs.OneMesh.{none_pending}
use Rattle.walk.proofs.LoopInvariant.{one_left}
use Rattle.walk.proofs.Entering.{entered as walk_entered}

-- ---- counts
range_length : (c p : ℕ) → length (range_of c p) ≡ c
range_length zero p = refl
range_length (suc c) p = ap suc (range_length c (suc p))

pub reached_most : (r : Ray) (t : Tree) → length (reached r t) ≤ held t
reached_most r (leaf b p c) = go (passes r b)
  where
    go : (q : Bool) → length (cond q (range_of c p) []) ≤ c
    go true = omega (arith, range_length c p)
    go false = omega arith
reached_most r (internal b u v) = omega (arith, length-append (reached r u) (reached r v), reached_most r u, reached_most r v)

-- ---- a box that the ray does not pass has nothing below it that the ray passes
module _ (r : Ray) (R : T (admitted_ray r)) where
  outside : (b a : Aabb) → T (usable b) → T (bounded a) → T (contains b a) → T (not (passes r b)) → T (not (passes r a))
  outside b a B A H n = not_T (passes r a) (λ h. T_not (passes r b) n (usable_inside r b a R B A H h))

  dropped : (t : Tree) → Nested t → T (not (passes r (box_of t))) → (entered r t ≡ 0) × (reached r t ≡ [])
  dropped (leaf b p c) N n = (refl, go (passes r b) n)
    where
      go : (q : Bool) → T (not q) → cond q (range_of c p) [] ≡ []
      go true n = absurd n
      go false n = refl
  dropped (internal b u v) N n =
      let U = dropped u N.3 (outside b (box_of u) N.0 N.1.0 N.1.1 n) in
      let W = dropped v N.4 (outside b (box_of v) N.0 N.2.0 N.2.1 n) in
      (rw (is_false (passes r b) n, U.0, W.0), rw (U.1, W.1))

-- ---- what a part of the walk adds to the tally
nearest_append : (s : Lent) (r : Ray) (best : Option Met) (ps qs : List ℕ) → nearest s r best (ps ++ qs) ≡ nearest s r (nearest s r best ps) qs
nearest_append s r best [] qs = refl
nearest_append s r best (p ∷ ps) qs = nearest_append s r (after s.mesh.triangles r (get_or s.tree.index p 0) best) ps qs

abbrev more : Lent → Ray → ℕ → List ℕ → Tally → Tally
more s r m ps a = record { boxes = a.boxes + m; triangles = a.triangles + length ps; nearest = nearest s r a.nearest ps }

tally : (b b' c c' : ℕ) (f f' : Option Met) → b ≡ b' → c ≡ c' → f ≡ f' → ◌≡◌ {A = Tally} (record { boxes = b; triangles = c; nearest = f }) (record { boxes = b'; triangles = c'; nearest = f' })
tally b b' c c' f f' p q e i = record { boxes = p i; triangles = q i; nearest = e i }

twice : (s : Lent) (r : Ray) (a : Tally) (m m' n : ℕ) (ps qs : List ℕ) → m + m' ≡ n → more s r m' qs (more s r m ps a) ≡ more s r n (ps ++ qs) a
twice s r a m m' n ps qs e =
    tally _ _ _ _ _ _ (omega arith) (omega (arith, length-append ps qs)) (sym (nearest_append s r a.nearest ps qs))

module _ (s : Lent) (r : Ray) (entries : (p : ℕ) → p < length s.tree.index → get_or s.tree.index p 0 < triangle_count s.mesh.triangles) (fine : (k : ℕ) → k < triangle_count s.mesh.triangles → T (admitted_triangle (triangle_at s.mesh.triangles k))) where
  scan_all : (c p : ℕ) (a : Tally) → p + c ≤ length s.tree.index → scan s.mesh.triangles s.tree.index r c p a ≡ Ok (Down (more s r 0 (range_of c p) a))
  unfolding scan tested
  scan_all zero p a h = ap (λ (b : Tally). Ok (Down b)) (tally _ _ _ _ _ _ (omega arith) (omega arith) refl)
  scan_all (suc c) p a h =
      let k = get_or s.tree.index p 0 in
      let e = entries p (omega arith) in
      rw (lt-leb (triangle_count s.mesh.triangles) k e, is_true (admitted_triangle (triangle_at s.mesh.triangles k)) (fine k e))
      (scan_all c (suc p) (tested s.mesh.triangles r k a) (omega arith) ∙ ap (λ (b : Tally). Ok (Down b)) (tally _ _ _ _ _ _ refl (omega arith) refl))

  leaf_visit : (i besides : ℕ) (x : Node) (a : Tally) (b : Aabb) (p c : ℕ) → IsLeaf s.tree x b p c → T (usable b)
      → judged s.mesh.triangles s.tree r i x besides a ≡ cond (passes r b) (Ok (Down (more s r 0 (range_of c p) a))) (Ok Missed)
  unfolding judged sound opened open_leaf
  leaf_visit i besides x a b p c H B =
      rw (H.bounds, H.first, H.count, H.kind, is_true (usable b) B, le-ltb (length s.tree.index) (p + c) H.inside)
      (go (passes r b))
    where
      go : (q : Bool) → cond q (scan s.mesh.triangles s.tree.index r c p a) (Ok Missed) ≡ cond q (Ok (Down (more s r 0 (range_of c p) a))) (Ok Missed)
      go true = scan_all c p a H.inside
      go false = refl

  sound_internal : (i : ℕ) (x : Node) (b : Aabb) → IsInternal s.tree i x b → T (usable b) → sound x ≡ true
  unfolding sound
  sound_internal i x b H B = rw (H.bounds, is_true (usable b) B, H.kind, H.count)

  internal_visit : (i besides : ℕ) (x : Node) (a : Tally) (b : Aabb) → IsInternal s.tree i x b → T (usable b) → besides + 2 ≤ most_pending
      → judged s.mesh.triangles s.tree r i x besides a ≡ cond (passes r b) (Ok (Open (left_of i x) (right_of i x))) (Ok Missed)
  unfolding judged opened
  internal_visit i besides x a b H B k =
      rw (sound_internal i x b H B, ap (passes r) H.bounds, ne_eqb x.kind 1 (λ e. omega (arith, H.kind)), ← both_put (node_count s.tree.links) i x besides (left_of i x) (right_of i x) refl refl H.right_there k)

  -- ---- a tree whose root is taken from the pending nodes, with the rest pending below it
  module _ (R : T (admitted_ray r)) where
    abbrev Walks : Tree → Type 0
    Walks t = (i : ℕ) (rest : List ℕ) (left later : ℕ) (a : Tally) → Holds s.tree i t → Nested t → length rest + depth t ≤ deepest → left ≡ 1 + 2 * entered r t + later
        → run s r left (i ∷ rest) a ≡ run s r later rest (more s r (1 + 2 * entered r t) (reached r t) a)

    leaf_walks : (b : Aabb) (p c : ℕ) → Walks (leaf b p c)
    unfolding visit boxed
    leaf_walks b p c i rest left later a H N d e =
        one_left s r left later i rest a (omega arith)
        ∙ ap (λ (t : Result Turn Refused). onward t rest (boxed a) (run s r later)) (leaf_visit i (length rest) (node_of s.tree i) (boxed a) b p c H N)
        ∙ go (passes r b)
      where
        go : (q : Bool) → onward (cond q (Ok (Down (more s r 0 (range_of c p) (boxed a)))) (Ok Missed)) rest (boxed a) (run s r later) ≡ run s r later rest (more s r 1 (cond q (range_of c p) []) a)
        go true = ap (run s r later rest) (tally _ _ _ _ _ _ (omega arith) refl refl)
        go false = ap (run s r later rest) (tally _ _ _ _ _ _ refl (omega arith) refl)

    module _ (b : Aabb) (u v : Tree) (i : ℕ) (rest : List ℕ) (left later : ℕ) (a : Tally) (H : Holds s.tree i (internal b u v)) (N : Nested (internal b u v)) (d : length rest + depth (internal b u v) ≤ deepest)
        (e : left ≡ 1 + 2 * entered r (internal b u v) + later) where
      abbrev Walked : Type 0
      Walked = run s r left (i ∷ rest) a ≡ run s r later rest (more s r (1 + 2 * entered r (internal b u v)) (reached r (internal b u v)) a)

      visited : (q : Bool) → passes r b ≡ q → visit s.mesh.triangles s.tree r i (length rest) (boxed a) ≡ cond q (Ok (Open (left_of i (node_of s.tree i)) (right_of i (node_of s.tree i)))) (Ok Missed)
      unfolding visit
      visited q t = rw (← t) (internal_visit i (length rest) (node_of s.tree i) (boxed a) b H.0 N.0 (omega arith))

      internal_in : passes r b ≡ true → Walks u → Walks v → Walked
      unfolding boxed
      internal_in t U W =
          let j = left_of i (node_of s.tree i) in
          let k = right_of i (node_of s.tree i) in
          let n = (1 + 2 * entered r u) + (1 + 2 * entered r v) in
          let f : more s r n (reached r u ++ reached r v) (boxed a) ≡ more s r (1 + 2 * entered r (internal b u v)) (reached r u ++ reached r v) a = rw t (tally _ _ _ _ _ _ (omega arith) refl refl) in
          let later' = 1 + 2 * entered r u + (1 + 2 * entered r v + later) in
          one_left s r left later' i rest a (omega (arith, rw t at e))
          ∙ ap (λ (x : Result Turn Refused). onward x rest (boxed a) (run s r later')) (visited true t)
          ∙ U j (k ∷ rest) _ (1 + 2 * entered r v + later) (boxed a) H.1 N.3 (omega arith) refl
          ∙ W k rest _ later _ H.2 N.4 (omega arith) refl
          ∙ ap (run s r later rest)
          (twice s r (boxed a) (1 + 2 * entered r u) (1 + 2 * entered r v) n (reached r u) (reached r v) refl ∙ f)

      internal_out : passes r b ≡ false → Walked
      unfolding boxed
      internal_out t =
          let D = dropped r R (internal b u v) N (rw t tt) in
          one_left s r left later i rest a (omega (arith, D.0))
          ∙ ap (λ (x : Result Turn Refused). onward x rest (boxed a) (run s r later)) (visited false t)
          ∙ rw (D.0, D.1) (ap (run s r later rest) (tally _ _ _ _ _ _ refl (omega arith) refl))

      internal_case : (q : Bool) → passes r b ≡ q → Walks u → Walks v → Walked
      internal_case true t U W = internal_in t U W
      internal_case false t U W = internal_out t

    tree_walks : (t : Tree) → Walks t
    tree_walks (leaf b p c) = leaf_walks b p c
    tree_walks (internal b u v) = λ i rest left later a H N d e. internal_case b u v i rest left later a H N d e (passes r b) refl (tree_walks u) (tree_walks v)

-- ---- the theorem: the steps suffice, as there is at most one box test for each node
pub short : (r : Ray) (t : Tree) → 1 + 2 * entered r t ≤ size t
short r (leaf b p c) = omega arith
short r (internal b u v) = go (passes r b) (short r u) (short r v)
  where
    go : (q : Bool) → 1 + 2 * entered r u ≤ size u → 1 + 2 * entered r v ≤ size v → 1 + 2 * (cond q 1 0 + (entered r u + entered r v)) ≤ size (internal b u v)
    go true h k = omega arith
    go false h k = omega arith

pub walked : (s : Lent) (t : Tree) (r : Ray) → Walkable s t → Labelled s.mesh → T (admitted_ray r) → walk s r ≡ found_in s r t
walked s t r A M R =
    let n = node_count s.tree.links in
    let left = n - (1 + 2 * entered r t) in
    sym (walk_entered s r A.whole A.few M (is_true (admitted_ray r) R) A.fitted)
    ∙ tree_walks s r A.entries A.admitted R t 0 [] n left start A.holds A.nested (omega (arith, A.shallow)) (omega (arith, A.sized, short r t))
    ∙ none_pending s r left (more s r (1 + 2 * entered r t) (reached r t) start)
    ∙ rw (zero-add (1 + 2 * entered r t), zero-add (length (reached r t)))

-- at most one triangle test for each triangle
pub few_tests : (s : Lent) (t : Tree) (r : Ray) → Walkable s t → length (reached r t) ≤ triangle_count s.mesh.triangles
few_tests s t r A = omega (arith, A.covers, A.one_each, reached_most r t)
