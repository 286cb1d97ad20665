-- A ray is weighed by how its walk ends. The number of a walk's refusal is from 1 to 99, by the walk's own steps: so a refused ray is never weighed as shaded or open. Assumes nothing.
use mathlib.Core.Path.{◌≡◌, refl}
use mathlib.Core.Bool.{Bool, true, false, ◌||◌, cond}
use mathlib.Core.List.{List, [], ◌∷◌}
use Prim.Native.Nat.{ℕ, zero, suc, ◌+◌, ◌<◌}
use native.Mathlib.Omega.{arith}
use lib.Dec.{eqb, ltb, leb}
use lib.ListN.{length, get_or}
use lib.Ieee.{Float}
use Rattle.lent.specs.Limits.{most_pending}
use Rattle.lent.specs.Ladder.{Check, none, numbered, first_failed, answered, unless, triangle_count}
use Rattle.lent.specs.Members.{Every}
use Rattle.lent.proofs.Ladder.{apart}
use Rattle.aabb.specs.declared.vector.Ray.{Ray}
use Rattle.aabb.specs.Vector.{ray_at}
use Rattle.aabb.specs.Slab.{passes}
use Rattle.triangle.specs.declared.Hit.{Hit}
use Rattle.std.specs.Prelude.{Some, None, Result, Ok, Err}
use Rattle.lent.specs.declared.refusal.Reason.{Reason}
use Rattle.lent.specs.declared.refusal.Reason.TheVariants.{BadTriangle, BadNode, BadEntry, Full}
use Rattle.lent.specs.declared.refusal.Refused.{Refused}
use Rattle.lent.specs.Refusals.{number as reason_number}
use Rattle.triangle.specs.Mesh.{triangle_at, admitted_triangle}
use Rattle.tree.specs.declared.Node.{Node}
use Rattle.tree.specs.Lent.{Mesh, Lists, Lent, node_count}
use Rattle.tree.specs.Node.{left_or_first, node_of, sound, left_of, right_of}
use Rattle.walk.specs.declared.tally.Tally.{Tally}
use Rattle.walk.specs.declared.turn.Turn.{Turn}
use Rattle.walk.specs.declared.turn.Turn.TheVariants.{Missed, Down, Open}
use Rattle.walk.specs.Answer.{Told}
use Rattle.walk.specs.Walk.{start, boxed, tested, refused, over, run, walk}
use Rattle.walk.specs.inner.State.{refuse}
use Rattle.walk.specs.inner.Turns.{scan, open_leaf, open_internal, opened, judged, visit, onward}
use Rattle.walk.proofs.OneMesh.{none_pending, none_left, next_step}
use Rattle.sky.specs.Sky.{placed, place_of, place_for}
use Rattle.watts.specs.Watts.{outcome_for}

-- a number that is no outcome of a walk that is served
abbrev Own : ℕ → Type 0
Own k = (0 < k) × (k < 100)

record Numbered (a : Told) : Type 0 where
  own : (k i : ℕ) → a.refusal ≡ numbered k i → Own k

record Turned (t : Result Turn Refused) : Type 0 where
  own : (why : Refused) → t ≡ Err why → Own (reason_number why.reason)

-- ---- one answer, one turn
answer : (k i : ℕ) → Own k → Numbered (refused k i)
answer k i h = record { own = λ n j e. let q : k ≡ n = cc in (omega arith, omega arith) }

finished : (m : Mesh) (r : Ray) (a : Tally) → Numbered (over m r a)
unfolding over
finished m r a = record { own = λ n j e. apart n j e }

stopped : (why : Reason) (i : ℕ) → Own (reason_number why) → Turned (refuse why i)
stopped why i h = record { own = λ w e. let q : why ≡ w.reason = cc in rw q at h }

going : (t : Turn) → Turned (Ok t)
going t = record { own = λ w e. absurd (let z : ◌≡◌ {A = ℕ} 0 1 = cc in omega arith) }

turn_if : (b : Bool) (x y : Result Turn Refused) → Turned x → Turned y → Turned (cond b x y)
turn_if true x y p q = p
turn_if false x y p q = q

-- ---- the steps
scanned : (mesh : List Float) (index : List ℕ) (r : Ray) (left p : ℕ) (a : Tally) → Turned (scan mesh index r left p a)
unfolding scan
scanned mesh index r zero p a = going (Down a)
scanned mesh index r (suc left) p a =
    turn_if (leb (triangle_count mesh) (get_or index p 0)) _ _ (stopped BadEntry p (omega arith, omega arith))
    (turn_if (admitted_triangle (triangle_at mesh (get_or index p 0))) _ _ (scanned mesh index r left (suc p) (tested mesh r (get_or index p 0) a)) (stopped BadTriangle (get_or index p 0) (omega arith, omega arith)))

leafed : (mesh : List Float) (index : List ℕ) (r : Ray) (i : ℕ) (x : Node) (a : Tally) → Turned (open_leaf mesh index r i x a)
unfolding open_leaf
leafed mesh index r i x a =
    turn_if (ltb (length index) (left_or_first x + x.count)) _ _ (stopped BadNode i (omega arith, omega arith)) (scanned mesh index r x.count (left_or_first x) a)

parted : (nodes i : ℕ) (x : Node) (besides : ℕ) → Turned (open_internal nodes i x besides)
unfolding open_internal
parted nodes i x besides =
    turn_if (leb nodes (left_of i x) || leb nodes (right_of i x)) _ _ (stopped BadNode i (omega arith, omega arith))
    (turn_if (ltb most_pending (besides + 2)) _ _ (stopped Full i (omega arith, omega arith)) (going (Open (left_of i x) (right_of i x))))

visited : (mesh : List Float) (s : Lists) (r : Ray) (i besides : ℕ) (a : Tally) → Turned (visit mesh s r i besides a)
unfolding visit judged opened
visited mesh s r i besides a =
    let x = node_of s i in
    turn_if (sound x) _ _
    (turn_if (passes r x.bounds) _ _ (turn_if (eqb x.kind 1) _ _ (leafed mesh s.index r i x a) (parted (node_count s.links) i x besides)) (going Missed))
    (stopped BadNode i (omega arith, omega arith))

-- ---- the walk
next : (t : Result Turn Refused) (rest : List ℕ) (a : Tally) (go : List ℕ → Tally → Told) → Turned t → ((l : List ℕ) (b : Tally) → Numbered (go l b)) → Numbered (onward t rest a go)
next (Err w) rest a go p q = answer (reason_number w.reason) w.at (p.own w refl)
next (Ok Missed) rest a go p q = q rest a
next (Ok (Down b)) rest a go p q = q rest b
next (Ok (Open left right)) rest a go p q = q (left ∷ right ∷ rest) a

ran : (s : Lent) (r : Ray) (left : ℕ) (pending : List ℕ) (a : Tally) → Numbered (run s r left pending a)
ran s r zero [] a = rw (none_pending s r zero a) (finished s.mesh r a)
ran s r zero (i ∷ rest) a = rw (none_left s r i rest a) (answer 12 i (omega arith, omega arith))
ran s r (suc left) [] a = rw (none_pending s r (suc left) a) (finished s.mesh r a)
ran s r (suc left) (i ∷ rest) a =
    rw (next_step s r left rest i a)
    (next (visit s.mesh.triangles s.tree r i (length rest) (boxed a)) rest (boxed a) (run s r left) (visited s.mesh.triangles s.tree r i (length rest) (boxed a)) (ran s r left))

laddered : (checks : List Check) (served : Told) → Every (λ c. Own c.number) checks → Numbered served → Numbered (unless checks refused served)
unfolding unless first_failed answered
laddered [] served each q = q
laddered (c ∷ cs) served each q = go c.fails (laddered cs served each.1 q)
  where
    go : (t : Bool) → Numbered (answered (first_failed cs) refused served) → Numbered (answered (cond t (numbered c.number c.at) (first_failed cs)) refused served)
    go true rest = answer c.number c.at each.0
    go false rest = rest

walk_numbered : (s : Lent) (r : Ray) → Numbered (walk s r)
unfolding walk
walk_numbered s r =
    laddered _ _ ((omega arith, omega arith), ((omega arith, omega arith), ((omega arith, omega arith), ((omega arith, omega arith), ((omega arith, omega arith), tt)))))
    (ran s r (node_count s.tree.links) (0 ∷ []) start)

-- ---- what a ray is weighed by
hit_place : (a : Told) (h : Hit) → a.refusal ≡ none → a.hit ≡ Some h → (place_of a).outcome ≡ 100
unfolding place_of placed
hit_place a h e f = rw (e, f)

miss_place : (a : Told) → a.refusal ≡ none → a.hit ≡ None → (place_of a).outcome ≡ 0
unfolding place_of placed
miss_place a e f = rw (e, f)

refused_place : (a : Told) (number at : ℕ) → a.refusal ≡ numbered number at → (place_of a).outcome ≡ number
unfolding place_of placed
refused_place a number at e = rw e

module _ (s : Lent) (rays : List Float) (k : ℕ) where
  pub hit_outcome : (h : Hit) → (walk s (ray_at rays k)).refusal ≡ none → (walk s (ray_at rays k)).hit ≡ Some h → outcome_for s rays k ≡ 100
  unfolding outcome_for place_for
  hit_outcome h e f = hit_place (walk s (ray_at rays k)) h e f

  pub miss_outcome : (walk s (ray_at rays k)).refusal ≡ none → (walk s (ray_at rays k)).hit ≡ None → outcome_for s rays k ≡ 0
  unfolding outcome_for place_for
  miss_outcome e f = miss_place (walk s (ray_at rays k)) e f

  pub refused_outcome : (number at : ℕ) → (walk s (ray_at rays k)).refusal ≡ numbered number at → (outcome_for s rays k ≡ number) × (0 < number) × (number < 100)
  unfolding outcome_for place_for
  refused_outcome number at e = let o = (walk_numbered s (ray_at rays k)).own number at e in (refused_place (walk s (ray_at rays k)) number at e, o.0, o.1)
