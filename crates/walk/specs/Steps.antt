-- A walk over any tree (rules W2 to W5, W7): what an entry of a leaf does is left open, and so is what is gathered from entry to entry. The walk of one ray through one mesh is one
-- instance (Walk.antt). Definitions only.
use Rattle.std.specs.Prelude.{ℕ, zero, suc, ◌+◌, ◌||◌, cond, List, [], ◌∷◌, leb, ltb, eqb, length}
use Rattle.lent.specs.Limits.{most_pending}
use Rattle.aabb.specs.declared.vector.Ray.{Ray}
use Rattle.aabb.specs.Slab.{passes}
use Rattle.tree.specs.declared.Node.{Node}
use Rattle.tree.specs.Lent.{Lists, node_count}
use Rattle.tree.specs.Node.{left_or_first, node_of, sound, left_of, right_of}

-- what is gathered so far, or a refusal with its `at` (by its number, as document 01 has it)
pub data Went (A : Type 0) : Type 0 where
  on : A → Went A
  stop : ℕ → ℕ → Went A

unfoldable pub and_then : {A : Type 0} → Went A → (A → Went A) → Went A
and_then (on a) go = go a
and_then (stop number at) go = stop number at

-- Rule W4: the entries of a leaf from place p on, as many as the number says, one after the other
unfoldable pub entries : {A : Type 0} → (ℕ → A → Went A) → ℕ → ℕ → A → Went A
entries entry zero p a = on a
entries entry (suc left) p a = and_then (entry p a) (entries entry left (suc p))

-- Rule W4: a leaf that is passed; a range that ends beyond the index list refuses the walk (9)
unfoldable pub leaf_by : {A : Type 0} → (ℕ → A → Went A) → Lists → ℕ → Node → A → Went A
leaf_by entry s i x a = cond (ltb (length s.index) (left_or_first x + x.count)) (stop 9 i) (entries entry x.count (left_or_first x) a)

-- Rule W5: an internal node that is passed; both children must be nodes (9), and there must be room for them (11). The left child comes next, the right one after all
-- that is below it. (The last pending node stands first.)
unfoldable pub internal_by : {A : Type 0} → Lists → ℕ → Node → List ℕ → A → (List ℕ → A → Went A) → Went A
internal_by s i x rest a go =
    cond (leb (node_count s.links) (left_of i x) || leb (node_count s.links) (right_of i x)) (stop 9 i)
    (cond (ltb most_pending (length rest + 2)) (stop 11 i) (go (left_of i x ∷ right_of i x ∷ rest) a))

-- Rule W3: an unsound node refuses the walk (9), a box that is missed drops its node
unfoldable pub step_by : {A : Type 0} → (ℕ → A → Went A) → Lists → Ray → ℕ → Node → List ℕ → A → (List ℕ → A → Went A) → Went A
step_by entry s r i x rest a go =
    cond (sound x)
    (cond (passes r x.bounds) (cond (eqb x.kind 1) (and_then (leaf_by entry s i x a) (go rest)) (internal_by s i x rest a go)) (go rest a))
    (stop 9 i)

-- Rules W2 and W7: a node a step, until none is pending; `tick` is what a box test counts. The number is how many box tests are left; a node that is taken when there are none refuses
-- the walk (12)
unfoldable pub steps : {A : Type 0} → (A → A) → (ℕ → A → Went A) → Lists → Ray → ℕ → List ℕ → A → Went A
steps tick entry s r zero [] a = on a
steps tick entry s r zero (i ∷ rest) a = stop 12 i
steps tick entry s r (suc left) [] a = on a
steps tick entry s r (suc left) (i ∷ rest) a = step_by entry s r i (node_of s i) rest (tick a) (steps tick entry s r left)
