-- The hit depends on which triangles stand at the places that are reached, and not on the order of the places nor on how often one is met: of two hits
-- that are each ahead of the other the numbers are equal, and a number and a ray tell the hit. Assumes nothing.
use Rattle.std.specs.Prelude.{Float, Option, Some, None}
use mathlib.Core.Path.{◌≡◌, refl, sym, ap, subst, ◌∙◌}
use mathlib.Core.Logic.{◌⊎◌, inl, inr}
use mathlib.Core.Bool.{Bool, true, false, cond}
use mathlib.Core.List.{List, [], ◌∷◌, ◌++◌}
use Prim.Native.Nat.{ℕ}
use native.Mathlib.Omega.{arith}
use lib.Dec.{T}
use lib.ListN.{length, get_or}
use Rattle.aabb.specs.declared.vector.Ray.{Ray}
use Rattle.aabb.specs.Vector.{admitted_ray}
use Rattle.aabb.specs.Slab.{passes}
use Rattle.triangle.specs.declared.Hit.{Hit}
use Rattle.triangle.specs.declared.Triangle.{Triangle}
use Rattle.triangle.specs.Mesh.{triangle_at}
use Rattle.triangle.specs.Meeting.{distance, hit_at, found, strike}
use Rattle.tree.specs.Lent.{Mesh, Lent, Labelled, material_of}
use Rattle.walk.specs.Walk.{walk}
use Rattle.tree.specs.Tree.{Tree, leaf, internal}
use Rattle.tree.specs.Holds.{Holds}
use Rattle.tree.specs.Accepted.{Walkable}
use Rattle.demands.specs.Reached.{reached}
use Rattle.lent.specs.Members.{Every, Any}
use Rattle.demands.specs.NearestHit.{Admitted, finds, Ahead, NearestAt, NothingAt}
use Rattle.tree.specs.Leaves.{range_of, numbers, Leaf, leaves_of}
use Rattle.demands.specs.SameLeaves.{SameNumbers, SameLeaf, SameLeaves, lists_with, with_index, SameWithin, Reordered}
use Rattle.lent.specs.Members.{Member}
use Rattle.demands.proofs.NearestHit.{Finite, hit_among, nearest_at, nothing_at, nowhere, all_finite, reached_admitted, walk_hit}

-- ---- some of a list
pub some_left : {A : Type 0} (P : A → Type 0) (xs ys : List A) → Any P xs → Any P (xs ++ ys)
some_left P [] ys h = absurd h
some_left P (x ∷ xs) ys (inl h) = inl h
some_left P (x ∷ xs) ys (inr h) = inr (some_left P xs ys h)

pub some_right : {A : Type 0} (P : A → Type 0) (xs ys : List A) → Any P ys → Any P (xs ++ ys)
some_right P [] ys h = h
some_right P (x ∷ xs) ys h = inr (some_right P xs ys h)

pub some_either : {A : Type 0} (P : A → Type 0) (xs ys : List A) → Any P (xs ++ ys) → Any P xs ⊎ Any P ys
some_either P [] ys h = inr h
some_either P (x ∷ xs) ys (inl h) = inl (inl h)
some_either P (x ∷ xs) ys (inr h) = go (some_either P xs ys h)
  where
    go : Any P xs ⊎ Any P ys → (P x ⊎ Any P xs) ⊎ Any P ys
    go (inl i) = inl (inr i)
    go (inr i) = inr i

-- one of them, and what holds of it
pub some_one : {A : Type 0} (P : A → Type 0) (xs : List A) → Any P xs → (x : A) × Member x xs × P x
some_one P [] h = absurd h
some_one P (x ∷ xs) (inl h) = (x, inl refl, h)
some_one P (x ∷ xs) (inr h) = let w = some_one P xs h in (w.0, inr w.1, w.2)

pub one_some : {A : Type 0} (P : A → Type 0) (xs : List A) (x : A) → Member x xs → P x → Any P xs
one_some P [] x i h = absurd i
one_some P (y ∷ ys) x (inl i) h = inl (rw (← i) h)
one_some P (y ∷ ys) x (inr i) h = inr (one_some P ys x i h)

pub all_one : (P : ℕ → Type 0) (ps : List ℕ) → Every P ps → (p : ℕ) → Member p ps → P p
all_one P [] a p i = absurd i
all_one P (q ∷ ps) a p (inl i) = rw i a.0
all_one P (q ∷ ps) a p (inr i) = all_one P ps a.1 p i

-- ---- a number and a ray tell the hit
found_number : (r : Ray) (a : Triangle) (k m : ℕ) (d : Option Float) (h : Hit) → found r a k m d ≡ Some h → h.triangle ≡ k
unfolding found hit_at
found_number r a k m None h e = absurd (nowhere e)
found_number r a k m (Some t) h e = go (hit_at r a k m t) refl e
  where
    go : (x : Hit) → x.triangle ≡ k → Some x ≡ Some h → h.triangle ≡ k
    go x i e = let j : x ≡ h = cc in rw (← j) i

abbrev strikes : Mesh → Ray → ℕ → Option Hit
strikes m r k = strike r (triangle_at m.triangles k) k (material_of m k)

strike_number : (mesh : Mesh) (r : Ray) (k : ℕ) (h : Hit) → strikes mesh r k ≡ Some h → h.triangle ≡ k
unfolding strike
strike_number mesh r k h e = found_number r (triangle_at mesh.triangles k) k (material_of mesh k) (distance r (triangle_at mesh.triangles k)) h e

both_ahead : (mesh : Mesh) (r : Ray) (j k : ℕ) (g h : Hit) → strikes mesh r j ≡ Some g → strikes mesh r k ≡ Some h → Ahead g h → Ahead h g → g ≡ h
both_ahead mesh r j k g h e f a b =
    let i : j ≡ k = let p = strike_number mesh r j g e in let q = strike_number mesh r k h f in let l = a.1 b.0 in let m = b.1 a.0 in omega (arith, p, q, l, m) in
    let w : Some g ≡ Some h = sym e ∙ ap (strikes mesh r) i ∙ f in
    cc

-- ---- places that hold a number, and what is found there
number_at : (s : Lent) (ps : List ℕ) (k : ℕ) → Member k (numbers s.tree ps) → (p : ℕ) × Member p ps × (get_or s.tree.index p 0 ≡ k)
number_at s [] k h = absurd h
number_at s (p ∷ ps) k (inl i) = (p, inl refl, sym i)
number_at s (p ∷ ps) k (inr i) = let w = number_at s ps k i in (w.0, inr w.1, w.2)

at_number : (s : Lent) (ps : List ℕ) (p : ℕ) → Member p ps → Member (get_or s.tree.index p 0) (numbers s.tree ps)
at_number s [] p h = absurd h
at_number s (q ∷ ps) p (inl i) = inl (ap (λ (z : ℕ). get_or s.tree.index z 0) i)
at_number s (q ∷ ps) p (inr i) = inr (at_number s ps p i)

-- ---- two lists of places; each triangle of the first is held by the second
module _ (s s' : Lent) (r : Ray) (mesh : s.mesh ≡ s'.mesh) (ps qs : List ℕ) (U : (k : ℕ) → Member k (numbers s.tree ps) → Member k (numbers s'.tree qs)) where
  -- what is found at one of ps is found at one of qs
  found_too : (f : Option Hit) → Any (λ (p : ℕ). finds s r p ≡ f) ps → (q : ℕ) × Member q qs × (finds s' r q ≡ f)
  found_too f w =
      let v = some_one (λ (p : ℕ). finds s r p ≡ f) ps w in
      let k = get_or s.tree.index v.0 0 in
      let u = number_at s' qs k (U k (at_number s ps v.0 v.1)) in
      (u.0, u.1, ap (strikes s'.mesh r) u.2 ∙ ap (λ (m : Mesh). strikes m r k) (sym mesh) ∙ v.2)

  -- so a hit at ps is no miss at qs
  no_miss : (h : Hit) → NearestAt s r ps h → Every (NothingAt s' r) qs → ⊥
  no_miss h n c = let w = found_too (Some h) n.found in nowhere (sym (all_one (NothingAt s' r) qs c w.0 w.1) ∙ w.2)

  -- and the hit at qs is ahead of it
  is_ahead : (h g : Hit) → NearestAt s r ps h → NearestAt s' r qs g → Ahead g h
  is_ahead h g n m =
      let w = found_too (Some h) n.found in
      all_one (λ p. (x : Hit) → finds s' r p ≡ Some x → Ahead g x) qs m.ahead w.0 w.1 h w.2

-- two lists of places that hold the same admitted triangles leave an admitted ray the same hit
pub same_nearest : (s s' : Lent) (r : Ray) (ps qs : List ℕ) → s.mesh ≡ s'.mesh → T (admitted_ray r) → Every (Admitted s) ps → Every (Admitted s') qs
    → SameNumbers (numbers s.tree ps) (numbers s'.tree qs) → hit_among s r ps ≡ hit_among s' r qs
same_nearest s s' r ps qs mesh R F G same = go (hit_among s r ps) (hit_among s' r qs) refl refl
  where
    P : Every (Finite s r) ps
    P = all_finite s r R ps F

    Q : Every (Finite s' r) qs
    Q = all_finite s' r R qs G

    go : (f g : Option Hit) → hit_among s r ps ≡ f → hit_among s' r qs ≡ g → f ≡ g
    go None None i j = refl
    go None (Some g) i j = absurd (no_miss s' s r (sym mesh) qs ps same.1 g (nearest_at s' r qs Q g j) (nothing_at s r ps P i))
    go (Some h) None i j = absurd (no_miss s s' r mesh ps qs same.0 h (nearest_at s r ps P h i) (nothing_at s' r qs Q j))
    go (Some h) (Some g) i j =
        let n = nearest_at s r ps P h i in
        let m = nearest_at s' r qs Q g j in
        let u = some_one (λ (p : ℕ). finds s r p ≡ Some h) ps n.found in
        let w = found_too s' s r (sym mesh) qs ps same.1 (Some g) m.found in
        ap Some (both_ahead s.mesh r (get_or s.tree.index u.0 0) (get_or s.tree.index w.0 0) h g u.2 w.2
        (is_ahead s' s r (sym mesh) qs ps same.1 g h m n) (is_ahead s s' r mesh ps qs same.0 h g n m))

-- ---- the numbers that are reached are those of the leaves whose boxes are passed
numbers_append : (s : Lent) (ps qs : List ℕ) → numbers s.tree (ps ++ qs) ≡ numbers s.tree ps ++ numbers s.tree qs
numbers_append s [] qs = refl
numbers_append s (p ∷ ps) qs = ap (λ (l : List ℕ). get_or s.tree.index p 0 ∷ l) (numbers_append s ps qs)

module _ (s : Lent) (r : Ray) (k : ℕ) where
  -- leaf x is passed and holds k
  abbrev pub Holding : Leaf → Type 0
  Holding x = T (passes r x.box) × Member k x.holds

  pub of_leaf : (t : Tree) → Member k (numbers s.tree (reached r t)) → Any Holding (leaves_of s.tree t)
  of_leaf (leaf b p c) h = go (passes r b) refl h
    where
      go : (q : Bool) → passes r b ≡ q → Member k (numbers s.tree (cond q (range_of c p) [])) → Any Holding (leaves_of s.tree (leaf b p c))
      go true e h = inl (rw e tt, h)
      go false e h = absurd h
  of_leaf (internal b u v) h = go (some_either (λ (l : ℕ). k ≡ l) (numbers s.tree (reached r u)) (numbers s.tree (reached r v)) (rw (numbers_append s (reached r u) (reached r v)) at h)) (of_leaf u) (of_leaf v)
    where
      go : Member k (numbers s.tree (reached r u)) ⊎ Member k (numbers s.tree (reached r v)) → (Member k (numbers s.tree (reached r u)) → Any Holding (leaves_of s.tree u)) → (Member k (numbers s.tree (reached r v)) → Any Holding (leaves_of s.tree v))
          → Any Holding (leaves_of s.tree u ++ leaves_of s.tree v)
      go (inl i) f g = some_left Holding (leaves_of s.tree u) (leaves_of s.tree v) (f i)
      go (inr i) f g = some_right Holding (leaves_of s.tree u) (leaves_of s.tree v) (g i)

  pub to_leaf : (t : Tree) → Any Holding (leaves_of s.tree t) → Member k (numbers s.tree (reached r t))
  to_leaf (leaf b p c) (inr h) = absurd h
  to_leaf (leaf b p c) (inl h) = go (passes r b) h.0
    where
      go : (q : Bool) → T q → Member k (numbers s.tree (cond q (range_of c p) []))
      go true e = h.1
      go false e = absurd e
  to_leaf (internal b u v) h = go (some_either Holding (leaves_of s.tree u) (leaves_of s.tree v) h) (to_leaf u) (to_leaf v)
    where
      go : Any Holding (leaves_of s.tree u) ⊎ Any Holding (leaves_of s.tree v) → (Any Holding (leaves_of s.tree u) → Member k (numbers s.tree (reached r u))) → (Any Holding (leaves_of s.tree v) → Member k (numbers s.tree (reached r v)))
          → Member k (numbers s.tree (reached r u ++ reached r v))
      go (inl i) f g = rw (numbers_append s (reached r u) (reached r v)) (some_left (λ (l : ℕ). k ≡ l) (numbers s.tree (reached r u)) (numbers s.tree (reached r v)) (f i))
      go (inr i) f g = rw (numbers_append s (reached r u) (reached r v)) (some_right (λ (l : ℕ). k ≡ l) (numbers s.tree (reached r u)) (numbers s.tree (reached r v)) (g i))

-- each leaf of t is the same as one of t': what is reached in t is reached in t'
reached_too : (s s' : Lent) (t t' : Tree) (r : Ray) → ((x : Leaf) → Member x (leaves_of s.tree t) → Any (SameLeaf x) (leaves_of s'.tree t')) → (k : ℕ) → Member k (numbers s.tree (reached r t)) → Member k (numbers s'.tree (reached r t'))
reached_too s s' t t' r L k h =
    let w = some_one (Holding s r k) (leaves_of s.tree t) (of_leaf s r k t h) in
    let x = w.0 in
    let v = some_one (SameLeaf x) (leaves_of s'.tree t') (L x w.1) in
    to_leaf s' r k t' (one_some (Holding s' r k) (leaves_of s'.tree t') v.0 v.1 ((rw (← v.2.0) w.2.0, v.2.1.0 k w.2.1)))

-- ---- the theorems, of two walkable trees over one mesh
module _ (s s' : Lent) (t t' : Tree) (r : Ray) (mesh : s.mesh ≡ s'.mesh) (A : Walkable s t) (B : Walkable s' t') (M : Labelled s.mesh) (R : T (admitted_ray r)) where
  N : Labelled s'.mesh
  N = subst Labelled mesh M

  -- the ray reaches the same triangles in both, in whatever order: the same hit
  pub same_hit_lem : SameNumbers (numbers s.tree (reached r t)) (numbers s'.tree (reached r t')) → (walk s r).hit ≡ (walk s' r).hit
  same_hit_lem same =
      walk_hit s t r A M R
      ∙ same_nearest s s' r (reached r t) (reached r t') mesh R (reached_admitted s t r A M R) (reached_admitted s' t' r B N R) same
      ∙ sym (walk_hit s' t' r B N R)

  -- the leaves are the same, in whatever order they are walked and whatever the order of the index list within each: the same hit
  pub same_leaves_hit : SameLeaves (leaves_of s.tree t) (leaves_of s'.tree t') → (walk s r).hit ≡ (walk s' r).hit
  same_leaves_hit L = same_hit_lem (reached_too s s' t t' r L.0, reached_too s' s t' t r L.1)

-- ---- the same tree over a reordered index list
holds_with : (s : Lent) (index : List ℕ) → length index ≡ length s.tree.index → (t : Tree) (i : ℕ) → Holds s.tree i t → Holds (lists_with s.tree index) i t
holds_with s index e (leaf b p c) i H = record { bounds = H.bounds; first = H.first; count = H.count; kind = H.kind; inside = omega (arith, e, H.inside) }
holds_with s index e (internal b u v) i H = (
  record { bounds = H.0.bounds; count = H.0.count; kind = H.0.kind; left_there = H.0.left_there; right_there = H.0.right_there },
  holds_with s index e u _ H.1,
  holds_with s index e v _ H.2,
)

walkable_with : (s : Lent) (index : List ℕ) (t : Tree) → Walkable s t → Reordered s index t → Walkable (with_index s index) t
walkable_with s index t A O = record {
  whole = A.whole;
  few = A.few;
  fitted = A.fitted;
  one_each = O.as_long ∙ A.one_each;
  entries = O.entries;
  admitted = A.admitted;
  holds = holds_with s index O.as_long t 0 A.holds;
  sized = A.sized;
  shallow = A.shallow;
  nested = A.nested;
  covers = A.covers ∙ sym O.as_long;
}

same_within : (s : Lent) (index : List ℕ) (t : Tree) → SameWithin s.tree index t → SameLeaves (leaves_of s.tree t) (leaves_of (lists_with s.tree index) t)
same_within s index (leaf b p c) w = (one, other)
  where
    own : Leaf
    own = record { box = b; holds = numbers s.tree (range_of c p) }

    new : Leaf
    new = record { box = b; holds = numbers (lists_with s.tree index) (range_of c p) }

    one : (x : Leaf) → Member x (own ∷ []) → Any (SameLeaf x) (new ∷ [])
    one x (inl i) = inl (rw i ((refl, w)))
    one x (inr i) = absurd i

    other : (y : Leaf) → Member y (new ∷ []) → Any (SameLeaf y) (own ∷ [])
    other y (inl i) = inl (rw i ((refl, (w.1, w.0))))
    other y (inr i) = absurd i
same_within s index (internal b u v) w =
    let P = same_within s index u w.0 in
    let Q = same_within s index v w.1 in
    let n = lists_with s.tree index in
    (joined (leaves_of s.tree u) (leaves_of s.tree v) (leaves_of n u) (leaves_of n v) P.0 Q.0, joined (leaves_of n u) (leaves_of n v) (leaves_of s.tree u) (leaves_of s.tree v) P.1 Q.1)
  where
    joined : (a b c d : List Leaf) → ((x : Leaf) → Member x a → Any (SameLeaf x) c) → ((x : Leaf) → Member x b → Any (SameLeaf x) d) → (x : Leaf) → Member x (a ++ b) → Any (SameLeaf x) (c ++ d)
    joined a b c d f g x i = go (some_either (λ (y : Leaf). x ≡ y) a b i)
      where
        go : Member x a ⊎ Member x b → Any (SameLeaf x) (c ++ d)
        go (inl j) = some_left (SameLeaf x) c d (f x j)
        go (inr j) = some_right (SameLeaf x) c d (g x j)

-- the order of the index list within leaves does not matter
pub reordered_hit : (s : Lent) (index : List ℕ) (t : Tree) (r : Ray) → Walkable s t → Labelled s.mesh → Reordered s index t → T (admitted_ray r) → (walk s r).hit ≡ (walk (with_index s index) r).hit
reordered_hit s index t r A M O R = same_leaves_hit s (with_index s index) t t r refl A (walkable_with s index t A O) M R (same_within s index t O.within)
