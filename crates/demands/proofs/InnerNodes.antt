-- Inner nodes do not matter (rule G9): accepted trees with the same collection of leaves have the same hit and as many triangle tests. What a ray reaches is told by
-- the leaves' boxes alone, and each triangle is reached at one place at most. Assumes nothing.
use Rattle.triangle.specs.declared.Hit.{Hit}
use Rattle.std.specs.Prelude.{Option, Some, None}
use mathlib.Core.Path.{◌≡◌, refl, sym, ap, subst, ◌∙◌}
use mathlib.Core.Logic.{inl, inr, ⊎_elim}
use mathlib.Core.Bool.{Bool, true, false, cond, ◌&&◌, ◌||◌, beq}
use mathlib.Core.List.{List, [], ◌∷◌, ◌++◌}
use Prim.Native.Nat.{ℕ, zero, suc, ◌+◌, ◌*◌, ◌≤◌, ◌<◌}
use native.Mathlib.Omega.{arith}
use native.Mathlib.Decide.{ℕ_discrete}
use native.Mathlib.Nat.{eq-or-lt_of_le}
use borrow.Author.Tests.{le-leb, lt-ltb, ltb-true, ltb-false}
use lib.Dec.{T, eqb, ltb, eqb→eq}
use lib.ListN.{length, get_or, length-append}
use lib.Ieee.{Float, nan, inf, fin, lt, eq, le, level, up, down}
use lib.Ieee.Fits.{and_i, and_l, and_r, eq→eqb}
use Rattle.float.proofs.Cases.{or_l, or_r}
use Rattle.aabb.specs.declared.vector.Vec3.{Vec3}
use Rattle.aabb.specs.declared.vector.Ray.{Ray}
use Rattle.aabb.specs.declared.bounds.Aabb.{Aabb}
use Rattle.aabb.specs.Vector.{admitted_ray, all_at_most, ray_at}
use Rattle.aabb.specs.Bounds.{bounded, is_empty, usable, contains}
use Rattle.aabb.specs.Slab.{passes}
use Rattle.aabb.proofs.Inside.{usable_inside}
use Rattle.lent.specs.Ladder.{none, triangle_count}
use Rattle.lent.specs.Members.{Every, Any, Member}
use Rattle.lent.specs.Permutation.{Perm, occurs, occ, up_to}
use Rattle.lent.proofs.Permutation.{occurs_same, occurs_cases, occ_append, occ_at, up_below}
use Rattle.tree.specs.Lent.{Mesh, Lent, Lists, Labelled, mesh_of}
use Rattle.tree.specs.Node.{node_of, left_of, right_of}
use Rattle.tree.specs.Tree.{Tree, leaf, internal}
use Rattle.tree.specs.Holds.{Holds, Nested, Finite, covering}
use Rattle.tree.specs.Leaves.{range_of, numbers, Leaf, leaves_of}
use Rattle.tree.specs.Accepted.{Accepted}
use Rattle.walk.specs.Answer.{Told}
use Rattle.walk.specs.Walk.{walk}
use Rattle.accept.specs.Accept.{fine}
use Rattle.accept.proofs.accept.Reads as accept_call
use Rattle.trusted.specs.Exactly.{Gives, Trusted}
use Rattle.trusted.proofs.Exactly.{accept_exactly}
use Rattle.sky.specs.Sky.{ray_count, placed, place_of, place_at, sky}
use Rattle.sky.proofs.Room.{place_k}
use Rattle.demands.specs.Reached.{reached}
use Rattle.builder.specs.Reply.{served_reply}
use Rattle.builder.specs.Build.{built}
use Rattle.demands.specs.Handed.{handed}
use Rattle.demands.specs.Materials.{with_materials}
use Rattle.demands.proofs.Accepting.{relabelled}
use Rattle.demands.specs.SameLeaves.{SameNumbers}
use Rattle.demands.specs.InnerNodes.{SameVector, SameBox, Alike, SameCollection, Rearranged, Agree, AgreeAt}
use Rattle.demands.proofs.Walking.{reached_most}
use Rattle.demands.proofs.SameHit.{all_one, some_one, one_some, some_either, some_left, some_right, Holding, of_leaf, to_leaf, same_hit_lem}
use Rattle.demands.proofs.NearestHit.{in_index}
use Rattle.demands.proofs.Demand.{demand_3, labelled, built_tree}

-- ---- boxes that are numerically equal are passed alike
eq_le : (x y : Float) → T (eq x y) → T (le x y)
unfolding le
eq_le x y h = or_r (lt x y) (eq x y) h

level_turned : (s : Bool) (m : ℕ) (t : Bool) (n : ℕ) → T (level s m t n) → T (level t n s m)
level_turned s m t n h =
    let e = eqb→eq m n (and_l (eqb m n) (beq s t || eqb m 0) h) in
    let q : T (eqb m m) = eq→eqb {a = m} {b = m} refl in
    rw (← e) (and_i (eqb m m) (beq t s || eqb m 0) q (flip s t (eqb m 0) (and_r (eqb m n) (beq s t || eqb m 0) h)))
  where
    flip : (s t z : Bool) → T (beq s t || z) → T (beq t s || z)
    flip true true z h = tt
    flip false false z h = tt
    flip true false z h = h
    flip false true z h = h

eq_turned : (x y : Float) → T (eq x y) → T (eq y x)
unfolding eq
eq_turned nan y h = absurd h
eq_turned (inf s) nan h = absurd h
eq_turned (inf true) (inf true) h = tt
eq_turned (inf false) (inf false) h = tt
eq_turned (inf true) (inf false) h = absurd h
eq_turned (inf false) (inf true) h = absurd h
eq_turned (inf s) (fin t n d) h = absurd h
eq_turned (fin s m e) nan h = absurd h
eq_turned (fin s m e) (inf t) h = absurd h
eq_turned (fin s m e) (fin t n d) h = level_turned s (m * up e * down d) t (n * up d * down e) h

vectors_turned : (a b : Vec3) → SameVector a b → SameVector b a
vectors_turned a b e = (eq_turned a.x b.x e.0, eq_turned a.y b.y e.1, eq_turned a.z b.z e.2)

vectors_le : (a b : Vec3) → SameVector a b → T (all_at_most a b)
unfolding all_at_most
vectors_le a b e = both (le a.x b.x) (le a.y b.y) (le a.z b.z) (eq_le a.x b.x e.0) (eq_le a.y b.y e.1) (eq_le a.z b.z e.2)
  where
    both : (p q r : Bool) → T p → T q → T r → T (p && (q && r))
    both false q r h k l = elim h [ ]
    both true false r h k l = elim k [ ]
    both true true false h k l = elim l [ ]
    both true true true h k l = tt

passed_too : (r : Ray) (b a : Aabb) → T (admitted_ray r) → T (usable b) → T (bounded a) → SameBox b a → T (passes r a) → T (passes r b)
unfolding contains
passed_too r b a R B A e = usable_inside r b a R B A (and_i (all_at_most b.min a.min) (all_at_most a.max b.max) (vectors_le b.min a.min e.0) (vectors_le a.max b.max (vectors_turned b.max a.max e.1)))

-- the slab test's answer on numerically equal boxes is the same
pub passed_alike : (r : Ray) (a b : Aabb) → T (admitted_ray r) → T (bounded a) → T (bounded b) → SameBox a b → passes r a ≡ passes r b
unfolding usable
passed_alike r a b R A B e =
    let back : SameBox b a = (vectors_turned a.min b.min e.0, vectors_turned a.max b.max e.1) in
    go (passes r a) (passes r b) (passed_too r b a R (or_l (bounded b) (is_empty b) B) A back) (passed_too r a b R (or_l (bounded a) (is_empty a) A) B e)
  where
    go : (p q : Bool) → (T p → T q) → (T q → T p) → p ≡ q
    go true true f g = refl
    go false false f g = refl
    go true false f g = absurd (f tt)
    go false true f g = absurd (g tt)

-- ---- one of the leaves for each
alike_turned : (x y : Leaf) → Alike x y → Alike y x
alike_turned x y e = ((vectors_turned x.box.min y.box.min e.0.0, vectors_turned x.box.max y.box.max e.0.1), (e.1.1, e.1.0))

member_others : (x y : Leaf) (a b : List Leaf) → Member x (a ++ b) → Member x (a ++ (y ∷ b))
member_others x y a b h = ⊎_elim (λ i. some_left (λ z. x ≡ z) a (y ∷ b) i) (λ i. some_right (λ z. x ≡ z) a (y ∷ b) (inr i)) (some_either (λ z. x ≡ z) a b h)

some_others : (P : Leaf → Type 0) (y : Leaf) (a b : List Leaf) → Any P (a ++ b) → Any P (a ++ (y ∷ b))
some_others P y a b h = ⊎_elim (λ i. some_left P a (y ∷ b) i) (λ i. some_right P a (y ∷ b) (inr i)) (some_either P a b h)

each_there : (xs ys : List Leaf) → SameCollection xs ys → (x : Leaf) → Member x xs → Any (Alike x) ys
each_there [] ys C x h = absurd h
each_there (z ∷ xs) ys (a, y, b, e, k, C) x (inl h) = rw (e, h) (some_right (Alike z) a (y ∷ b) (inl k))
each_there (z ∷ xs) ys (a, y, b, e, k, C) x (inr h) = rw e (some_others (Alike x) y a b (each_there xs (a ++ b) C x h))

each_back : (xs ys : List Leaf) → SameCollection xs ys → (y : Leaf) → Member y ys → Any (Alike y) xs
each_back [] ys C y h = absurd (rw C at h)
each_back (z ∷ xs) ys (a, w, b, e, k, C) y h =
    ⊎_elim (λ i. inr (each_back xs (a ++ b) C y (some_left (λ v. y ≡ v) a b i)))
    (λ i. ⊎_elim (λ j. inl (rw j (alike_turned z w k))) (λ j. inr (each_back xs (a ++ b) C y (some_right (λ v. y ≡ v) a b j))) i)
    (some_either (λ v. y ≡ v) a (w ∷ b) (rw e at h))

-- ---- a box of the tree is usable, and bounded where there are triangles
leaf_boxes : (s : Lists) (t : Tree) → Nested t → Finite t → (x : Leaf) → Member x (leaves_of s t) → T (usable x.box) × T (bounded x.box)
leaf_boxes s (leaf b p c) N F x (inl h) = rw h ((N, F))
leaf_boxes s (leaf b p c) N F x (inr h) = absurd h
leaf_boxes s (internal b u v) N F x h =
    ⊎_elim (λ i. leaf_boxes s u N.3 F.1 x i) (λ i. leaf_boxes s v N.4 F.2 x i) (some_either (λ y. x ≡ y) (leaves_of s u) (leaves_of s v) h)

-- what is reached in t is reached in t'
module _ (s s' : Lent) (t t' : Tree) (r : Ray) (R : T (admitted_ray r)) (N : Nested t) (F : Finite t) (N' : Nested t') (F' : Finite t') where
  reached_there : ((x : Leaf) → Member x (leaves_of s.tree t) → Any (Alike x) (leaves_of s'.tree t')) → (k : ℕ) → Member k (numbers s.tree (reached r t)) → Member k (numbers s'.tree (reached r t'))
  reached_there L k h =
      let w = some_one (Holding s r k) (leaves_of s.tree t) (of_leaf s r k t h) in
      let x = w.0 in
      let v = some_one (Alike x) (leaves_of s'.tree t') (L x w.1) in
      let y = v.0 in
      let X = leaf_boxes s.tree t N F x w.1 in
      let Y = leaf_boxes s'.tree t' N' F' y v.1 in
      let p = passed_too r y.box x.box R Y.0 X.1 (alike_turned x y v.2).0 w.2.0 in
      to_leaf s' r k t' (one_some (Holding s' r k) (leaves_of s'.tree t') y v.1 ((p, v.2.1.0 k w.2.1)))

-- ---- no place is reached twice
abbrev Distinct : List ℕ → Type 0
Distinct [] = Unit {0}
Distinct (p ∷ ps) = (Member p ps → ⊥) × Distinct ps

in_range : (c p q : ℕ) → Member q (range_of c p) → (p ≤ q) × (q < p + c)
in_range zero p q h = absurd h
in_range (suc c) p q (inl h) = (omega (arith, h), omega (arith, h))
in_range (suc c) p q (inr h) = let i = in_range c (suc p) q h in (omega (arith, i), omega (arith, i))

range_distinct : (c p : ℕ) → Distinct (range_of c p)
range_distinct zero p = tt
range_distinct (suc c) p = ((λ h. let i = in_range c (suc p) p h in omega (arith, i)), range_distinct c (suc p))

append_distinct : (xs ys : List ℕ) → Distinct xs → Distinct ys → ((q : ℕ) → Member q xs → Member q ys → ⊥) → Distinct (xs ++ ys)
append_distinct [] ys X Y f = Y
append_distinct (x ∷ xs) ys X Y f = (
  (λ h. ⊎_elim (λ i. X.0 i) (λ i. f x (inl refl) i) (some_either (λ z. x ≡ z) xs ys h)),
  append_distinct xs ys X.1 Y (λ q i j. f q (inr i) j),
)

reached_covered : (r : Ray) (t : Tree) (q : ℕ) → Member q (reached r t) → 0 < covering q t
reached_covered r (leaf b p c) q h = go (passes r b) h
  where
    go : (z : Bool) → Member q (cond z (range_of c p) []) → 0 < covering q (leaf b p c)
    go true h = let i = in_range c p q h in rw (le-leb p q i.0, lt-ltb q (p + c) i.1) (omega arith)
    go false h = absurd h
reached_covered r (internal b u v) q h =
    ⊎_elim (λ i. omega (arith, reached_covered r u q i)) (λ i. omega (arith, reached_covered r v q i)) (some_either (λ z. q ≡ z) (reached r u) (reached r v) h)

reached_distinct : (r : Ray) (t : Tree) → ((q : ℕ) → Member q (reached r t) → covering q t ≤ 1) → Distinct (reached r t)
reached_distinct r (leaf b p c) f = go (passes r b)
  where
    go : (z : Bool) → Distinct (cond z (range_of c p) [])
    go true = range_distinct c p
    go false = tt
reached_distinct r (internal b u v) f =
    append_distinct (reached r u) (reached r v)
    (reached_distinct r u (λ q h. omega (arith, f q (some_left (λ z. q ≡ z) (reached r u) (reached r v) h))))
    (reached_distinct r v (λ q h. omega (arith, f q (some_right (λ z. q ≡ z) (reached r u) (reached r v) h))))
    (λ q h k. omega (arith, f q (some_left (λ z. q ≡ z) (reached r u) (reached r v) h), reached_covered r u q h, reached_covered r v q k))

-- ---- so no triangle is, since the index list has each but once
up_once : (n v : ℕ) → occ v (up_to n) ≤ 1
unfolding up_to
up_once zero v = omega arith
up_once (suc n) v =
    let e = occ_append v (up_to n) (n ∷ []) in
    let o = up_once n v in
    ⊎_elim (λ p. last p (occ v (up_to n)) refl) (λ p. omega (arith, e, o, p)) (occurs_cases v n)
  where
    last : v ≡ n → (k : ℕ) → occ v (up_to n) ≡ k → occ v (up_to n ++ (n ∷ [])) ≤ 1
    last p zero z = omega (arith, occ_append v (up_to n) (n ∷ []), ap (λ (x : ℕ). occurs x n) p ∙ occurs_same n, z)
    last p (suc k) z = absurd (let l = up_below n v (omega (arith, z)) in omega (arith, l, p))

two_at : (xs : List ℕ) (p q : ℕ) → p < q → q < length xs → get_or xs p 0 ≡ get_or xs q 0 → 1 < occ (get_or xs q 0) xs
two_at [] p q l h e = absurd (omega arith)
two_at (x ∷ xs) p zero l h e = absurd (omega arith)
two_at (x ∷ xs) zero (suc q) l h e = omega (arith, occ_at xs q (omega arith), ap (λ (v : ℕ). occurs v x) (sym e) ∙ occurs_same x)
two_at (x ∷ xs) (suc p) (suc q) l h e = omega (arith, two_at xs p q (omega arith) (omega arith) e)

member_occ : (v : ℕ) (xs : List ℕ) → Member v xs → 0 < occ v xs
member_occ v [] h = absurd h
member_occ v (x ∷ xs) (inl h) = omega (arith, ap (λ (y : ℕ). occurs v y) (sym h) ∙ occurs_same v)
member_occ v (x ∷ xs) (inr h) = omega (arith, member_occ v xs h)

module _ (s : Lists) (n : ℕ) (P : Perm s.index (up_to n)) where
  one_place : (p q : ℕ) → p < length s.index → q < length s.index → get_or s.index p 0 ≡ get_or s.index q 0 → p ≡ q
  one_place p q h k e =
      elim (ℕ_discrete p q) [
        | yes i ↦ i
        | no i ↦ absurd (apart (ltb p q) refl i)
      ]
    where
      few : (v : ℕ) → occ v s.index ≤ 1
      few v = omega (arith, P v, up_once n v)

      apart : (t : Bool) → ltb p q ≡ t → (p ≡ q → ⊥) → ⊥
      apart true t i = omega (arith, two_at s.index p q (ltb-true p q t) k e, few (get_or s.index q 0))
      apart false t i = omega (arith, two_at s.index q p (below t i) h (sym e), few (get_or s.index p 0))
        where
          below : ltb p q ≡ false → (p ≡ q → ⊥) → q < p
          below t i = elim (eq-or-lt_of_le (ltb-false p q t)) [ inl e ↦ absurd (i (sym e)) | inr l ↦ l ]

  none_of : (ps : List ℕ) (p : ℕ) → (Member p ps → ⊥) → Every (λ q. q < length s.index) (p ∷ ps) → occ (get_or s.index p 0) (numbers s ps) ≡ 0
  none_of [] p f h = refl
  none_of (q ∷ ps) p f h =
      ⊎_elim (λ e. absurd (f (inl (one_place p q h.0 h.1.0 e)))) (λ z. omega (arith, z, none_of ps p (λ i. f (inr i)) (h.0, h.1.1))) (occurs_cases (get_or s.index p 0) (get_or s.index q 0))

  numbers_distinct : (ps : List ℕ) → Distinct ps → Every (λ q. q < length s.index) ps → Distinct (numbers s ps)
  numbers_distinct [] D h = tt
  numbers_distinct (p ∷ ps) D h = ((λ m. omega (arith, member_occ (get_or s.index p 0) (numbers s ps) m, none_of ps p D.0 h)), numbers_distinct ps D.1 h.1)

-- ---- lists with the same members, each once, are of one length
split : (x : ℕ) (ys : List ℕ) → Member x ys → (a : List ℕ) × (b : List ℕ) × (ys ≡ a ++ (x ∷ b))
split x [] h = absurd h
split x (y ∷ ys) (inl h) = ([], ys, ap (λ (z : ℕ). z ∷ ys) (sym h))
split x (y ∷ ys) (inr h) = let w = split x ys h in (y ∷ w.0, w.1, ap (λ (l : List ℕ). y ∷ l) w.2)

others : (v x : ℕ) (a b : List ℕ) → Member v (a ++ (x ∷ b)) → (v ≡ x → ⊥) → Member v (a ++ b)
others v x a b h n =
    ⊎_elim (λ i. some_left (λ z. v ≡ z) a b i) (λ i. ⊎_elim (λ e. absurd (n e)) (λ j. some_right (λ z. v ≡ z) a b j) i) (some_either (λ z. v ≡ z) a (x ∷ b) h)

no_longer : (xs ys : List ℕ) → Distinct xs → ((v : ℕ) → Member v xs → Member v ys) → length xs ≤ length ys
no_longer [] ys D f = omega arith
no_longer (x ∷ xs) ys D f =
    let w = split x ys (f x (inl refl)) in
    let a = w.0 in
    let b = w.1 in
    let g : (v : ℕ) → Member v xs → Member v (a ++ b) = λ v h. others v x a b (subst (λ (l : List ℕ). Member v l) w.2 (f v (inr h))) (λ e. D.0 (subst (λ (z : ℕ). Member z xs) e h)) in
    omega (arith, ap length w.2, length-append a (x ∷ b), length-append a b, no_longer xs (a ++ b) D.1 g)

numbers_length : (s : Lists) (ps : List ℕ) → length (numbers s ps) ≡ length ps
numbers_length s [] = refl
numbers_length s (p ∷ ps) = ap suc (numbers_length s ps)

-- ---- the theorem, of trees that are accepted
reached_inside : (s : Lent) (t : Tree) (r : Ray) → Accepted s t → Every (λ q. q < length s.tree.index) (reached r t)
reached_inside s t r A = in_index s r t 0 A.walkable.holds

once : (s : Lent) (t : Tree) (r : Ray) → Accepted s t → Distinct (numbers s.tree (reached r t))
once s t r A =
    let I = reached_inside s t r A in
    numbers_distinct s.tree (triangle_count s.mesh.triangles) A.permuted (reached r t)
    (reached_distinct r t (λ q h. omega (arith, A.apart q (all_one (λ x. x < length s.tree.index) (reached r t) I q h)))) I

module _ (s s' : Lent) (W : Rearranged s s') (M : Labelled s.mesh) (r : Ray) (R : T (admitted_ray r)) where
  abbrev t : Tree
  t = W.tree

  abbrev t' : Tree
  t' = W.other

  abbrev n : ℕ
  n = triangle_count s.mesh.triangles

  -- no triangles: nothing is reached
  bare : n ≡ 0 → SameNumbers (numbers s.tree (reached r t)) (numbers s'.tree (reached r t'))
  bare z =
      let A = W.accepted.walkable in
      let B = W.other_accepted.walkable in
      let m : triangle_count s'.mesh.triangles ≡ 0 = ap (λ (x : Mesh). triangle_count x.triangles) (sym W.mesh) ∙ z in
      let a = none_there (reached r t) (omega (arith, reached_most r t, A.covers, A.one_each, z)) in
      let b = none_there (reached r t') (omega (arith, reached_most r t', B.covers, B.one_each, m)) in
      rw (a, b) ((λ k h. h), (λ k h. h))
    where
      none_there : (ps : List ℕ) → length ps ≤ 0 → ps ≡ []
      none_there [] h = refl
      none_there (p ∷ ps) h = absurd (omega arith)

  some_there : 0 < n → SameNumbers (numbers s.tree (reached r t)) (numbers s'.tree (reached r t'))
  some_there h =
      let A = W.accepted in
      let B = W.other_accepted in
      let N = A.walkable.nested in
      let N' = B.walkable.nested in
      let F = A.finite h in
      let F' = B.finite (subst (λ (x : Mesh). 0 < triangle_count x.triangles) W.mesh h) in (
        reached_there s s' t t' r R N F N' F' (each_there (leaves_of s.tree t) (leaves_of s'.tree t') W.same),
        reached_there s' s t' t r R N' F' N F (each_back (leaves_of s.tree t) (leaves_of s'.tree t') W.same),
      )

  same : SameNumbers (numbers s.tree (reached r t)) (numbers s'.tree (reached r t'))
  same = go n refl
    where
      go : (k : ℕ) → n ≡ k → SameNumbers (numbers s.tree (reached r t)) (numbers s'.tree (reached r t'))
      go zero e = bare e
      go (suc k) e = some_there (omega (arith, e))

  as_many : length (reached r t) ≡ length (reached r t')
  as_many =
      let p = no_longer (numbers s.tree (reached r t)) (numbers s'.tree (reached r t')) (once s t r W.accepted) same.0 in
      let q = no_longer (numbers s'.tree (reached r t')) (numbers s.tree (reached r t)) (once s' t' r W.other_accepted) same.1 in
      omega (arith, p, q, numbers_length s.tree (reached r t), numbers_length s'.tree (reached r t'))

  -- Rule G9: the same hit or a miss of both, and as many triangle tests
  pub agree : Agree (walk s r) (walk s' r)
  agree =
      let A = W.accepted.walkable in
      let B = W.other_accepted.walkable in
      let D = demand_3 s t r A M R in
      let E = demand_3 s' t' r B (subst Labelled W.mesh M) R in
      record {
        served = D.served;
        other_served = E.served;
        hit = same_hit_lem s s' t t' r W.mesh A B M R same;
        triangles = D.triangle_tests ∙ as_many ∙ sym E.triangle_tests;
      }

-- ---- lists hold one tree
leaf_one : {b b' : Aabb} {p p' c c' : ℕ} → b ≡ b' → p ≡ p' → c ≡ c' → leaf b p c ≡ leaf b' p' c'
leaf_one f g h = rw (f, g, h)

internal_one : {b b' : Aabb} {u u' v v' : Tree} → b ≡ b' → u ≡ u' → v ≡ v' → internal b u v ≡ internal b' u' v'
internal_one f g h = rw (f, g, h)

one_tree : (s : Lists) (i : ℕ) (t t' : Tree) → Holds s i t → Holds s i t' → t ≡ t'
one_tree s i (leaf b p c) (leaf b' p' c') H K = leaf_one (sym H.bounds ∙ K.bounds) (sym H.first ∙ K.first) (sym H.count ∙ K.count)
one_tree s i (leaf b p c) (internal b' u v) H K = absurd (omega (arith, H.kind, K.0.kind))
one_tree s i (internal b u v) (leaf b' p c) H K = absurd (omega (arith, H.0.kind, K.kind))
one_tree s i (internal b u v) (internal b' u' v') H K = internal_one (sym H.0.bounds ∙ K.0.bounds) (one_tree s (left_of i (node_of s i)) u u' H.1 K.1) (one_tree s (right_of i (node_of s i)) v v' H.2 K.2)

-- ---- of the call that accepts: two lists that it accepted, over one mesh, with one list of materials, that hold trees with the same leaves
held_by : (s : Lent) (t : Tree) → Trusted s → Holds s.tree 0 t → (materials : List ℕ) → Accepted (with_materials s materials) t
held_by s t h H materials = relabelled s t materials (subst (Accepted s) (one_tree s.tree 0 h.tree t h.accepted.walkable.holds H) h.accepted)

pub accepted_agree : Gives accept_call.Post (λ κs x r e. r ≡ fine → Gives accept_call.Post (λ κs' x' r' e'. r' ≡ fine → x.0.now ≡ x'.0.now
    → (materials : List ℕ) → length materials ≡ triangle_count x.0.now
    → let l = x.1.0.now in
    let l' = x'.1.0.now in
    (t t' : Tree) → Holds l 0 t → Holds l' 0 t' → SameCollection (leaves_of l t) (leaves_of l' t') → (ray : Ray) → T (admitted_ray ray)
    → Agree (walk (record { mesh = mesh_of x.0.now materials; tree = l }) ray) (walk (record { mesh = mesh_of x'.0.now materials; tree = l' }) ray)))
accepted_agree κs x r e p f κs' x' r' e' p' f' same materials M t t' H H' C ray R =
    let h = (accept_exactly κs x r e p).holds_tree f in
    let h' = (accept_exactly κs' x' r' e' p').holds_tree f' in
    agree _ _ (record {
      mesh = ap (λ (z : List Float). mesh_of z materials) same;
      tree = t;
      other = t';
      accepted = held_by _ t h H materials;
      other_accepted = held_by _ t' h' H' materials;
      same = C;
    }) M ray R

-- ---- of a tree that was built, beside any other with its leaves: another order of the index list within a leaf or of the leaves, other inner nodes and numbers
pub built_agree : (mesh : List Float) (materials index : List ℕ) (boxes : List Float) (links : List ℕ) (nodes leaf_count : ℕ) → (built mesh index boxes links).answer ≡ served_reply nodes leaf_count
    → length materials ≡ triangle_count mesh → let s = handed mesh materials (built mesh index boxes links) in
    (s' : Lent) (t t' : Tree) → s.mesh ≡ s'.mesh → Holds s.tree 0 t → Accepted s' t' → SameCollection (leaves_of s.tree t) (leaves_of s'.tree t')
    → (ray : Ray) → T (admitted_ray ray) → Agree (walk s ray) (walk s' ray)
built_agree mesh materials index boxes links nodes leaf_count e M s' t t' same H A C ray R =
    let s = handed mesh materials (built mesh index boxes links) in
    let h = built_tree mesh materials index boxes links nodes leaf_count e in
    agree s s' (record {
      mesh = same;
      tree = t;
      other = t';
      accepted = subst (Accepted s) (one_tree s.tree 0 h.tree t h.accepted.walkable.holds H) h.accepted;
      other_accepted = A;
      same = C;
    }) (labelled mesh materials index boxes links nodes leaf_count e M) ray R

-- ---- and of each place of a sky
places_alike : (a b : Told) → Agree a b → AgreeAt (place_of a) (place_of b)
unfolding place_of placed
places_alike a b h = rw (h.served, h.other_served, h.hit, h.triangles) (go b.hit)
  where
    go : (f : Option Hit) → AgreeAt (placed none f a.boxes b.triangles) (placed none f b.boxes b.triangles)
    go None = record { outcome = refl; which = refl; t = refl; u = refl; v = refl; triangles = refl; material = refl }
    go (Some g) = record { outcome = refl; which = refl; t = refl; u = refl; v = refl; triangles = refl; material = refl }

pub places_agree : (s s' : Lent) → Rearranged s s' → Labelled s.mesh → (rays times : List Float) (told : List ℕ) → (sky s rays times told).refusal ≡ none → (sky s' rays times told).refusal ≡ none
    → (k : ℕ) → k < ray_count rays → T (admitted_ray (ray_at rays k))
    → AgreeAt (place_at (sky s rays times told).times (sky s rays times told).told k) (place_at (sky s' rays times told).times (sky s' rays times told).told k)
places_agree s s' W M rays times told h h' k l R =
    rw (place_k s rays times told h k l, place_k s' rays times told h' k l)
    (places_alike (walk s (ray_at rays k)) (walk s' (ray_at rays k)) (agree s s' W M (ray_at rays k) R))
