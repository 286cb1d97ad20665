-- The walk's hit is the nearest of those at the places that it tests, the lowest triangle number winning a tie; it misses where nothing is found there.
-- By one order of hits, `Ahead`: a place's hit that replaces the one so far is ahead of it, and one that does not is behind it. Assumes nothing.
use Rattle.std.specs.Prelude.{Option, Some, None}
use mathlib.Core.Path.{◌≡◌, refl, sym, ap, ◌∙◌}
use mathlib.Core.Logic.{◌⊎◌, inl, inr}
use mathlib.Core.Bool.{Bool, true, false, cond}
use mathlib.Core.List.{List, [], ◌∷◌, ◌++◌}
use Prim.Native.Nat.{ℕ, zero, suc, ◌+◌, ◌≤◌, ◌<◌}
use native.Mathlib.Omega.{arith}
use borrow.Author.Tests.{ltb-true, ltb-false}
use lib.Dec.{T, T_not, ltb}
use lib.ListN.{length, get_or}
use lib.Ieee.{Float, nan, inf, fin, lt, le}
use lib.Ieee.Scale.{finite}
use Rattle.float.specs.Number.{real, infinity}
use Rattle.float.proofs.Numbers.{infinity_is}
use Rattle.float.proofs.Order.{finite_real, lt→le, not_lt→le, lt→not_le, not_le→lt, le_refl, le_trans}
use Rattle.aabb.specs.declared.vector.Ray.{Ray}
use Rattle.aabb.specs.Vector.{admitted_ray}
use Rattle.aabb.specs.Slab.{passes}
use Rattle.triangle.specs.declared.Hit.{Hit}
use Rattle.triangle.specs.Mesh.{triangle_at}
use Rattle.triangle.specs.Meeting.{distance, hit_at, found, strike}
use Rattle.triangle.specs.Spot.{Inside}
use Rattle.triangle.proofs.Finite.{strike_finite}
use Rattle.triangle.proofs.Spot.{spot_inside}
use Rattle.walk.specs.declared.tally.Met.{Met}
use Rattle.tree.specs.Lent.{Mesh, Lent, Labelled, material_of}
use Rattle.walk.specs.Walk.{met, replaces as replaces_by, nearer as nearer_by, after, hit_of, over, walk}
use Rattle.tree.specs.Tree.{Tree, leaf, internal}
use Rattle.tree.specs.Holds.{Holds}
use Rattle.tree.specs.Accepted.{Walkable}
use Rattle.tree.specs.Leaves.{range_of}
use Rattle.demands.specs.Reached.{reached, nearest as nearest_of}
use Rattle.demands.proofs.Walking.{walked}
use Rattle.lent.specs.Members.{Every, Any}
use Rattle.demands.specs.NearestHit.{Admitted, finds, Ahead, NearestAt, NothingAt}

-- ---- with the whole hit carried, where the walk carries its t and its number
abbrev bare : Option Hit → Option Met
bare None = None
bare (Some h) = met h.t h.triangle

abbrev replaces : Option Hit → Hit → Bool
replaces best h = replaces_by (bare best) h.triangle h.t

unfoldable nearer : Option Hit → Option Hit → Option Hit
nearer best None = best
nearer best (Some h) = cond (replaces best h) (Some h) best

abbrev nearest : Lent → Ray → Option Hit → List ℕ → Option Hit
nearest s r best [] = best
nearest s r best (p ∷ ps) = nearest s r (nearer best (finds s r p)) ps

same_replaces : (m : Mesh) (r : Ray) (b : Option Met) (k : ℕ) (t : Float) → replaces (hit_of m r b) (hit_at r (triangle_at m.triangles k) k (material_of m k) t) ≡ replaces_by b k t
unfolding hit_of hit_at
same_replaces m r None k t = refl
same_replaces m r (Some b) k t = refl

same_cond : (m : Mesh) (r : Ray) (q : Bool) (a b : Option Met) → hit_of m r (cond q a b) ≡ cond q (hit_of m r a) (hit_of m r b)
same_cond m r true a b = refl
same_cond m r false a b = refl

same_nearer : (m : Mesh) (r : Ray) (b : Option Met) (k : ℕ) (d : Option Float) → hit_of m r (nearer_by b k d) ≡ nearer (hit_of m r b) (found r (triangle_at m.triangles k) k (material_of m k) d)
unfolding nearer_by nearer found
same_nearer m r b k None = refl
same_nearer m r b k (Some t) = same_cond m r (replaces_by b k t) (met t k) b ∙ rw (same_replaces m r b k t) (unfold hit_of in refl)

same_nearest : (s : Lent) (r : Ray) (ps : List ℕ) (b : Option Met) → hit_of s.mesh r (nearest_of s r b ps) ≡ nearest s r (hit_of s.mesh r b) ps
unfolding after strike
same_nearest s r [] b = refl
same_nearest s r (p ∷ ps) b =
    let k = get_or s.tree.index p 0 in
    same_nearest s r ps (after s.mesh.triangles r k b)
    ∙ ap (λ (f : Option Hit). nearest s r f ps) (same_nearer s.mesh r b k (distance r (triangle_at s.mesh.triangles k)))

-- ---- the order of hits
earlier_ahead : (h g : Hit) → T (lt h.t g.t) → Ahead h g
earlier_ahead h g l = (lt→le h.t g.t l, λ m. absurd (T_not (le g.t h.t) (lt→not_le h.t g.t l) m))

ahead_trans : (f g h : Hit) → Ahead f g → Ahead g h → Ahead f h
ahead_trans f g h a b = (
  le_trans f.t g.t h.t a.0 b.0,
  λ l. let i = a.1 (le_trans g.t h.t f.t b.0 l) in let j = b.1 (le_trans h.t f.t g.t l a.0) in omega (arith, i, j),
)

kept_ahead : (b h : Hit) → T (real b.t) → T (real h.t) → replaces (Some b) h ≡ false → Ahead b h
unfolding replaces_by
kept_ahead b h B H e = go (ltb h.triangle b.triangle) refl e
  where
    go : (q : Bool) → ltb h.triangle b.triangle ≡ q → cond q (le h.t b.t) (lt h.t b.t) ≡ false → Ahead b h
    go true i e = earlier_ahead b h (not_le→lt h.t b.t H B (rw e tt))
    go false i e = (not_lt→le b.t h.t B H (rw e tt), λ l. ltb-false h.triangle b.triangle i)

replacing_ahead : (b h : Hit) → replaces (Some b) h ≡ true → Ahead h b
unfolding replaces_by
replacing_ahead b h e = go (ltb h.triangle b.triangle) refl e
  where
    go : (q : Bool) → ltb h.triangle b.triangle ≡ q → cond q (le h.t b.t) (lt h.t b.t) ≡ true → Ahead h b
    go true i e = (rw e tt, λ l. omega (arith, ltb-true h.triangle b.triangle i))
    go false i e = earlier_ahead h b (rw e tt)

-- a finite t is less than the infinity
finite_below : (x : Float) → T (finite x) → T (lt x infinity)
finite_below x h = rw infinity_is (go x h)
  where
    go : (x : Float) → T (finite x) → T (lt x (inf false))
    go (fin s m e) h = unfold lt in tt
    go (inf s) h = absurd h
    go nan h = absurd h

pub nowhere : {h : Hit} → None ≡ Some h → ⊥
nowhere {h} e = let z : ◌≡◌ {A = ℕ} 0 1 = cc in omega arith

-- ---- what the tests at some places leave
module _ (s : Lent) (r : Ray) where
  -- each t there is finite
  abbrev pub Finite : ℕ → Type 0
  Finite p = (g : Hit) → finds s r p ≡ Some g → T (finite g.t)

  abbrev Behind : Hit → ℕ → Type 0
  Behind h p = (g : Hit) → finds s r p ≡ Some g → Ahead h g

  abbrev Real : Option Hit → Type 0
  Real None = Unit {0}
  Real (Some b) = T (real b.t)

  abbrev NoWorse : Hit → Option Hit → Type 0
  NoWorse h None = Unit {0}
  NoWorse h (Some b) = Ahead h b

  -- what the places ps make of best, if it is h
  record Made (best : Option Hit) (ps : List ℕ) (h : Hit) : Type 0 where
    from : (best ≡ Some h) ⊎ Any (λ (p : ℕ). finds s r p ≡ Some h) ps
    no_worse : NoWorse h best
    ahead : Every (Behind h) ps

  no_worse_trans : (best : Option Hit) (x h : Hit) → Ahead h x → NoWorse x best → NoWorse h best
  no_worse_trans None x h a b = tt
  no_worse_trans (Some y) x h a b = ahead_trans h x y a b

  here : (p : ℕ) (x h : Hit) → finds s r p ≡ Some x → Ahead h x → Behind h p
  here p x h e a g j = let i : x ≡ g = cc in rw (← i) a

  none_here : (best : Option Hit) (p : ℕ) (ps : List ℕ) (h : Hit) → finds s r p ≡ None → Made best ps h → Made best (p ∷ ps) h
  none_here best p ps h e m = record { from = go m.from; no_worse = m.no_worse; ahead = ((λ g j. absurd (nowhere (sym e ∙ j))), m.ahead) }
    where
      go : (best ≡ Some h) ⊎ Any (λ (q : ℕ). finds s r q ≡ Some h) ps → (best ≡ Some h) ⊎ Any (λ (q : ℕ). finds s r q ≡ Some h) (p ∷ ps)
      go (inl i) = inl i
      go (inr i) = inr (inr i)

  new_best : (best : Option Hit) (p : ℕ) (ps : List ℕ) (x h : Hit) → finds s r p ≡ Some x → NoWorse x best → Made (Some x) ps h → Made best (p ∷ ps) h
  new_best best p ps x h e b m =
      record { from = inr (go m.from); no_worse = no_worse_trans best x h m.no_worse b; ahead = (here p x h e m.no_worse, m.ahead) }
    where
      go : (Some x ≡ Some h) ⊎ Any (λ (q : ℕ). finds s r q ≡ Some h) ps → Any (λ (q : ℕ). finds s r q ≡ Some h) (p ∷ ps)
      go (inl i) = inl (e ∙ i)
      go (inr i) = inr i

  old_best : (y : Hit) (p : ℕ) (ps : List ℕ) (x h : Hit) → finds s r p ≡ Some x → Ahead y x → Made (Some y) ps h → Made (Some y) (p ∷ ps) h
  old_best y p ps x h e a m =
      record { from = go m.from; no_worse = m.no_worse; ahead = (here p x h e (ahead_trans h y x m.no_worse a), m.ahead) }
    where
      go : (Some y ≡ Some h) ⊎ Any (λ (q : ℕ). finds s r q ≡ Some h) ps → (Some y ≡ Some h) ⊎ Any (λ (q : ℕ). finds s r q ≡ Some h) (p ∷ ps)
      go (inl i) = inl i
      go (inr i) = inr (inr i)

  -- a finite t replaces no hit at all
  first_replaces : (x : Hit) → T (finite x.t) → replaces None x ≡ false → ⊥
  unfolding replaces_by
  first_replaces x f e = T_not (lt x.t infinity) (rw e tt) (finite_below x.t f)

  replacing : (best : Option Hit) (x : Hit) → replaces best x ≡ true → NoWorse x best
  replacing None x e = tt
  replacing (Some y) x e = replacing_ahead y x e

  step : (best : Option Hit) (p : ℕ) (ps : List ℕ) (h : Hit) (f : Option Hit) → finds s r p ≡ f → Real best → Finite p
      → ((b : Option Hit) → Real b → nearest s r b ps ≡ Some h → Made b ps h) → nearest s r (nearer best f) ps ≡ Some h → Made best (p ∷ ps) h
  unfolding nearer
  step best p ps h None e b w k n = none_here best p ps h e (k best b n)
  step best p ps h (Some x) e b w k n = go (replaces best x) refl n
    where
      kept : (y : Option Hit) → best ≡ y → replaces y x ≡ false → Real y → nearest s r y ps ≡ Some h → Made y (p ∷ ps) h
      kept None i l b n = absurd (first_replaces x (w x e) l)
      kept (Some y) i l b n = old_best y p ps x h e (kept_ahead y x b (finite_real x.t (w x e)) l) (k (Some y) b n)

      go : (q : Bool) → replaces best x ≡ q → nearest s r (cond q (Some x) best) ps ≡ Some h → Made best (p ∷ ps) h
      go true l n = new_best best p ps x h e (replacing best x l) (k (Some x) (finite_real x.t (w x e)) n)
      go false l n = kept best refl l b n

  made : (ps : List ℕ) (best : Option Hit) (h : Hit) → Real best → Every Finite ps → nearest s r best ps ≡ Some h → Made best ps h
  made [] best h b a e = record { from = inl e; no_worse = itself best h b e; ahead = tt }
    where
      itself : (best : Option Hit) (h : Hit) → Real best → best ≡ Some h → NoWorse h best
      itself None h b e = tt
      itself (Some y) h b e = let i : y ≡ h = cc in rw (← i) ((le_refl y.t b, λ l. omega arith))
  made (p ∷ ps) best h b a e = step best p ps h (finds s r p) refl b a.0 (λ c d. made ps c h d a.1) e

  clear : (ps : List ℕ) (best : Option Hit) → Every Finite ps → nearest s r best ps ≡ None → (best ≡ None) × Every (NothingAt s r) ps
  unfolding nearer
  clear [] best a e = (e, tt)
  clear (p ∷ ps) best a e = go (finds s r p) refl (clear ps (nearer best (finds s r p)) a.1 e)
    where
      not_new : (q : Bool) (x : Hit) → replaces best x ≡ q → finds s r p ≡ Some x → cond q (Some x) best ≡ None → ⊥
      not_new true x l i e = nowhere (sym e)
      not_new false x l i e = first_replaces x (a.0 x i) (ap (λ (f : Option Hit). replaces f x) (sym e) ∙ l)

      go : (f : Option Hit) → finds s r p ≡ f → (nearer best f ≡ None) × Every (NothingAt s r) ps → (best ≡ None) × Every (NothingAt s r) (p ∷ ps)
      go None i w = (w.0, (i, w.1))
      go (Some x) i w = absurd (not_new (replaces best x) x refl i w.0)

  -- ---- from no hit on
  abbrev pub hit_among : List ℕ → Option Hit
  hit_among ps = hit_of s.mesh r (nearest_of s r None ps)

  carried : (ps : List ℕ) → nearest s r None ps ≡ hit_among ps
  unfolding hit_of
  carried ps = sym (same_nearest s r ps None)

  -- a hit is the nearest of those at the places, the lowest triangle number winning a tie
  pub nearest_at : (ps : List ℕ) → Every Finite ps → (h : Hit) → hit_among ps ≡ Some h → NearestAt s r ps h
  nearest_at ps a h e = let m = made ps None h tt a (carried ps ∙ e) in record { found = go m.from; ahead = m.ahead }
    where
      go : (None ≡ Some h) ⊎ Any (λ (p : ℕ). finds s r p ≡ Some h) ps → Any (λ (p : ℕ). finds s r p ≡ Some h) ps
      go (inl i) = absurd (nowhere i)
      go (inr i) = i

  -- where there is none, nothing is found at any of them
  pub nothing_at : (ps : List ℕ) → Every Finite ps → hit_among ps ≡ None → Every (NothingAt s r) ps
  nothing_at ps a e = (clear ps None a (carried ps ∙ e)).1

-- ---- the places that a ray reaches
all_append : (P : ℕ → Type 0) (ps qs : List ℕ) → Every P ps → Every P qs → Every P (ps ++ qs)
all_append P [] qs a b = b
all_append P (p ∷ ps) qs a b = (a.0, all_append P ps qs a.1 b)

all_map : {P Q : ℕ → Type 0} → ((p : ℕ) → P p → Q p) → (ps : List ℕ) → Every P ps → Every Q ps
all_map f [] a = tt
all_map f (p ∷ ps) a = (f p a.0, all_map f ps a.1)

all_range : (n c p : ℕ) → p + c ≤ n → Every (λ q. q < n) (range_of c p)
all_range n zero p h = tt
all_range n (suc c) p h = (omega arith, all_range n c (suc p) (omega arith))

all_cond : (P : ℕ → Type 0) (q : Bool) (ps : List ℕ) → Every P ps → Every P (cond q ps [])
all_cond P true ps a = a
all_cond P false ps a = tt

pub in_index : (s : Lent) (r : Ray) (t : Tree) (i : ℕ) → Holds s.tree i t → Every (λ p. p < length s.tree.index) (reached r t)
in_index s r (leaf b p c) i H = all_cond _ (passes r b) (range_of c p) (all_range (length s.tree.index) c p H.inside)
in_index s r (internal b u v) i H = all_append _ (reached r u) (reached r v) (in_index s r u _ H.1) (in_index s r v _ H.2)

pub all_finite : (s : Lent) (r : Ray) → T (admitted_ray r) → (ps : List ℕ) → Every (Admitted s) ps → Every (Finite s r) ps
all_finite s r R ps a = all_map (λ p h g e. let k = get_or s.tree.index p 0 in strike_finite r (triangle_at s.mesh.triangles k) R h k (material_of s.mesh k) g e) ps a

some_holds : {P Q : ℕ → Type 0} {B : Type 0} → ((p : ℕ) → P p → Q p → B) → (ps : List ℕ) → Any P ps → Every Q ps → B
some_holds f [] h a = absurd h
some_holds f (p ∷ ps) (inl h) a = f p h a.0
some_holds f (p ∷ ps) (inr h) a = some_holds f ps h a.1

-- ---- the theorems, of an accepted tree
module _ (s : Lent) (t : Tree) (r : Ray) (A : Walkable s t) (M : Labelled s.mesh) (R : T (admitted_ray r)) where
  pub reached_admitted : Every (Admitted s) (reached r t)
  reached_admitted = all_map (λ p h. A.admitted (get_or s.tree.index p 0) (A.entries p h)) (reached r t) (in_index s r t 0 A.holds)

  reached_finite : Every (Finite s r) (reached r t)
  reached_finite = all_finite s r R (reached r t) reached_admitted

  pub walk_hit : (walk s r).hit ≡ hit_among s r (reached r t)
  unfolding over
  walk_hit = ap (λ w. w.hit) (walked s t r A M R)

  -- the hit is the nearest of those at the places that are reached, the lowest triangle number winning a tie
  pub walk_nearest : (h : Hit) → (walk s r).hit ≡ Some h → NearestAt s r (reached r t) h
  walk_nearest h e = nearest_at s r (reached r t) reached_finite h (sym walk_hit ∙ e)

  -- and it lies inside its triangle, as u and v are rounded (rule T8)
  pub walk_inside : (h : Hit) → (walk s r).hit ≡ Some h → Inside h
  walk_inside h e =
      let f : (p : ℕ) → finds s r p ≡ Some h → Admitted s p → Inside h = λ p i A. let k = get_or s.tree.index p 0 in spot_inside r (triangle_at s.mesh.triangles k) R A k (material_of s.mesh k) h i in
      some_holds f (reached r t) (walk_nearest h e).found reached_admitted

  -- where there is none, nothing is found at any of them
  pub walk_clear : (walk s r).hit ≡ None → Every (NothingAt s r) (reached r t)
  walk_clear e = nothing_at s r (reached r t) reached_finite (sym walk_hit ∙ e)
