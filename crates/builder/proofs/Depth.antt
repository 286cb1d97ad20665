-- What refusal 6 means: the tree of a range is one, whatever the levels that it is given, there always is one, and too few levels are just those
-- below its depth. Assumes nothing.
use mathlib.Core.Path.{◌≡◌, refl, sym, ◌∙◌, ap, subst}
use mathlib.Core.Logic.{⊎_elim}
use mathlib.Core.Option.{Option, none, some}
use mathlib.Core.List.{List, ◌++◌}
use Prim.Native.Nat.{ℕ, zero, suc, ◌+◌, ◌≤◌, ◌<◌, max}
use native.Mathlib.Omega.{arith}
use lib.ListN.{length, take, drop, length-drop}
use lib.Seq.{length-take-le}
use lib.Ieee.{Float}
use Rattle.std.specs.Prelude.{Option as Maybe, Some, None}
use Rattle.lent.specs.Limits.{deepest}
use Rattle.lent.specs.Ladder.{none as unrefused, numbered, first_failed, answered, unless, triangle_count}
use Rattle.lent.specs.Permutation.{up_to}
use Rattle.float.proofs.Cases.{low_or_high}
use Rattle.aabb.specs.declared.bounds.Aabb.{Aabb}
use Rattle.tree.specs.Tree.{depth, internal}
use Rattle.builder.specs.declared.split.Split.{Split}
use Rattle.builder.specs.Choice.{split_at}
use Rattle.builder.specs.Fallback.{separated}
use Rattle.builder.specs.Range.{node_box}
use Rattle.builder.specs.Tree.{Grown, decision, grow, grown_as, joined, leaf_of}
use Rattle.builder.specs.Depth.{IsTree}
use Rattle.builder.specs.Reply.{refused_reply}
use Rattle.builder.specs.Build.{Outcome, build_checks, finished, built}
use Rattle.builder.proofs.Growing.{decides_four, grow_deep, grow_fork, grow_leaf}
use Rattle.builder.proofs.Trees.{Fine, Of-some, cut_of, grown_fine}

-- ---- options
unfoldable Absent : Option Grown → Type 0
Absent none = ℕ
Absent (some g) = ⊥

no_tree : {A : Type 0} (g : Grown) → none ≡ some g → A
unfolding Absent
no_tree g e = absurd (subst Absent e 0)

same_tree : (g h : Grown) → some g ≡ some h → g ≡ h
same_tree g h e = cc

-- both halves are there, and the tree is theirs
pub record Halves (b : Aabb) (l r : Option Grown) (g : Grown) : Type 0 where
  pub left : Grown
  pub right : Grown
  pub left_is : l ≡ some left
  pub right_is : r ≡ some right
  pub whole_is : g ≡ grown_as (internal b left.tree right.tree) (left.ids ++ right.ids)

halves : (b : Aabb) (l r : Option Grown) (g : Grown) → joined b l r ≡ some g → Halves b l r g
unfolding joined
halves b none r g e = no_tree g e
halves b (some l) none g e = no_tree g e
halves b (some l) (some r) g e = record { left = l; right = r; left_is = refl; right_is = refl; whole_is = sym (same_tree _ g e) }

both : (b : Aabb) (l r : Grown) (x y : Option Grown) → x ≡ some l → y ≡ some r → joined b x y ≡ some (grown_as (internal b l.tree r.tree) (l.ids ++ r.ids))
unfolding joined
both b l r x y p q = rw (p, q)

module _ (m : List Float) where
  -- ---- as many levels as the tree's depth give the same tree
  abbrev Same : ℕ → Type 0
  Same d = (f : ℕ) (ids : List ℕ) (g : Grown) → grow m d f ids ≡ some g → (e : ℕ) → depth g.tree ≤ e → grow m e f ids ≡ some g

  same_leaf : (d f : ℕ) (ids : List ℕ) (g : Grown) → decision m ids ≡ None → grow m d f ids ≡ some g → (e : ℕ) → grow m e f ids ≡ some g
  same_leaf d f ids g p w e = grow_leaf m e f ids p ∙ sym (grow_leaf m d f ids p) ∙ w

  same_fork : (d f : ℕ) (ids : List ℕ) (g : Grown) (a : ℕ) (p : Float) → decision m ids ≡ split_at a p → Same d → grow m (suc d) f ids ≡ some g → (e : ℕ) → depth g.tree ≤ e → grow m e f ids ≡ some g
  same_fork d f ids g a p q ih w e h =
      let s = separated m a p ids in
      let H = halves (node_box m ids) (grow m d f (take s.at s.ids)) (grow m d (f + s.at) (drop s.at s.ids)) g (sym (grow_fork m d f ids a p q) ∙ w) in
      go e H (omega (arith, ap (λ (x : Grown). depth x.tree) H.whole_is))
    where
      go : (e : ℕ) → (H : Halves (node_box m ids) (grow m d f (take (separated m a p ids).at (separated m a p ids).ids)) (grow m d (f + (separated m a p ids).at) (drop (separated m a p ids).at (separated m a p ids).ids)) g)
          → 1 + max (depth H.left.tree) (depth H.right.tree) ≤ e → grow m e f ids ≡ some g
      go zero H k = absurd (omega arith)
      go (suc e) H k =
          let s = separated m a p ids in
          grow_fork m e f ids a p q
          ∙ both (node_box m ids) H.left H.right (grow m e f (take s.at s.ids)) (grow m e (f + s.at) (drop s.at s.ids))
          (ih f (take s.at s.ids) H.left H.left_is e (omega arith)) (ih (f + s.at) (drop s.at s.ids) H.right H.right_is e (omega arith))
          ∙ ap some (sym H.whole_is)

  same_by : (d f : ℕ) (ids : List ℕ) (g : Grown) (w : Maybe Split) → decision m ids ≡ w → ((x : ℕ) → d ≡ suc x → Same x) → grow m d f ids ≡ some g → (e : ℕ) → depth g.tree ≤ e → grow m e f ids ≡ some g
  same_by d f ids g None p ih w e h = same_leaf d f ids g p w e
  same_by zero f ids g (Some z) q ih w e h = no_tree g (sym (grow_deep m f ids z.axis z.position q) ∙ w)
  same_by (suc d) f ids g (Some z) q ih w e h = same_fork d f ids g z.axis z.position q (ih d refl) w e h

  same : (d : ℕ) → Same d
  same zero f ids g w e h = same_by 0 f ids g (decision m ids) refl (λ x z. absurd (omega arith)) w e h
  same (suc d) f ids g w e h = same_by (suc d) f ids g (decision m ids) refl (λ x z. subst Same (let y : d ≡ x = omega arith in y) (same d)) w e h

  shallow : (d f : ℕ) (ids : List ℕ) (g : Grown) → grow m d f ids ≡ some g → depth g.tree ≤ d
  shallow d f ids g w = let F : Fine m d f ids g = subst (Of-some (Fine m d f ids)) w (grown_fine m d f ids) in F.shallow

  -- ---- enough levels always give a tree: a range is longer than its halves
  abbrev Grows : ℕ → ℕ → List ℕ → Type 0
  Grows d f ids = (g : Grown) × (grow m d f ids ≡ some g)

  grows_leaf : (d f : ℕ) (ids : List ℕ) → decision m ids ≡ None → Grows d f ids
  unfolding leaf_of
  grows_leaf d f ids p = (_, grow_leaf m d f ids p)

  grows_by : (d f : ℕ) (ids : List ℕ) (w : Maybe Split) → decision m ids ≡ w → length ids ≤ d → ((x : ℕ) → d ≡ suc x → (g : ℕ) (xs : List ℕ) → length xs ≤ x → Grows x g xs) → Grows d f ids
  grows_by d f ids None p h ih = grows_leaf d f ids p
  grows_by zero f ids (Some z) q h ih = absurd (omega (arith, decides_four m ids z.axis z.position q))
  grows_by (suc d) f ids (Some z) q h ih =
      let s = separated m z.axis z.position ids in
      let c = cut_of m ids z.axis z.position q in
      let u = ih d refl f (take s.at s.ids) (omega (arith, length-take-le s.at s.ids (omega (arith, c.high, c.len)), c.high)) in
      let v = ih d refl (f + s.at) (drop s.at s.ids) (omega (arith, length-drop s.at s.ids, c.len, c.low)) in
      (_, grow_fork m d f ids z.axis z.position q ∙ both (node_box m ids) u.0 v.0 (grow m d f (take s.at s.ids)) (grow m d (f + s.at) (drop s.at s.ids)) u.1 v.1)

  grows : (d f : ℕ) (ids : List ℕ) → length ids ≤ d → Grows d f ids
  grows zero f ids h = grows_by 0 f ids (decision m ids) refl h (λ x z. absurd (omega arith))
  grows (suc d) f ids h = grows_by (suc d) f ids (decision m ids) refl h (λ x z g xs k. subst (λ (y : ℕ). Grows y g xs) (let y : d ≡ x = omega arith in y) (grows d g xs (omega arith)))

  -- ---- the tree of a range
  module _ (f : ℕ) (ids : List ℕ) where
    pub some_tree : (g : Grown) × IsTree m f ids g
    some_tree = let w = grows (length ids) f ids (omega arith) in (w.0, record { levels = length ids; grows = w.1 })

    pub one_tree : (g h : Grown) → IsTree m f ids g → IsTree m f ids h → g ≡ h
    one_tree g h G H =
        let d = G.levels + H.levels in
        same_tree g h (sym (same G.levels f ids g G.grows d (omega (arith, shallow G.levels f ids g G.grows))) ∙ same H.levels f ids h H.grows d (omega (arith, shallow H.levels f ids h H.grows)))

    module _ (g : Grown) (G : IsTree m f ids g) (d : ℕ) where
      pub enough : depth g.tree ≤ d → grow m d f ids ≡ some g
      enough h = same G.levels f ids g G.grows d h

      pub too_few : d < depth g.tree → grow m d f ids ≡ none
      too_few h = go (grow m d f ids) refl
        where
          go : (w : Option Grown) → grow m d f ids ≡ w → w ≡ none
          go none e = refl
          go (some x) e = absurd (omega (arith, shallow d f ids x e, ap (λ (z : Grown). depth z.tree) (one_tree g x G (record { levels = d; grows = e }))))

      pub only_few : grow m d f ids ≡ none → d < depth g.tree
      only_few e = ⊎_elim (λ h. h) (λ h. no_tree g (sym e ∙ enough h)) (low_or_high d (depth g.tree))

-- ---- refusal 6 of the call, where none of the checks before it refuses
module _ (mesh : List Float) (index : List ℕ) (boxes : List Float) (links : List ℕ) (passed : first_failed (build_checks mesh index boxes links) ≡ unrefused) where
  abbrev n : ℕ
  n = triangle_count mesh

  finishes : built mesh index boxes links ≡ finished n (grow mesh deepest 0 (up_to n)) index boxes links
  unfolding built unless answered
  finishes = rw passed

  six : (w : Option Grown) → w ≡ none → (finished n w index boxes links).answer ≡ refused_reply 6 0
  unfolding finished
  six w e = rw e

  no_six : (w : Option Grown) → (finished n w index boxes links).answer.refusal ≡ numbered 6 0 → w ≡ none
  unfolding finished
  no_six none e = refl
  no_six (some g) e = absurd (let z : ◌≡◌ {A = ℕ} 0 1 = cc in omega arith)

  module _ (g : Grown) (whole : IsTree mesh 0 (up_to n) g) where
    -- the tree of the whole mesh has a node deeper than 63: refused by 6
    pub deep_six : deepest < depth g.tree → (built mesh index boxes links).answer ≡ refused_reply 6 0
    deep_six h = ap (λ (o : Outcome). o.answer) finishes ∙ six (grow mesh deepest 0 (up_to n)) (too_few mesh 0 (up_to n) g whole deepest h)

    -- and only then
    pub six_deep : (built mesh index boxes links).answer.refusal ≡ numbered 6 0 → deepest < depth g.tree
    six_deep e = only_few mesh 0 (up_to n) g whole deepest (no_six (grow mesh deepest 0 (up_to n)) (ap (λ (o : Outcome). o.answer.refusal) (sym finishes) ∙ e))
