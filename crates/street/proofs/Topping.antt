-- Where no check of making's ladder fails, every proxy is admitted and the rooms suffice: so the build over them is the tree, or 6. Assumes nothing.
use Rattle.std.specs.Prelude.{Option as Found, Some as At, None}
use mathlib.Core.Path.{◌≡◌, refl, sym, ap, ◌∙◌, subst⁻¹}
use Prim.Native.Nat.{ℕ, ◌*◌, ◌/◌, ◌%◌, ◌≤◌, ◌<◌}
use native.Mathlib.Omega.{arith}
use mathlib.Core.Bool.{Bool, true, false, cond}
use mathlib.Core.Logic.{◌⊎◌, inl, inr}
use mathlib.Core.Option.{Option, none as deep, some}
use mathlib.Core.List.{List, [], ◌∷◌, ◌++◌}
use lib.ListN.{length}
use lib.Dec.{T}
use lib.Ieee.{Float}
use lib.Ieee.Fits.{and_l}
use borrow.Author.Tests.{ltb-false}
use Rattle.lent.specs.Limits.{most_triangles, most_placements, deepest}
use Rattle.lent.specs.Ladder.{Check, Refusal, none, numbered, first_failed, answered, unless, triangle_count}
use Rattle.lent.specs.Members.{Every, Any, Member}
use Rattle.lent.specs.Permutation.{up_to}
use Rattle.lent.proofs.Ladder.{ends, goes, agree, not_below, apart, each_passed}
use Rattle.aabb.specs.declared.bounds.Aabb.{Aabb}
use Rattle.aabb.specs.Bounds.{bounded}
use Rattle.triangle.specs.declared.Triangle.{Triangle}
use Rattle.triangle.specs.Mesh.{triangle_at, admitted_triangle}
use Rattle.triangle.proofs.Admitting.{all_admitted, none_bad}
use Rattle.builder.specs.Reply.{refused_reply}
use Rattle.builder.specs.Tree.{Grown, grow}
use Rattle.builder.specs.Build.{Outcome as Build, outcome as top, built, finished, room}
use Rattle.street.specs.Rows.{matrix_at, good_matrix}
use Rattle.street.specs.Placing.{world_at, proxy_of}
use Rattle.street.specs.Making.{placement_count, good_at, near_at, lowest, misplaced, proxies, Outcome, outcome, raised, placement_checks, room_checks, made_over}
use Rattle.street.specs.Served.{NoOverflow, TopTree, Named}
use Rattle.street.proofs.Searching.{all_stand, none_misplaced}
use Rattle.street.proofs.ProxyRoom.{proxies_length, proxy_is}
use Rattle.street.proofs.Sizes.{world_finite, proxy_admitted}

module _ (matrices : List Float) (root : Aabb) where
  abbrev m : ℕ
  m = placement_count matrices

  as_long : length (proxies matrices root) ≡ m * 12
  unfolding proxies
  as_long = proxies_length matrices root m

  pub proxy_j : (j : ℕ) → j < m → triangle_at (proxies matrices root) j ≡ proxy_of (world_at matrices root j)
  unfolding proxies
  proxy_j j h = proxy_is matrices root m j h

  module _ (near : (j : ℕ) → j < m → T (near_at matrices root j)) where
    pub admitted_j : (j : ℕ) → j < m → T (admitted_triangle (triangle_at (proxies matrices root) j))
    unfolding near_at
    admitted_j j h = subst⁻¹ (λ (t : Triangle). T (admitted_triangle t)) (proxy_j j h) (proxy_admitted (world_at matrices root j) (near j h))

    count : triangle_count (proxies matrices root) ≡ m
    count = omega (arith, as_long)

    -- the build of the proxies, in rooms that suffice
    pub tree_is : (index : List ℕ) (boxes : List Float) (links : List ℕ) → m ≤ most_placements → m ≤ length index → room m ≤ length boxes / 6 → room m ≤ length links / 3
        → built (proxies matrices root) index boxes links ≡ finished m (grow (proxies matrices root) deepest 0 (up_to m)) index boxes links
    unfolding built
    tree_is index boxes links few i b l =
        let whole : length (proxies matrices root) % 12 ≡ 0 = omega (arith, as_long) in
        let fits : m ≤ most_triangles = omega (arith, few) in
        sym (rw count (ends (goes (agree whole) (goes (not_below fits) (goes (not_below i) (goes (not_below b) (goes (not_below l) (none_bad (all_admitted (proxies matrices root) m 0 (λ j p q. admitted_j j (omega arith))) refl))))))))

-- ---- the ladder
-- a refusal is that of a check
failed_number : (checks : List Check) (number at : ℕ) → first_failed checks ≡ numbered number at → Any (λ c. number ≡ c.number) checks
unfolding first_failed
failed_number [] number at e = apart number at e
failed_number (c ∷ cs) number at e = go c.fails e (λ f. failed_number cs number at f)
  where
    same : (k i : ℕ) → numbered k i ≡ numbered number at → number ≡ k
    same k i e = cc

    go : (t : Bool) → cond t (numbered c.number c.at) (first_failed cs) ≡ numbered number at → (first_failed cs ≡ numbered number at → Any (λ d. number ≡ d.number) cs) → (number ≡ c.number) ⊎ Any (λ d. number ≡ d.number) cs
    go true f rest = inl (same c.number c.at f)
    go false f rest = inr (rest f)

misplaced_number : (k : ℕ) (f : Found ℕ) → (misplaced k f).number ≡ k
unfolding misplaced
misplaced_number k (At i) = refl
misplaced_number k None = refl

-- Where 23, 24 and 25 do not apply, no world box overflows
pub no_overflow : (matrices inverses : List Float) (root : Aabb) → first_failed (placement_checks matrices inverses) ≡ none → T (bounded root) → NoOverflow matrices root
unfolding world_at good_at
no_overflow matrices inverses root e h i l =
    let good = all_stand (good_at matrices inverses) (placement_count matrices) 0 i (none_misplaced 24 (lowest (good_at matrices inverses) 0 (placement_count matrices)) (each_passed (placement_checks matrices inverses) e).1.1.1.0) (omega arith) (omega arith) in
    world_finite (matrix_at matrices i) (and_l (good_matrix (matrix_at matrices i)) (good_matrix (matrix_at inverses i)) good) root h

module _ (matrices inverses : List Float) (root : Aabb) (before : List Float) (index : List ℕ) (boxes : List Float) (links : List ℕ) where
  abbrev checks : List Check
  checks = placement_checks matrices inverses ++ room_checks matrices root before index boxes links

  abbrev all_made : Outcome
  all_made = made_over matrices inverses root before index boxes links

  module _ (passes : first_failed checks ≡ none) where
    passed : Every (λ c. c.fails ≡ false) checks
    passed = each_passed checks passes

    raised_is : all_made.tree ≡ built (proxies matrices root) index boxes links
    unfolding made_over unless answered raised
    raised_is = ap (λ (r : Refusal). (answered r (λ number at. outcome (top (refused_reply number at) index boxes links) before) (raised (proxies matrices root) before index boxes links)).tree) passes

    near : (j : ℕ) → j < placement_count matrices → T (near_at matrices root j)
    near j h = all_stand (near_at matrices root) (placement_count matrices) 0 j (none_misplaced 26 (lowest (near_at matrices root) 0 (placement_count matrices)) passed.1.1.1.1.1.0) (omega arith) (omega arith)

    -- Where no check fails, what is made is the tree of the proxies, or 6
    pub top_tree : TopTree matrices root index boxes links all_made
    top_tree =
        let few = ltb-false most_placements (placement_count matrices) passed.1.1.0 in
        let i = ltb-false (length index) (placement_count matrices) passed.1.1.1.1.1.1.1.0 in
        let b = ltb-false (length boxes / 6) (room (placement_count matrices)) passed.1.1.1.1.1.1.1.1.0 in
        let l = ltb-false (length links / 3) (room (placement_count matrices)) passed.1.1.1.1.1.1.1.1.1.0 in
        record {
          tree = raised_is ∙ tree_is matrices root near index boxes links few i b l;
          proxy = proxy_j matrices root;
          admitted = admitted_j matrices root near;
        }

  deep_number : (o : Option Grown) (number at : ℕ) → (finished (placement_count matrices) o index boxes links).answer.refusal ≡ numbered number at → number ≡ 6
  unfolding finished
  deep_number deep number at e = cc
  deep_number (some g) number at e = apart number at e

  -- the refusals of making
  pub named : Named all_made
  named number at e = go (first_failed checks) refl
    where
      listed : Any (λ c. number ≡ c.number) checks → Member number (23 ∷ 24 ∷ 25 ∷ 26 ∷ 16 ∷ 3 ∷ 4 ∷ 6 ∷ [])
      listed (inl p) = inl p
      listed (inr (inl p)) = inl p
      listed (inr (inr (inl p))) = inl p
      listed (inr (inr (inr (inl p)))) = inr (inl (p ∙ misplaced_number 24 _))
      listed (inr (inr (inr (inr (inl p))))) = inr (inr (inl p))
      listed (inr (inr (inr (inr (inr (inl p)))))) = inr (inr (inr (inl (p ∙ misplaced_number 26 _))))
      listed (inr (inr (inr (inr (inr (inr (inl p))))))) = inr (inr (inr (inr (inl p))))
      listed (inr (inr (inr (inr (inr (inr (inr (inl p)))))))) = inr (inr (inr (inr (inr (inl p)))))
      listed (inr (inr (inr (inr (inr (inr (inr (inr (inl p))))))))) = inr (inr (inr (inr (inr (inr (inl p))))))
      listed (inr (inr (inr (inr (inr (inr (inr (inr (inr (inl p)))))))))) = inr (inr (inr (inr (inr (inr (inl p))))))
      listed (inr (inr (inr (inr (inr (inr (inr (inr (inr (inr p)))))))))) = absurd p

      told : (k i : ℕ) → first_failed checks ≡ numbered k i → all_made.tree.answer.refusal ≡ numbered k i
      told k i f = unfold made_over unless answered in ap (λ (r : Refusal). (answered r (λ number at. outcome (top (refused_reply number at) index boxes links) before) (raised (proxies matrices root) before index boxes links)).tree.answer.refusal) f

      go : (r : Refusal) → first_failed checks ≡ r → Member number (23 ∷ 24 ∷ 25 ∷ 26 ∷ 16 ∷ 3 ∷ 4 ∷ 6 ∷ [])
      go none f = inr (inr (inr (inr (inr (inr (inr (inl (deep_number _ number at (sym (ap (λ (t : Build). t.answer.refusal) (top_tree f).tree) ∙ e)))))))))
      go (numbered k i) f = listed (failed_number checks number at (f ∙ sym (told k i f) ∙ e))
