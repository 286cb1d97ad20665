-- What holds of every grown tree: its depth, its ranges, its numbers, its boxes. By one induction over the division. Assumes nothing.
use mathlib.Core.Path.{◌≡◌, refl, sym, ◌∙◌, ap, subst, subst⁻¹}
use Prim.Native.Nat.{ℕ, zero, suc, ◌+◌, ◌*◌, ◌-◌, ◌≤◌, ◌<◌}
use native.Mathlib.Omega.{arith}
use mathlib.Core.Bool.{Bool}
use mathlib.Core.Option.{Option, none, some}
use mathlib.Core.List.{List, ◌++◌}
use lib.ListN.{length, take, drop, length-drop, length-append, take-append-drop}
use lib.Seq.{length-take-le}
use lib.Dec.{T}
use lib.Ieee.{Float}
use Rattle.std.specs.Prelude.{Option as Maybe, Some, None}
use Rattle.aabb.specs.Bounds.{bounded, contains}
use Rattle.aabb.specs.declared.bounds.Aabb.{Aabb}
use Rattle.aabb.proofs.Holds.{bounded_usable}
use Rattle.triangle.specs.Mesh.{centroid_at}
use Rattle.builder.specs.declared.split.Split.{Split}
use Rattle.builder.specs.Choice.{split_at}
use Rattle.builder.specs.Fallback.{sorts_before, ordered, separated}
use Rattle.lent.specs.Permutation.{Perm, occ}
use Rattle.tree.specs.Holds.{Inside, Nested, Finite, Occupied}
use Rattle.builder.specs.Runs.{Runs}
use Rattle.builder.specs.Partition.{Parted, keeps_left, moves, parted, parts, swapped}
use Rattle.builder.specs.Range.{node_box}
use Rattle.tree.specs.Tree.{Tree, below, box_of, depth, internal, leaf}
use Rattle.builder.specs.Tree.{Grown, decision, grow, grown_as, joined}
use Rattle.builder.proofs.Enclosing.{Admitted, node_bounded, node_inside}
use Rattle.builder.proofs.Growing.{decides_four, grow_deep, grow_fork, grow_leaf, settled_by, split_between, split_length}
use Rattle.builder.proofs.Linear.{linear_ahead}
use Rattle.builder.proofs.Parting.{length_swap, moves_by}
use Rattle.lent.proofs.Permutation.{occ_append, perm_swap}
use Rattle.builder.proofs.Sorting.{sorted_occ}

-- ---- a partition and the fallback keep the numbers
moves_same : (keep : ℕ → Bool) (k l : ℕ) (xs : List ℕ) → l + k ≤ length xs → Perm (moves keep k l xs).ids xs
unfolding moves
moves_same keep zero l xs h = λ v. refl
moves_same keep (suc k) l xs h =
    moves_by (λ (s : Parted). Perm s.ids xs) keep k l xs (moves_same keep k (suc l) xs (omega arith))
    (λ v. moves_same keep k l (swapped xs l (l + k)) (omega (arith, length_swap xs l (l + k))) v ∙ perm_swap xs l (l + k) (omega arith) (omega arith) v)

parted_same : (m : List Float) (a : ℕ) (p : Float) (xs : List ℕ) → Perm (parted m a p xs).ids xs
unfolding parted
parted_same m a p xs = moves_same (keeps_left m a p) (length xs) 0 xs (omega arith)

ordered_same : (m : List Float) (a : ℕ) (xs : List ℕ) → Perm (ordered m a xs) xs
unfolding ordered
ordered_same m a xs = sorted_occ (sorts_before (centroid_at m a)) (linear_ahead (centroid_at m a)) xs

separated_same : (m : List Float) (a : ℕ) (p : Float) (ids : List ℕ) → Perm (separated m a p ids).ids ids
unfolding separated
separated_same m a p ids =
    settled_by (λ (s : Parted). Perm s.ids ids) m a (parted m a p ids) (λ v. ordered_same m a (parted m a p ids).ids v ∙ parted_same m a p ids v) (λ t v. parted_same m a p ids v)

part_occ : (v k : ℕ) (xs : List ℕ) → occ v (take k xs) + occ v (drop k xs) ≡ occ v xs
part_occ v k xs = sym (occ_append v (take k xs) (drop k xs)) ∙ ap (λ (z : List ℕ). occ v z) (take-append-drop k xs)

-- ---- what every number of a range has, every number of both its parts has
module _ (P : ℕ → Type 0) (m : List Float) (a : ℕ) (p : Float) (ids xs : List ℕ) (k : ℕ) (e : parts xs k ≡ separated m a p ids) (all : (v : ℕ) → 0 < occ v ids → P v) where
  both_have : (v : ℕ) → 0 < occ v xs → P v
  both_have v h = all v (subst (λ (n : ℕ). 0 < n) (ap (λ (s : Parted). occ v s.ids) e ∙ separated_same m a p ids v) h)

  pub left_has : (j v : ℕ) → 0 < occ v (take j xs) → P v
  left_has j v h = both_have v (omega (arith, h, part_occ v j xs))

  pub right_has : (j v : ℕ) → 0 < occ v (drop j xs) → P v
  right_has j v h = both_have v (omega (arith, h, part_occ v j xs))

-- ---- a range cut at k, after it was put as xs
pub record Cut (ids xs : List ℕ) (k : ℕ) : Type 0 where
  pub low : 0 < k
  pub high : k < length ids
  pub len : length xs ≡ length ids
  pub same : Perm xs ids

pub cut_of : (m : List Float) (ids : List ℕ) (a : ℕ) (p : Float) → decision m ids ≡ split_at a p → Cut ids (separated m a p ids).ids (separated m a p ids).at
cut_of m ids a p e =
    let four : 4 < length ids = decides_four m ids a p e in
    let mid = split_between m a p ids (omega arith) in
    record { low = mid.0; high = mid.1; len = split_length m a p ids; same = separated_same m a p ids }

-- ---- the induction
abbrev pub Of-some : (Grown → Type 0) → Option Grown → Type 0
Of-some P none = ℕ
Of-some P (some g) = P g

module _ (m : List Float) (P : ℕ → ℕ → List ℕ → Grown → Type 0)
    (on_leaf : (d f : ℕ) (ids : List ℕ) → P d f ids (grown_as (leaf (node_box m ids) f (length ids)) ids))
    (on_fork : (d f : ℕ) (ids xs : List ℕ) (k : ℕ) (l r : Grown) → Cut ids xs k → P d f (take k xs) l → P d (f + k) (drop k xs) r → P (suc d) f ids (grown_as (internal (node_box m ids) l.tree r.tree) (l.ids ++ r.ids))) where
  leaf_has : (d f : ℕ) (ids : List ℕ) → decision m ids ≡ None → Of-some (P d f ids) (grow m d f ids)
  leaf_has d f ids e = subst⁻¹ (Of-some (P d f ids)) (grow_leaf m d f ids e) (on_leaf d f ids)

  deep_has : (f : ℕ) (ids : List ℕ) (w : Maybe Split) → decision m ids ≡ w → Of-some (P 0 f ids) (grow m 0 f ids)
  deep_has f ids None e = leaf_has 0 f ids e
  deep_has f ids (Some z) e = subst⁻¹ (Of-some (P 0 f ids)) (grow_deep m f ids z.axis z.position e) 0

  joined_has : (d f : ℕ) (ids xs : List ℕ) (k : ℕ) (l r : Option Grown) → Cut ids xs k → Of-some (P d f (take k xs)) l → Of-some (P d (f + k) (drop k xs)) r → Of-some (P (suc d) f ids) (joined (node_box m ids) l r)
  unfolding joined
  joined_has d f ids xs k none r c p q = 0
  joined_has d f ids xs k (some l) none c p q = 0
  joined_has d f ids xs k (some l) (some r) c p q = on_fork d f ids xs k l r c p q

  fork_has : (d f : ℕ) (ids : List ℕ) (w : Maybe Split) → decision m ids ≡ w → ((g : ℕ) (xs : List ℕ) → Of-some (P d g xs) (grow m d g xs)) → Of-some (P (suc d) f ids) (grow m (suc d) f ids)
  fork_has d f ids None e ih = leaf_has (suc d) f ids e
  fork_has d f ids (Some z) e ih =
      let s = separated m z.axis z.position ids in
      subst⁻¹ (Of-some (P (suc d) f ids)) (grow_fork m d f ids z.axis z.position e)
      (joined_has d f ids s.ids s.at (grow m d f (take s.at s.ids)) (grow m d (f + s.at) (drop s.at s.ids)) (cut_of m ids z.axis z.position e) (ih f (take s.at s.ids)) (ih (f + s.at) (drop s.at s.ids)))

  pub grow_has : (d f : ℕ) (ids : List ℕ) → Of-some (P d f ids) (grow m d f ids)
  grow_has zero f ids = deep_has f ids (decision m ids) refl
  grow_has (suc d) f ids = fork_has d f ids (decision m ids) refl (λ g xs. grow_has d g xs)

-- ---- what a grown tree has
pub record Fine (m : List Float) (d f : ℕ) (ids : List ℕ) (g : Grown) : Type 0 where
  pub shallow : depth g.tree ≤ d
  pub len : length g.ids ≡ length ids
  pub same : Perm g.ids ids
  pub runs : Runs f (f + length ids) g.tree
  pub room : below g.tree ≤ 2 * (length ids - 1)
  pub box_is : box_of g.tree ≡ node_box m ids
  pub nested : 0 < length ids → Admitted m ids → Nested g.tree
  pub finite : 0 < length ids → Admitted m ids → Finite g.tree
  pub occupied : 0 < length ids → Occupied g.tree
  pub none : length ids ≡ 0 → g.tree ≡ leaf (node_box m ids) f (length ids)

fine_leaf : (m : List Float) (d f : ℕ) (ids : List ℕ) → Fine m d f ids (grown_as (leaf (node_box m ids) f (length ids)) ids)
fine_leaf m d f ids = record {
  shallow = omega arith;
  len = refl;
  same = λ v. refl;
  runs = (refl, refl);
  room = omega arith;
  box_is = refl;
  nested = λ h A. bounded_usable (node_box m ids) (node_bounded m ids h A);
  finite = λ h A. node_bounded m ids h A;
  occupied = λ h. h;
  none = λ e. refl;
}

module _ (m : List Float) (d f : ℕ) (ids xs : List ℕ) (k : ℕ) (l r : Grown) (c : Cut ids xs k) (p : Fine m d f (take k xs) l) (q : Fine m d (f + k) (drop k xs) r) where
  left_length : length (take k xs) ≡ k
  left_length = let a = c.high in let b = c.len in length-take-le k xs (omega arith)

  right_length : length (drop k xs) ≡ length ids - k
  right_length = length-drop k xs ∙ ap (λ (n : ℕ). n - k) c.len

  fork_runs : Runs f (f + length ids) (internal (node_box m ids) l.tree r.tree)
  fork_runs = (
    f + k,
    subst (λ (n : ℕ). Runs f (f + n) l.tree) left_length p.runs,
    subst (λ (n : ℕ). Runs (f + k) n r.tree) (let a = right_length in let b = c.high in end f k (length ids) (length (drop k xs)) a (omega arith)) q.runs,
  )
    where
      end : (f k n e : ℕ) → e ≡ n - k → k ≤ n → f + k + e ≡ f + n
      end f k n e p h = omega arith

  -- one half: its numbers are among the range's, so its box lies in the range's
  half_in : (ys : List ℕ) (t : Tree) → Admitted m ids → ((v : ℕ) → 0 < occ v ys → 0 < occ v ids) → 0 < length ys → box_of t ≡ node_box m ys → Inside (node_box m ids) t
  half_in ys t A w h e = (
    subst⁻¹ (λ (z : Aabb). T (bounded z)) e (node_bounded m ys h (λ v o. A v (w v o))),
    subst⁻¹ (λ (z : Aabb). T (contains (node_box m ids) z)) e (node_inside m ids ys A h w),
  )

  left_in : (v : ℕ) → 0 < occ v (take k xs) → 0 < occ v ids
  left_in v o = omega (arith, part_occ v k xs, c.same v)

  right_in : (v : ℕ) → 0 < occ v (drop k xs) → 0 < occ v ids
  right_in v o = omega (arith, part_occ v k xs, c.same v)

  left_some : 0 < length (take k xs)
  left_some = omega (arith, left_length, c.low)

  right_some : 0 < length (drop k xs)
  right_some = omega (arith, right_length, c.high)

  fork_nested : 0 < length ids → Admitted m ids → Nested (internal (node_box m ids) l.tree r.tree)
  fork_nested h A = (
    bounded_usable (node_box m ids) (node_bounded m ids h A),
    half_in (take k xs) l.tree A left_in left_some p.box_is,
    half_in (drop k xs) r.tree A right_in right_some q.box_is,
    p.nested left_some (λ v o. A v (left_in v o)),
    q.nested right_some (λ v o. A v (right_in v o)),
  )

  fork_finite : 0 < length ids → Admitted m ids → Finite (internal (node_box m ids) l.tree r.tree)
  fork_finite h A = (node_bounded m ids h A, p.finite left_some (λ v o. A v (left_in v o)), q.finite right_some (λ v o. A v (right_in v o)))

  fine_fork : Fine m (suc d) f ids (grown_as (internal (node_box m ids) l.tree r.tree) (l.ids ++ r.ids))
  fine_fork =
      let a = left_length in
      let b = right_length in
      let x = c.low in
      let y = c.high in
      record {
        shallow = let u = p.shallow in let v = q.shallow in omega arith;
        len = let u = p.len in let v = q.len in omega (arith, length-append l.ids r.ids);
        same = λ v. omega (arith, occ_append v l.ids r.ids, p.same v, q.same v, part_occ v k xs, c.same v);
        runs = fork_runs;
        room = let u = p.room in let v = q.room in omega arith;
        box_is = refl;
        nested = fork_nested;
        finite = fork_finite;
        occupied = λ h. (p.occupied left_some, q.occupied right_some);
        none = λ e. absurd (omega arith);
      }

pub grown_fine : (m : List Float) (d f : ℕ) (ids : List ℕ) → Of-some (Fine m d f ids) (grow m d f ids)
grown_fine m d f ids = grow_has m (Fine m) (fine_leaf m) (λ d f ids xs k l r c p q. fine_fork m d f ids xs k l r c p q) d f ids
