-- Laws of the split of a range and of its tree. Assumes nothing.
use mathlib.Core.Path.{◌≡◌, refl, sym, ◌∙◌, ap, subst, subst⁻¹}
use Prim.Native.Nat.{ℕ, zero, suc, ◌+◌, ◌*◌, ◌-◌, ◌/◌, ◌≤◌, ◌<◌}
use native.Mathlib.Nat.{add-zero, sub-zero}
use native.Mathlib.Omega.{arith}
use mathlib.Core.Bool.{Bool, true, false, cond, ◌||◌}
use mathlib.Core.Option.{Option, none, some}
use mathlib.Core.List.{List, ◌++◌, append-nil}
use lib.ListN.{length, take, drop, length-drop, length-append, drop_of_length-le}
use lib.Seq.{length-take-le, take_all, take_at, drop_at}
use lib.Dec.{eqb}
use lib.Ieee.{Float}
use borrow.Author.Tests.{eq-eqb, ne_eqb, eqb-false}
use borrow.Rule.Slice.PartMut.{mid_of, post_of, put_mid}
use Rattle.float.proofs.Cases.{neither}
use Rattle.aabb.specs.declared.bounds.Aabb.{Aabb}
use Rattle.triangle.specs.Mesh.{centroid_at}
use Rattle.std.specs.Prelude.{Option as Maybe, Some, None}
use Rattle.builder.specs.declared.split.Split.{Split}
use Rattle.builder.specs.Choice.{best_split, split_at}
use Rattle.builder.specs.Fallback.{sorts_before, ordered, separated, settled}
use Rattle.builder.specs.Layout.{Divided, Laid, box_put, boxes_of, link_put, links_of}
use Rattle.builder.specs.Partition.{Parted, parted, parts}
use Rattle.builder.specs.Range.{centroid_box, node_box}
use Rattle.lent.specs.Limits.{most_nodes, most_triangles}
use Rattle.tree.specs.Tree.{below, internal, leaf}
use Rattle.builder.specs.Tree.{Grown, decision, grow, grown_as, joined, leaf_of}
use Rattle.builder.proofs.Linear.{linear_ahead}
use Rattle.builder.proofs.Parting.{parted_at, parted_length}
use Rattle.builder.proofs.Sorting.{sorted_length}
use Rattle.builder.proofs.Choosing.{splits_four as not_few}

-- ---- the fallback order
ordered_length : (m : List Float) (a : ℕ) (xs : List ℕ) → length (ordered m a xs) ≡ length xs
unfolding ordered
ordered_length m a xs = sorted_length (sorts_before (centroid_at m a)) (linear_ahead (centroid_at m a)) xs

-- ---- parts of a range
-- ---- the split
pub test : Parted → Bool
test s = eqb s.at 0 || eqb s.at (length s.ids)

pub split_even : (m : List Float) (a : ℕ) (p : Float) (ids xs o : List ℕ) (l : ℕ) → parts xs l ≡ parted m a p ids → (eqb l 0 || eqb l (length xs)) ≡ true
    → o ≡ ordered m a xs → length o ≡ length xs → parts o (length o / 2) ≡ separated m a p ids
unfolding separated settled
split_even m a p ids xs o l e t q n = rw (← e, t, q, ordered_length)

pub split_odd : (m : List Float) (a : ℕ) (p : Float) (ids xs : List ℕ) (l : ℕ) → parts xs l ≡ parted m a p ids → (eqb l 0 || eqb l (length xs)) ≡ false
    → parts xs l ≡ separated m a p ids
unfolding separated settled
split_odd m a p ids xs l e t = rw (← e, t)

pub left_none : (l n : ℕ) → l ≡ 0 → (eqb l 0 || eqb l n) ≡ true
left_none l n p = rw (eq-eqb l 0 p)

pub left_all : (l n : ℕ) → (l ≡ 0 → ⊥) → l ≡ n → (eqb l 0 || eqb l n) ≡ true
left_all l n p q = rw (ne_eqb l 0 p, eq-eqb l n q)

pub left_some : (l n : ℕ) → (l ≡ 0 → ⊥) → (l ≡ n → ⊥) → (eqb l 0 || eqb l n) ≡ false
left_some l n p q = rw (ne_eqb l 0 p, ne_eqb l n q)

cond_by : (P : Parted → Type 0) (t : Bool) (x y : Parted) → (t ≡ true → P x) → (t ≡ false → P y) → P (cond t x y)
cond_by P true x y p q = p refl
cond_by P false x y p q = q refl

pub settled_by : (P : Parted → Type 0) (m : List Float) (a : ℕ) (s : Parted) → P (parts (ordered m a s.ids) (length s.ids / 2)) → (test s ≡ false → P s) → P (settled m a s)
unfolding settled test
settled_by P m a s p q = cond_by P (eqb s.at 0 || eqb s.at (length s.ids)) (parts (ordered m a s.ids) (length s.ids / 2)) s (λ _. p) q

pub split_length : (m : List Float) (a : ℕ) (p : Float) (ids : List ℕ) → length (separated m a p ids).ids ≡ length ids
unfolding separated
split_length m a p ids =
    settled_by (λ (s : Parted). length s.ids ≡ length ids) m a (parted m a p ids)
    (ordered_length m a (parted m a p ids).ids ∙ parted_length m a p ids) (λ _. parted_length m a p ids)

between : (l n : ℕ) → l ≤ n → (eqb l 0 || eqb l n) ≡ false → (0 < l) × (l < n)
between l n h t =
    let p : (l ≡ 0 → ⊥) = eqb-false l 0 (neither (eqb l 0) (eqb l n) t).0 in
    let q : (l ≡ n → ⊥) = eqb-false l n (neither (eqb l 0) (eqb l n) t).1 in
    (omega arith, omega arith)

pub split_between : (m : List Float) (a : ℕ) (p : Float) (ids : List ℕ) → 1 < length ids → (0 < (separated m a p ids).at) × ((separated m a p ids).at < length ids)
unfolding separated test
split_between m a p ids h =
    settled_by (λ (s : Parted). (0 < s.at) × (s.at < length ids)) m a (parted m a p ids)
    (subst⁻¹ (λ (n : ℕ). (0 < n / 2) × (n / 2 < length ids)) (parted_length m a p ids) (omega arith, omega arith))
    (λ t. between (parted m a p ids).at (length ids) (parted_at m a p ids) (subst (λ (n : ℕ). (eqb (parted m a p ids).at 0 || eqb (parted m a p ids).at n) ≡ false) (parted_length m a p ids) t))

-- ---- the tree, by what the choice is
pub grow_leaf : (m : List Float) (d f : ℕ) (ids : List ℕ) → decision m ids ≡ None → grow m d f ids ≡ some (grown_as (leaf (node_box m ids) f (length ids)) ids)
unfolding grow leaf_of
grow_leaf m zero f ids p = rw (p, grow)
grow_leaf m (suc d) f ids p = rw (p, grow)

pub grow_deep : (m : List Float) (f : ℕ) (ids : List ℕ) (a : ℕ) (p : Float) → decision m ids ≡ split_at a p → grow m 0 f ids ≡ none
unfolding grow
grow_deep m f ids a p e = rw (e, grow)

pub grow_fork : (m : List Float) (d f : ℕ) (ids : List ℕ) (a : ℕ) (p : Float) → decision m ids ≡ split_at a p
    → grow m (suc d) f ids ≡ joined (node_box m ids) (grow m d f (take (separated m a p ids).at (separated m a p ids).ids)) (grow m d (f + (separated m a p ids).at) (drop (separated m a p ids).at (separated m a p ids).ids))
unfolding grow
grow_fork m d f ids a p e = rw (e, grow)

-- a split is of more than four
pub splits_four : (m : List Float) (ids : List ℕ) (b q : Aabb) (a : ℕ) (p : Float) → best_split m ids b q ≡ split_at a p → 4 < length ids
splits_four m ids b q a p e = let n : (length ids ≤ 4 → ⊥) = not_few m ids b q a p e in omega arith

pub decides_four : (m : List Float) (ids : List ℕ) (a : ℕ) (p : Float) → decision m ids ≡ split_at a p → 4 < length ids
unfolding decision
decides_four m ids a p e = splits_four m ids (node_box m ids) (centroid_box m ids) a p e

-- ---- how many nodes a tree has
pub Small : ℕ → Option Grown → Type 0
Small n none = ℕ
Small n (some g) = below g.tree ≤ 2 * (n - 1)

small_joined : (b : Aabb) (k n : ℕ) (l r : Option Grown) → 0 < k → k < n → Small k l → Small (n - k) r → Small n (joined b l r)
unfolding Small joined
small_joined b k n none r h h' p q = 0
small_joined b k n (some l) none h h' p q = 0
small_joined b k n (some l) (some r) h h' p q = omega arith

leaf_small : (m : List Float) (d f : ℕ) (ids : List ℕ) → decision m ids ≡ None → Small (length ids) (grow m d f ids)
unfolding Small
leaf_small m d f ids e = rw (grow_leaf m d f ids e) (omega arith)

deep_small : (m : List Float) (f : ℕ) (ids : List ℕ) (w : Maybe Split) → decision m ids ≡ w → Small (length ids) (grow m 0 f ids)
unfolding Small
deep_small m f ids None e = leaf_small m 0 f ids e
deep_small m f ids (Some z) e = rw (grow_deep m f ids z.axis z.position e) 0

fork_small : (m : List Float) (d f : ℕ) (ids : List ℕ) (w : Maybe Split) → decision m ids ≡ w
    → ((f : ℕ) (xs : List ℕ) → Small (length xs) (grow m d f xs)) → Small (length ids) (grow m (suc d) f ids)
fork_small m d f ids None e ih = leaf_small m (suc d) f ids e
fork_small m d f ids (Some z) e ih =
    let four : 4 < length ids = decides_four m ids z.axis z.position e in
    let mid : (0 < (separated m z.axis z.position ids).at) × ((separated m z.axis z.position ids).at < length ids) = split_between m z.axis z.position ids (omega arith) in
    let len : length (separated m z.axis z.position ids).ids ≡ length ids = split_length m z.axis z.position ids in
    subst⁻¹ (λ (o : Option Grown). Small (length ids) o) (grow_fork m d f ids z.axis z.position e)
    (small_joined (node_box m ids) (separated m z.axis z.position ids).at (length ids) _ _ mid.0 mid.1
    (subst (λ (n : ℕ). Small n (grow m d f (take (separated m z.axis z.position ids).at (separated m z.axis z.position ids).ids))) (length-take-le (separated m z.axis z.position ids).at (separated m z.axis z.position ids).ids (omega arith)) (ih f (take (separated m z.axis z.position ids).at (separated m z.axis z.position ids).ids)))
    (subst (λ (n : ℕ). Small n (grow m d (f + (separated m z.axis z.position ids).at) (drop (separated m z.axis z.position ids).at (separated m z.axis z.position ids).ids))) (length-drop (separated m z.axis z.position ids).at (separated m z.axis z.position ids).ids ∙ ap (λ (n : ℕ). n - (separated m z.axis z.position ids).at) len) (ih (f + (separated m z.axis z.position ids).at) (drop (separated m z.axis z.position ids).at (separated m z.axis z.position ids).ids))))

pub small_grow : (m : List Float) (d f : ℕ) (ids : List ℕ) → Small (length ids) (grow m d f ids)
small_grow m zero f ids = deep_small m f ids (decision m ids) refl
small_grow m (suc d) f ids = fork_small m d f ids (decision m ids) refl (λ g xs. small_grow m d g xs)

-- ---- what is known once a range is split
pub record Mid (ids xs : List ℕ) (k : ℕ) : Type 0 where
  pub four : 4 < length ids
  pub low : 0 < k
  pub high : k < length ids
  pub len : length xs ≡ length ids

pub mid : (m : List Float) (ids : List ℕ) (b q : Aabb) (w : Maybe Split) (a : ℕ) (p : Float) (xs : List ℕ) (k : ℕ)
    → w ≡ best_split m ids b q → w ≡ split_at a p → parts xs k ≡ separated m a p ids → Mid ids xs k
mid m ids b q w a p xs k ew es ek =
    let four : 4 < length ids = splits_four m ids b q a p (sym ew ∙ es) in
    subst⁻¹ (λ (s : Parted). Mid ids s.ids s.at) ek
    (record {
      four = four;
      low = (split_between m a p ids (omega arith)).0;
      high = (split_between m a p ids (omega arith)).1;
      len = split_length m a p ids;
    })

-- ---- room for n triangles from first on, whose nodes are from next on, in boxes and links of so many numbers; and for each half of them
abbrev pub Room : (first node next n boxes links : ℕ) → Type 0
Room first node next n boxes links =
    ((first + n ≤ most_triangles) × (node < next) × (next + 2 * (n - 1) ≤ most_nodes)) × (((next + 2 * (n - 1)) * 6 ≤ boxes) × ((next + 2 * (n - 1)) * 3 ≤ links))

less_room : (first first' node node' next next' n n' boxes boxes' links links' : ℕ) → first' + n' ≤ first + n → node' < next' → next' + 2 * (n' - 1) ≤ next + 2 * (n - 1) → boxes' ≡ boxes → links' ≡ links → Room first node next n boxes links
    → Room first' node' next' n' boxes' links'
less_room first first' node node' next next' n n' boxes boxes' links links' p o q eb el r = ((omega (arith, r.0.0), o, omega (arith, r.0.2)), (omega (arith, r.1.0), omega (arith, r.1.1)))

pub left_room : (first node next n k m boxes boxes' links links' : ℕ) → 0 < k → k < n → m ≡ k - 0 → boxes' ≡ boxes → links' ≡ links → Room first node next n boxes links → Room first next (next + 2) m boxes' links'
left_room first node next n k m boxes boxes' links links' low high em eb el r = less_room first first node next next (next + 2) n m boxes boxes' links links' (omega arith) (omega arith) (omega arith) eb el r

pub right_room : (first node next n k m then boxes boxes' links links' : ℕ) → 0 < k → k < n → m ≡ n - k → next + 2 ≤ then → then ≤ next + 2 + 2 * (k - 1) → boxes' ≡ boxes → links' ≡ links → Room first node next n boxes links
    → Room (first + k) (next + 1) then m boxes' links'
right_room first node next n k m then boxes boxes' links links' low high em from to eb el r = less_room first (first + k) node (next + 1) next then n m boxes boxes' links links' (omega arith) (omega arith) (omega arith) eb el r

-- ---- a list whose front was lent and came back as l: what is lent next, and what it is when that has come back as r
module _ (xs l : List ℕ) (k : ℕ) (h : k ≤ length xs) (e : length l ≡ length (take (k - 0) xs)) where
  front : take (k - 0) xs ≡ take k xs
  front = ap (λ (n : ℕ). take n xs) (sub-zero k)

  back : drop (k - 0) xs ≡ drop k xs
  back = ap (λ (n : ℕ). drop n xs) (sub-zero k)

  pub front_length : length l ≡ k
  front_length = e ∙ ap length front ∙ length-take-le k xs h

  pub halves_length : length (l ++ post_of 0 (k - 0) xs) ≡ length xs
  halves_length = let a = length-append l (drop (k - 0) xs) in let b = length-drop (k - 0) xs in let c = front_length in omega arith

  rest : drop k (l ++ drop (k - 0) xs) ≡ drop k xs
  rest = drop_at l (drop (k - 0) xs) k front_length ∙ back

  rest_length : length (drop k (l ++ drop (k - 0) xs)) ≡ length (l ++ drop (k - 0) xs) - k
  rest_length = length-drop k (l ++ drop (k - 0) xs)

  pub second_half : mid_of k (length (l ++ post_of 0 (k - 0) xs) - k) (l ++ post_of 0 (k - 0) xs) ≡ drop k xs
  second_half = take_all (length (l ++ drop (k - 0) xs) - k) (drop k (l ++ drop (k - 0) xs)) (omega (arith, rest_length)) ∙ rest

  pub both_halves : (r : List ℕ) → put_mid k (length (l ++ post_of 0 (k - 0) xs) - k) (l ++ post_of 0 (k - 0) xs) r ≡ l ++ r
  both_halves r =
      ap (λ (z : List ℕ). z ++ (r ++ drop (length (l ++ drop (k - 0) xs) - k) (drop k (l ++ drop (k - 0) xs)))) (take_at l (drop (k - 0) xs) k front_length)
      ∙ ap (λ (z : List ℕ). l ++ (r ++ z)) (drop_of_length-le (drop k (l ++ drop (k - 0) xs)) {i = length (l ++ drop (k - 0) xs) - k} (omega (arith, rest_length)))
      ∙ ap (λ (z : List ℕ). l ++ z) (append-nil r)

-- ---- two halves laid out make the internal laid out
pub never : (n : ℕ) → Some n ≡ None → ⊥
never n e = let z : ◌≡◌ {A = ℕ} 0 1 = cc in omega arith

pub next_same : (n k : ℕ) → Some n ≡ Some k → n ≡ k
next_same n k e = cc

fork_laid : (b : Aabb) (l r : Grown) (node next then : ℕ) (bs bs₂ bs₃ : List Float) (ls ls₂ ls₃ : List ℕ) (a : Maybe ℕ) (i₁ i₂ : List ℕ)
    → Laid l next (next + 2) (box_put bs node b) (link_put ls node next 0 0) (Some then) i₁ bs₂ ls₂ → Laid r (next + 1) then bs₂ ls₂ a i₂ bs₃ ls₃
    → Laid (grown_as (internal b l.tree r.tree) (l.ids ++ r.ids)) node next bs ls a (i₁ ++ i₂) bs₃ ls₃
unfolding boxes_of links_of
fork_laid b l r node next then bs bs₂ bs₃ ls ls₂ ls₃ a i₁ i₂ p q =
    let t : then ≡ next + 2 + below l.tree = next_same then (next + 2 + below l.tree) p.answer in
    record {
      answer = q.answer ∙ ap Some (sum next then (below l.tree) (below r.tree) t);
      index_is = ap (λ (z : List ℕ). z ++ i₂) p.index_is ∙ ap (λ (z : List ℕ). l.ids ++ z) q.index_is;
      boxes_are = q.boxes_are ∙ ap (λ (z : List Float). boxes_of r.tree (next + 1) then z) p.boxes_are ∙ ap (λ (n : ℕ). boxes_of r.tree (next + 1) n (boxes_of l.tree next (next + 2) (box_put bs node b))) t;
      links_are = q.links_are ∙ ap (λ (z : List ℕ). links_of r.tree (next + 1) then z) p.links_are ∙ ap (λ (n : ℕ). links_of r.tree (next + 1) n (links_of l.tree next (next + 2) (link_put ls node next 0 0))) t;
    }
  where
    sum : (n t x y : ℕ) → t ≡ n + 2 + x → t + y ≡ n + (2 + (x + y))
    sum n t x y e = omega arith

fork_divided : (b : Aabb) (l r : Option Grown) (node next then : ℕ) (bs bs₂ bs₃ : List Float) (ls ls₂ ls₃ : List ℕ) (a : Maybe ℕ) (i₁ i₂ : List ℕ)
    → Divided l next (next + 2) (box_put bs node b) (link_put ls node next 0 0) (Some then) i₁ bs₂ ls₂ → Divided r (next + 1) then bs₂ ls₂ a i₂ bs₃ ls₃
    → Divided (joined b l r) node next bs ls a (i₁ ++ i₂) bs₃ ls₃
unfolding joined
fork_divided b none r node next then bs bs₂ bs₃ ls ls₂ ls₃ a i₁ i₂ p q = absurd (never then p)
fork_divided b (some l) none node next then bs bs₂ bs₃ ls ls₂ ls₃ a i₁ i₂ p q = q
fork_divided b (some l) (some r) node next then bs bs₂ bs₃ ls ls₂ ls₃ a i₁ i₂ p q = fork_laid b l r node next then bs bs₂ bs₃ ls ls₂ ls₃ a i₁ i₂ p q

small_room : (g : Grown) (k next then : ℕ) {one : Maybe ℕ} → one ≡ Some then → Small k (some g) → one ≡ Some (next + 2 + below g.tree) → (next + 2 ≤ then) × (then ≤ next + 2 + 2 * (k - 1))
unfolding Small
small_room g k next then e s q = let t : then ≡ next + 2 + below g.tree = next_same then (next + 2 + below g.tree) (sym e ∙ q) in (omega arith, omega arith)

-- the left half too deep
left_deep : (b : Aabb) (l r : Option Grown) (node next : ℕ) (bs bs₁ bs₂ bs₃ : List Float) (ls ls₁ ls₂ ls₃ : List ℕ) (i₁ i₂ : List ℕ)
    → Divided l next (next + 2) bs₁ ls₁ None i₁ bs₂ ls₂ → Divided (joined b l r) node next bs ls None i₂ bs₃ ls₃
unfolding joined
left_deep b none r node next bs bs₁ bs₂ bs₃ ls ls₁ ls₂ ls₃ i₁ i₂ p = refl
left_deep b (some l) r node next bs bs₁ bs₂ bs₃ ls ls₁ ls₂ ls₃ i₁ i₂ p = absurd (never (next + 2 + below l.tree) (sym p.answer))

-- ---- what `divide` answers and leaves, at each of its returns
module _ (m : List Float) (d f : ℕ) (ids : List ℕ) (b : Aabb) (w : Maybe Split) (node next : ℕ) (bs bs₁ : List Float) (ls : List ℕ) (q : Aabb) (eb : b ≡ node_box m ids) (eq : q ≡ centroid_box m ids) (ew : w ≡ best_split m ids b q) (eB : bs₁ ≡ box_put bs node b) where
  chosen : decision m ids ≡ w
  unfolding decision
  chosen = rw (← eb, ← eq) (sym ew)

  tip_laid : (ls₁ : List ℕ) → ls₁ ≡ link_put ls node f (length ids) 1 → Laid (grown_as (leaf (node_box m ids) f (length ids)) ids) node next bs ls (Some next) ids bs₁ ls₁
  unfolding boxes_of links_of
  tip_laid ls₁ eL = record {
    answer = ap Some (sym (add-zero next));
    index_is = refl;
    boxes_are = eB ∙ ap (λ (z : Aabb). box_put bs node z) eb;
    links_are = eL;
  }

  pub divided_leaf : (ls₁ : List ℕ) → w ≡ None → ls₁ ≡ link_put ls node f (length ids) 1 → Divided (grow m d f ids) node next bs ls (Some next) ids bs₁ ls₁
  divided_leaf ls₁ e eL =
      subst⁻¹ (λ (o : Option Grown). Divided o node next bs ls (Some next) ids bs₁ ls₁) (grow_leaf m d f ids (chosen ∙ e)) (tip_laid ls₁ eL)

  pub divided_deep : (a : ℕ) (p : Float) (xs : List ℕ) (bs₂ : List Float) (ls₂ : List ℕ) → w ≡ split_at a p → d ≡ 0 → Divided (grow m d f ids) node next bs ls None xs bs₂ ls₂
  divided_deep a p xs bs₂ ls₂ e z =
      subst⁻¹ (λ (o : Option Grown). Divided o node next bs ls None xs bs₂ ls₂) (ap (λ (n : ℕ). grow m n f ids) z ∙ grow_deep m f ids a p (chosen ∙ e)) refl

  -- a split: xs is the range rearranged, k where it is cut; i₁, bs₂, ls₂ are what the left half's division leaves
  module _ (a : ℕ) (p : Float) (xs : List ℕ) (k : ℕ) (ls₁ : List ℕ) (one : Maybe ℕ) (i₁ : List ℕ) (bs₂ : List Float) (ls₂ : List ℕ)
      (es : w ≡ split_at a p) (ek : parts xs k ≡ separated m a p ids) (ed : d ≡ 0 → ⊥) (eL : ls₁ ≡ link_put ls node next 0 0)
      (D₁ : Divided (grow m (d - 1) f (take (k - 0) xs)) next (next + 2) bs₁ ls₁ one i₁ bs₂ ls₂) where
    one_less : suc (d - 1) ≡ d
    one_less = omega arith

    forked : grow m d f ids ≡ joined (node_box m ids) (grow m (d - 1) f (take k xs)) (grow m (d - 1) (f + k) (drop k xs))
    forked =
        ap (λ (n : ℕ). grow m n f ids) (sym one_less) ∙ grow_fork m (d - 1) f ids a p (chosen ∙ es)
        ∙ ap (λ (s : Parted). joined (node_box m ids) (grow m (d - 1) f (take s.at s.ids)) (grow m (d - 1) (f + s.at) (drop s.at s.ids))) (sym ek)

    first_half : Divided (grow m (d - 1) f (take k xs)) next (next + 2) (box_put bs node (node_box m ids)) (link_put ls node next 0 0) one i₁ bs₂ ls₂
    first_half =
        subst (λ (z : List Float). Divided (grow m (d - 1) f (take k xs)) next (next + 2) z (link_put ls node next 0 0) one i₁ bs₂ ls₂) (eB ∙ ap (λ (z : Aabb). box_put bs node z) eb)
        (subst (λ (z : List ℕ). Divided (grow m (d - 1) f (take k xs)) next (next + 2) bs₁ z one i₁ bs₂ ls₂) eL
        (subst (λ (n : ℕ). Divided (grow m (d - 1) f (take n xs)) next (next + 2) bs₁ ls₁ one i₁ bs₂ ls₂) (sub-zero k) D₁))

    pub divided_left : (i₂ : List ℕ) (bs₃ : List Float) (ls₃ : List ℕ) → one ≡ None → Divided (grow m d f ids) node next bs ls None i₂ bs₃ ls₃
    divided_left i₂ bs₃ ls₃ e =
        subst⁻¹ (λ (o : Option Grown). Divided o node next bs ls None i₂ bs₃ ls₃) forked
        (left_deep (node_box m ids) (grow m (d - 1) f (take k xs)) (grow m (d - 1) (f + k) (drop k xs)) node next bs (box_put bs node (node_box m ids)) bs₂ bs₃ ls (link_put ls node next 0 0) ls₂ ls₃ i₁ i₂
        (subst (λ (r : Maybe ℕ). Divided (grow m (d - 1) f (take k xs)) next (next + 2) (box_put bs node (node_box m ids)) (link_put ls node next 0 0) r i₁ bs₂ ls₂) e first_half))

    pub divided_both : (then : ℕ) (r : Maybe ℕ) (ys i₂ zs : List ℕ) (bs₃ : List Float) (ls₃ : List ℕ) → one ≡ Some then → ys ≡ drop k xs
        → Divided (grow m (d - 1) (f + k) ys) (next + 1) then bs₂ ls₂ r i₂ bs₃ ls₃ → zs ≡ i₁ ++ i₂
        → Divided (grow m d f ids) node next bs ls r zs bs₃ ls₃
    divided_both then r ys i₂ zs bs₃ ls₃ e ey D₂ ez =
        subst⁻¹ (λ (o : Option Grown). Divided o node next bs ls r zs bs₃ ls₃) forked
        (subst⁻¹ (λ (z : List ℕ). Divided (joined (node_box m ids) (grow m (d - 1) f (take k xs)) (grow m (d - 1) (f + k) (drop k xs))) node next bs ls r z bs₃ ls₃) ez
        (fork_divided (node_box m ids) (grow m (d - 1) f (take k xs)) (grow m (d - 1) (f + k) (drop k xs)) node next then bs bs₂ bs₃ ls ls₂ ls₃ r i₁ i₂
        (subst (λ (o : Maybe ℕ). Divided (grow m (d - 1) f (take k xs)) next (next + 2) (box_put bs node (node_box m ids)) (link_put ls node next 0 0) o i₁ bs₂ ls₂) e first_half)
        (subst (λ (z : List ℕ). Divided (grow m (d - 1) (f + k) z) (next + 1) then bs₂ ls₂ r i₂ bs₃ ls₃) ey D₂)))

    -- how far the left half's nodes reach
    pub then_room : (then : ℕ) → one ≡ Some then → k ≤ length xs → (next + 2 ≤ then) × (then ≤ next + 2 + 2 * (k - 1))
    then_room then e h =
        go (grow m (d - 1) f (take k xs)) (subst (λ (n : ℕ). Small n (grow m (d - 1) f (take k xs))) (length-take-le k xs h) (small_grow m (d - 1) f (take k xs))) first_half
      where
        go : (o : Option Grown) → Small k o → Divided o next (next + 2) (box_put bs node (node_box m ids)) (link_put ls node next 0 0) one i₁ bs₂ ls₂ → (next + 2 ≤ then) × (then ≤ next + 2 + 2 * (k - 1))
        go none s D = absurd (never then (sym e ∙ D))
        go (some g) s D = small_room g k next then e s D.answer
