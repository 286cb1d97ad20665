-- Laws of the whole build. Assumes nothing.
use mathlib.Core.Path.{◌≡◌, refl, sym, ◌∙◌, ap}
use Prim.Native.Nat.{ℕ, ◌+◌, ◌*◌, ◌-◌, ◌/◌, ◌%◌, ◌≤◌}
use native.Mathlib.Nat.{sub-zero}
use native.Mathlib.Omega.{arith}
use mathlib.Core.Option.{Option, none, some}
use mathlib.Core.List.{List, [], ◌∷◌, ◌++◌}
use lib.ListN.{length, take, drop, replicate, length-drop, length-append}
use lib.Seq.{length-take-le, take_at, drop_at}
use lib.Ieee.{Float}
use borrow.Rule.Slice.PartMut.{post_of}
use Rattle.float.specs.Number.{nought}
use Rattle.triangle.specs.Mesh.{first_refused, unadmitted}
use Rattle.builder.specs.Reply.{Reply, served_reply, refused_reply}
use Rattle.std.specs.Prelude.{Option as Maybe, Some, None}
use Rattle.lent.specs.Permutation.{up_to}
use Rattle.lent.specs.Ladder.{triangle_count}
use Rattle.lent.proofs.Ladder.{Ends, ends, goes, agree, not_below}
use Rattle.builder.specs.Build.{Outcome, built, finished, outcome, room}
use Rattle.tree.proofs.Counts.{odd_size}
use Rattle.builder.specs.Layout.{Divided, boxes_of, links_of}
use Rattle.lent.specs.Limits.{deepest, most_triangles}
use Rattle.tree.specs.Tree.{Tree, below, leaves}
use Rattle.builder.specs.Tree.{Grown, grow}
use Rattle.builder.proofs.Growing.{never, next_same}

-- ---- nodes and leaves
leaves_are : (t : Tree) → (1 + below t) / 2 + 1 ≡ leaves t
leaves_are t = half (below t) (leaves t) (odd_size t)
  where
    half : (a b : ℕ) → 1 + a + 1 ≡ 2 * b → (1 + a) / 2 + 1 ≡ b
    half a b e = omega arith

-- ---- the ends of `make`
alike : (a a' : Reply) (xs xs' : List ℕ) (bs bs' : List Float) (ls ls' : List ℕ) → a ≡ a' → xs ≡ xs' → bs ≡ bs' → ls ≡ ls' → outcome a xs bs ls ≡ outcome a' xs' bs' ls'
alike a a' xs xs' bs bs' ls ls' p q r s = cc

grew : (n k : ℕ) (e : n ≡ k) → served_reply n (n / 2 + 1) ≡ served_reply k (k / 2 + 1)
grew n k e = ap (λ (z : ℕ). served_reply z (z / 2 + 1)) e

pub made_done : (n k : ℕ) (o : Option Grown) (r : Maybe ℕ) (xs d zs : List ℕ) (bs bs₁ : List Float) (ls ls₁ : List ℕ)
    → Divided o 0 1 bs ls r d bs₁ ls₁ → r ≡ Some k → zs ≡ d ++ drop n xs → outcome (served_reply k (k / 2 + 1)) zs bs₁ ls₁ ≡ finished n o xs bs ls
unfolding finished
made_done n k none r xs d zs bs bs₁ ls ls₁ D e q = absurd (never k (sym e ∙ D))
made_done n k (some g) r xs d zs bs bs₁ ls ls₁ D e q =
    alike (served_reply k (k / 2 + 1)) (served_reply (1 + below g.tree) (leaves g.tree)) zs (g.ids ++ drop n xs) bs₁ (boxes_of g.tree 0 1 bs) ls₁ (links_of g.tree 0 1 ls)
    (grew k (1 + below g.tree) (next_same k (1 + below g.tree) (sym e ∙ D.answer)) ∙ ap (λ (z : ℕ). served_reply (1 + below g.tree) z) (leaves_are g.tree))
    (q ∙ ap (λ (z : List ℕ). z ++ drop n xs) D.index_is) D.boxes_are D.links_are

pub made_deep : (n : ℕ) (o : Option Grown) (r : Maybe ℕ) (xs d zs : List ℕ) (bs bs₁ bs₂ : List Float) (ls ls₁ ls₂ : List ℕ)
    → Divided o 0 1 bs ls r d bs₁ ls₁ → r ≡ None → zs ≡ replicate (length xs) 0 → bs₂ ≡ replicate (length bs) nought → ls₂ ≡ replicate (length ls) 0
    → outcome (refused_reply 6 0) zs bs₂ ls₂ ≡ finished n o xs bs ls
unfolding finished
made_deep n none r xs d zs bs bs₁ bs₂ ls ls₁ ls₂ D e p q s = alike (refused_reply 6 0) (refused_reply 6 0) zs (replicate (length xs) 0) bs₂ (replicate (length bs) nought) ls₂ (replicate (length ls) 0) refl p q s
made_deep n (some g) r xs d zs bs bs₁ bs₂ ls ls₁ ls₂ D e p q s = absurd (never (1 + below g.tree) (sym D.answer ∙ e))

-- ---- a list whose front was lent, came back as c, and is lent again
module _ (xs c : List ℕ) (n : ℕ) (h : n ≤ length xs) (e : length c ≡ length (take (n - 0) xs)) where
  pub c_length : length c ≡ n
  c_length = e ∙ ap (λ (k : ℕ). length (take k xs)) (sub-zero n) ∙ length-take-le n xs h

  pub front_length_is : length (take (n - 0) xs) ≡ n
  front_length_is = sym e ∙ c_length

  pub lent_again : take (n - 0) (c ++ post_of 0 (n - 0) xs) ≡ c
  lent_again = take_at c (drop (n - 0) xs) (n - 0) (c_length ∙ sym (sub-zero n))

  pub rest_again : drop (n - 0) (c ++ post_of 0 (n - 0) xs) ≡ drop n xs
  rest_again = drop_at c (drop (n - 0) xs) (n - 0) (c_length ∙ sym (sub-zero n)) ∙ ap (λ (k : ℕ). drop k xs) (sub-zero n)

  -- d came back in its turn
  pub twice_length : (d : List ℕ) → length d ≡ length (take (n - 0) (c ++ post_of 0 (n - 0) xs)) → length (d ++ drop (n - 0) (c ++ post_of 0 (n - 0) xs)) ≡ length xs
  twice_length d k =
      let a = length-append d (drop (n - 0) (c ++ drop (n - 0) xs)) in let b = ap length rest_again in let g = length-drop n xs in let f = ap length lent_again in let i = c_length in
      omega arith

-- ---- where every check before that of refusal 5 passed
pub past_room : (m : List Float) (xs : List ℕ) (bs : List Float) (ls : List ℕ) (k : ℕ) (x : Outcome) → length m % 12 ≡ 0 → triangle_count m ≤ most_triangles → triangle_count m ≤ length xs → k ≡ room (triangle_count m) → k ≤ length bs / 6 → k ≤ length ls / 3
    → Ends (unadmitted (first_refused m 0 (triangle_count m)) ∷ []) (λ number at. outcome (refused_reply number at) xs bs ls) (finished (triangle_count m) (grow m deepest 0 (up_to (triangle_count m))) xs bs ls) x → x ≡ built m xs bs ls
unfolding built
past_room m xs bs ls k x whole few listed e boxed linked rest = rw (← e) (ends (goes (agree whole) (goes (not_below few) (goes (not_below listed) (goes (not_below boxed) (goes (not_below linked) rest))))))
