-- Laws of the heap. Assumes nothing.
use mathlib.Core.Path.{◌≡◌, sym, ◌∙◌, ap, subst⁻¹}
use Prim.Native.Nat.{ℕ, zero, suc, ◌+◌, ◌*◌, ◌-◌, ◌≤◌, ◌<◌}
use native.Mathlib.Omega.{arith}
use native.Mathlib.Nat.{sub-zero}
use mathlib.Core.Logic.{◌⊎◌, inl, inr, ⊎_elim}
use mathlib.Core.Bool.{Bool, true, false}
use mathlib.Core.List.{List, ◌++◌}
use lib.ListN.{length, get_or, set, take, drop, length-set, length-drop, length-append, get_or-append, take-append-drop}
use lib.Seq.{get_or-set_same, get_or-set_other, get_or-take, get_or-drop, length-take-le, get_or-append-add}
use Rattle.float.proofs.Cases.{low_or_high, same?}
use Rattle.lent.specs.Permutation.{Perm, occ}
use Rattle.builder.specs.inner.Heap.{Greater, HeapFrom, parent}
use Rattle.builder.specs.Partition.{swapped}
use Rattle.builder.proofs.Linear.{Linear}
use Rattle.builder.proofs.Parting.{length_swap}
use Rattle.lent.proofs.Permutation.{each_perm, occ_append, perm_swap}
use Rattle.builder.proofs.Sorting.{not_self}

-- ---- an exchange, place by place
module _ (xs : List ℕ) (a b : ℕ) (ha : a < length xs) (hb : b < length xs) (ne : a ≡ b → ⊥) where
  pub swap_first : get_or (swapped xs a b) a 0 ≡ get_or xs b 0
  swap_first = get_or-set_other (set xs a (get_or xs b 0)) b a (get_or xs a 0) 0 ne ∙ get_or-set_same xs a (get_or xs b 0) 0 ha

  pub swap_second : get_or (swapped xs a b) b 0 ≡ get_or xs a 0
  swap_second = get_or-set_same (set xs a (get_or xs b 0)) b (get_or xs a 0) 0 (omega (arith, length-set xs a (get_or xs b 0)))

  pub swap_other : (j : ℕ) → (j ≡ a → ⊥) → (j ≡ b → ⊥) → get_or (swapped xs a b) j 0 ≡ get_or xs j 0
  swap_other j na nb = get_or-set_other (set xs a (get_or xs b 0)) b j (get_or xs a 0) 0 nb ∙ get_or-set_other xs a j (get_or xs b 0) 0 na

module _ (less : ℕ → ℕ → Bool) (lin : Linear less) where
  -- ---- the greater child
  pub only_child : (xs : List ℕ) (i : ℕ) → 2 * i + 1 < length xs → length xs - (2 * i + 1) < 2 → Greater less xs i (2 * i + 1)
  only_child xs i h l = record {
    inside = h;
    child = omega arith;
    after = omega arith;
    most = λ j p q e. let s : j ≡ 2 * i + 1 = omega arith in ap (λ (k : ℕ). less (get_or xs (2 * i + 1) 0) (get_or xs k 0)) s ∙ not_self less lin (get_or xs (2 * i + 1) 0);
  }

  two : (i j : ℕ) → 0 < j → parent j ≡ i → (j ≡ 2 * i + 1) ⊎ (j ≡ 2 * i + 1 + 1)
  two i j p e = ⊎_elim (λ s. inl s) (λ n. inr (omega arith)) (same? j (2 * i + 1))

  pub right_child : (xs : List ℕ) (i : ℕ) → 2 ≤ length xs - (2 * i + 1) → less (get_or xs (2 * i + 1) 0) (get_or xs (2 * i + 1 + 1) 0) ≡ true → Greater less xs i (2 * i + 1 + 1)
  right_child xs i l t = record {
    inside = omega arith;
    child = omega arith;
    after = omega arith;
    most = λ j p q e. ⊎_elim
        (λ s. ap (λ (k : ℕ). less (get_or xs (2 * i + 1 + 1) 0) (get_or xs k 0)) s ∙ lin.turn (get_or xs (2 * i + 1) 0) (get_or xs (2 * i + 1 + 1) 0) t)
        (λ s. ap (λ (k : ℕ). less (get_or xs (2 * i + 1 + 1) 0) (get_or xs k 0)) s ∙ not_self less lin (get_or xs (2 * i + 1 + 1) 0))
        (two i j p e);
  }

  pub left_child : (xs : List ℕ) (i : ℕ) → 2 ≤ length xs - (2 * i + 1) → less (get_or xs (2 * i + 1) 0) (get_or xs (2 * i + 1 + 1) 0) ≡ false → Greater less xs i (2 * i + 1)
  left_child xs i l t = record {
    inside = omega arith;
    child = omega arith;
    after = omega arith;
    most = λ j p q e. ⊎_elim
        (λ s. ap (λ (k : ℕ). less (get_or xs (2 * i + 1) 0) (get_or xs k 0)) s ∙ not_self less lin (get_or xs (2 * i + 1) 0))
        (λ s. ap (λ (k : ℕ). less (get_or xs (2 * i + 1) 0) (get_or xs k 0)) s ∙ t)
        (two i j p e);
  }

  -- ---- a heap from a on, but for the children of i, which are not above i's parent
  pub record Nearly (a i : ℕ) (xs : List ℕ) : Type 0 where
    pub low : a ≤ i
    pub heap : (j : ℕ) → 0 < j → j < length xs → a ≤ parent j → (parent j ≡ i → ⊥) → less (get_or xs (parent j) 0) (get_or xs j 0) ≡ false
    pub over : (j : ℕ) → 0 < j → j < length xs → parent j ≡ i → 0 < i → a ≤ parent i → less (get_or xs (parent i) 0) (get_or xs j 0) ≡ false

  pub nearly_start : (a : ℕ) (xs : List ℕ) → HeapFrom less (a + 1) xs → Nearly a a xs
  nearly_start a xs f = record {
    low = omega arith;
    heap = λ j p q h n. f j p q (omega arith);
    over = λ j p q e z h. absurd (omega arith);
  }

  pub nearly_none : (a i : ℕ) (xs : List ℕ) → Nearly a i xs → length xs ≤ 2 * i + 1 → HeapFrom less a xs
  nearly_none a i xs f l j p q h = f.heap j p q h (λ e. omega arith)

  pub nearly_stop : (a i g : ℕ) (xs : List ℕ) → Nearly a i xs → Greater less xs i g → less (get_or xs i 0) (get_or xs g 0) ≡ false → HeapFrom less a xs
  nearly_stop a i g xs f c t j p q h =
      ⊎_elim (λ e. ap (λ (k : ℕ). less (get_or xs k 0) (get_or xs j 0)) e ∙ lin.chain (get_or xs i 0) (get_or xs g 0) (get_or xs j 0) t (c.most j p q e)) (λ n. f.heap j p q h n) (same? (parent j) i)

  module _ (a i g : ℕ) (xs : List ℕ) (f : Nearly a i xs) (c : Greater less xs i g) (t : less (get_or xs i 0) (get_or xs g 0) ≡ true) where
    hi : i < length xs
    hi = let x = c.inside in let y = c.after in omega arith

    apart : i ≡ g → ⊥
    apart e = let y = c.after in omega arith

    at_i : get_or (swapped xs i g) i 0 ≡ get_or xs g 0
    at_i = swap_first xs i g hi c.inside apart

    at_g : get_or (swapped xs i g) g 0 ≡ get_or xs i 0
    at_g = swap_second xs i g hi c.inside apart

    at_else : (j : ℕ) → (j ≡ i → ⊥) → (j ≡ g → ⊥) → get_or (swapped xs i g) j 0 ≡ get_or xs j 0
    at_else = swap_other xs i g hi c.inside apart

    pair : (u v x y : ℕ) → get_or (swapped xs i g) u 0 ≡ x → get_or (swapped xs i g) v 0 ≡ y → less x y ≡ false → less (get_or (swapped xs i g) u 0) (get_or (swapped xs i g) v 0) ≡ false
    pair u v x y p q e = ap (λ (k : ℕ). less k (get_or (swapped xs i g) v 0)) p ∙ ap (λ (k : ℕ). less x k) q ∙ e

    Goal : ℕ → Type 0
    Goal j = less (get_or (swapped xs i g) (parent j) 0) (get_or (swapped xs i g) j 0) ≡ false

    -- j is g, a sibling of g, i, or none of these
    is_g : (j : ℕ) → j ≡ g → Goal j
    unfolding Goal
    is_g j e = pair (parent j) j (get_or xs g 0) (get_or xs i 0) (ap (λ (k : ℕ). get_or (swapped xs i g) k 0) (ap parent e ∙ c.child) ∙ at_i) (ap (λ (k : ℕ). get_or (swapped xs i g) k 0) e ∙ at_g) (lin.turn (get_or xs i 0) (get_or xs g 0) t)

    sibling : (j : ℕ) → 0 < j → j < length xs → (j ≡ g → ⊥) → parent j ≡ i → Goal j
    unfolding Goal
    sibling j p q n e = pair (parent j) j (get_or xs g 0) (get_or xs j 0) (ap (λ (k : ℕ). get_or (swapped xs i g) k 0) e ∙ at_i) (at_else j (λ s. omega arith) n) (c.most j p q e)

    is_i : (j : ℕ) → 0 < j → a ≤ parent j → (parent j ≡ i → ⊥) → (parent j ≡ g → ⊥) → j ≡ i → Goal j
    unfolding Goal
    is_i j p h n m e =
        pair (parent j) j (get_or xs (parent i) 0) (get_or xs g 0) (at_else (parent j) n m ∙ ap (λ (k : ℕ). get_or xs (parent k) 0) e) (ap (λ (k : ℕ). get_or (swapped xs i g) k 0) e ∙ at_i)
        (let y = c.after in f.over g (omega arith) c.inside c.child (omega arith) (omega (arith, ap parent e)))

    none_of : (j : ℕ) → 0 < j → j < length xs → a ≤ parent j → (j ≡ g → ⊥) → (j ≡ i → ⊥) → (parent j ≡ i → ⊥) → (parent j ≡ g → ⊥) → Goal j
    unfolding Goal
    none_of j p q h n n' m m' = pair (parent j) j (get_or xs (parent j) 0) (get_or xs j 0) (at_else (parent j) m m') (at_else j n' n) (f.heap j p q h m)

    goal : (j : ℕ) → 0 < j → j < length xs → a ≤ parent j → (parent j ≡ g → ⊥) → Goal j
    goal j p q h m =
        ⊎_elim (λ e. is_g j e)
        (λ n. ⊎_elim (λ e. sibling j p q n e) (λ n'. ⊎_elim (λ e. is_i j p h n' m e) (λ n''. none_of j p q h n n'' n' m) (same? j i)) (same? (parent j) i)) (same? j g)

    below_g : (j : ℕ) → 0 < j → j < length xs → parent j ≡ g → less (get_or (swapped xs i g) i 0) (get_or (swapped xs i g) j 0) ≡ false
    below_g j p q e =
        let y = c.after in let l = f.low in
        pair i j (get_or xs g 0) (get_or xs j 0) at_i (at_else j (λ s. omega arith) (λ s. omega arith))
        (ap (λ (k : ℕ). less (get_or xs k 0) (get_or xs j 0)) (sym e) ∙ f.heap j p q (omega arith) (λ s. omega arith))

    pub nearly_next : Nearly a g (swapped xs i g)
    unfolding Goal
    nearly_next = record {
      low = let y = c.after in let l = f.low in omega arith;
      heap = λ j p q h m. goal j p (omega (arith, length_swap xs i g)) h m;
      over = λ j p q e z h. ap (λ (k : ℕ). less (get_or (swapped xs i g) k 0) (get_or (swapped xs i g) j 0)) c.child ∙ below_g j p (omega (arith, length_swap xs i g)) e;
    }

  -- ---- the heap up to `end`, and in place from there on
  pub record Sifted (end : ℕ) (xs : List ℕ) : Type 0 where
    pub heap : (j : ℕ) → 0 < j → j < end → less (get_or xs (parent j) 0) (get_or xs j 0) ≡ false
    pub done : (i j : ℕ) → i < j → end ≤ j → j < length xs → less (get_or xs j 0) (get_or xs i 0) ≡ false

  pub heap_none : (xs : List ℕ) (k : ℕ) → k ≡ length xs → HeapFrom less k xs
  heap_none xs k e j p q h = absurd (omega arith)

  pub sifted_start : (k end : ℕ) (xs : List ℕ) → HeapFrom less k xs → k ≤ 0 → end ≡ length xs → Sifted end xs
  sifted_start k end xs f h e = record { heap = λ j p q. f j p (omega arith) (omega arith); done = λ i j l m q. absurd (omega arith) }

  pub sifted_end : (end : ℕ) (xs : List ℕ) → Sifted end xs → end ≤ 1 → (i j : ℕ) → i < j → j < length xs → less (get_or xs j 0) (get_or xs i 0) ≡ false
  sifted_end end xs s h i j l q = s.done i j l (omega arith) q

  -- the root is above all
  top : (end : ℕ) (xs : List ℕ) → Sifted end xs → (n j : ℕ) → j ≤ n → j < end → less (get_or xs 0 0) (get_or xs j 0) ≡ false
  top end xs s zero j h l = let p : j ≡ 0 = omega arith in ap (λ (k : ℕ). less (get_or xs 0 0) (get_or xs k 0)) p ∙ not_self less lin (get_or xs 0 0)
  top end xs s (suc n) j h l =
      ⊎_elim (λ p. ap (λ (k : ℕ). less (get_or xs 0 0) (get_or xs k 0)) p ∙ not_self less lin (get_or xs 0 0))
      (λ p. lin.chain (get_or xs 0 0) (get_or xs (parent j) 0) (get_or xs j 0) (top end xs s n (parent j) (omega arith) (omega arith)) (s.heap j (omega arith) l)) (same? j 0)

  -- a turn: the root and the last of the heap are exchanged, and what is before the last, lent as a part, comes back as l
  module _ (end : ℕ) (xs : List ℕ) (s : Sifted end xs) (big : 1 < end) (fit : end ≤ length xs) where
    e : ℕ
    e = end - 1

    ys : List ℕ
    ys = swapped xs 0 (end - 1)

    zero_ne : 0 ≡ end - 1 → ⊥
    zero_ne p = omega arith

    ys_root : get_or ys 0 0 ≡ get_or xs (end - 1) 0
    unfolding ys
    ys_root = swap_first xs 0 (end - 1) (omega arith) (omega arith) zero_ne

    ys_last : get_or ys (end - 1) 0 ≡ get_or xs 0 0
    unfolding ys
    ys_last = swap_second xs 0 (end - 1) (omega arith) (omega arith) zero_ne

    ys_else : (j : ℕ) → (j ≡ 0 → ⊥) → (j ≡ end - 1 → ⊥) → get_or ys j 0 ≡ get_or xs j 0
    unfolding ys
    ys_else = swap_other xs 0 (end - 1) (omega arith) (omega arith) zero_ne

    ys_length : length ys ≡ length xs
    unfolding ys
    ys_length = length_swap xs 0 (end - 1)

    part_length : length (take (end - 1 - 0) (swapped xs 0 (end - 1))) ≡ end - 1
    unfolding ys
    part_length = ap (λ (n : ℕ). length (take n (swapped xs 0 (end - 1)))) (sub-zero (end - 1)) ∙ length-take-le (end - 1) (swapped xs 0 (end - 1)) (omega (arith, ys_length))

    part_at : (j : ℕ) → j < end - 1 → get_or (take (end - 1 - 0) (swapped xs 0 (end - 1))) j 0 ≡ get_or ys j 0
    unfolding ys
    part_at j h = get_or-take (end - 1 - 0) (swapped xs 0 (end - 1)) j 0 (omega arith)

    -- what is lent is a heap below its root
    pub lent_heap : HeapFrom less (0 + 1) (take (end - 1 - 0) (swapped xs 0 (end - 1)))
    lent_heap j p q h =
        let k = part_length in
        ap (λ (z : ℕ). less z (get_or (take (end - 1 - 0) (swapped xs 0 (end - 1))) j 0)) (part_at (parent j) (omega arith) ∙ ys_else (parent j) (λ w. omega arith) (λ w. omega arith))
        ∙ ap (λ (z : ℕ). less (get_or xs (parent j) 0) z) (part_at j (omega arith) ∙ ys_else j (λ w. omega arith) (λ w. omega arith))
        ∙ s.heap j p (omega arith)

    -- what holds of each of the heap holds of each that is lent
    each_lent : (P : ℕ → Type 0) → ((i : ℕ) → i < end → P (get_or xs i 0)) → (i : ℕ) → i < length (take (end - 1 - 0) (swapped xs 0 (end - 1))) → P (get_or (take (end - 1 - 0) (swapped xs 0 (end - 1))) i 0)
    each_lent P f i h =
        let k = part_length in
        subst⁻¹ P (part_at i (omega arith))
        (⊎_elim (λ p. subst⁻¹ P (ap (λ (z : ℕ). get_or ys z 0) p ∙ ys_root) (f (end - 1) (omega arith))) (λ n. subst⁻¹ P (ys_else i n (λ w. omega arith)) (f i (omega arith))) (same? i 0))

    module _ (l : List ℕ) (len : length l ≡ length (take (end - 1 - 0) (swapped xs 0 (end - 1)))) (pm : Perm l (take (end - 1 - 0) (swapped xs 0 (end - 1)))) (hp : HeapFrom less 0 l) where
      zs : List ℕ
      zs = l ++ drop (end - 1 - 0) (swapped xs 0 (end - 1))

      l_length : length l ≡ end - 1
      l_length = len ∙ part_length

      zs_low : (j : ℕ) → j < end - 1 → get_or zs j 0 ≡ get_or l j 0
      unfolding zs
      zs_low j h = get_or-append l (drop (end - 1 - 0) (swapped xs 0 (end - 1))) 0 j (omega (arith, l_length))

      zs_high : (j : ℕ) → end - 1 ≤ j → get_or zs j 0 ≡ get_or ys j 0
      unfolding zs ys
      zs_high j h =
          ap (λ (n : ℕ). get_or (l ++ drop (end - 1 - 0) (swapped xs 0 (end - 1))) n 0) (there (length l) j (omega (arith, l_length)))
          ∙ get_or-append-add l (drop (end - 1 - 0) (swapped xs 0 (end - 1))) (j - length l) 0
          ∙ get_or-drop (end - 1 - 0) (swapped xs 0 (end - 1)) (j - length l) 0
          ∙ ap (λ (n : ℕ). get_or (swapped xs 0 (end - 1)) n 0) (back (end - 1) (length l) j l_length h)
        where
          there : (k j : ℕ) → k ≤ j → j ≡ k + (j - k)
          there k j h = omega arith

          back : (a k j : ℕ) → k ≡ a → a ≤ j → a - 0 + (j - k) ≡ j
          back a k j e h = omega arith

      zs_length : length (l ++ drop (end - 1 - 0) (swapped xs 0 (end - 1))) ≡ length xs
      zs_length = let a = length-append l (drop (end - 1 - 0) (swapped xs 0 (end - 1))) in let b = length-drop (end - 1 - 0) (swapped xs 0 (end - 1)) in let c = l_length in let d = length_swap xs 0 (end - 1) in omega arith

      pub turn_length : length (l ++ drop (end - 1 - 0) (swapped xs 0 (end - 1))) ≡ length xs
      turn_length = zs_length

      pub turn_perm : Perm (l ++ drop (end - 1 - 0) (swapped xs 0 (end - 1))) xs
      turn_perm v =
          let a = occ_append v l (drop (end - 1 - 0) (swapped xs 0 (end - 1))) in
          let b = pm v in
          let c = occ_append v (take (end - 1 - 0) (swapped xs 0 (end - 1))) (drop (end - 1 - 0) (swapped xs 0 (end - 1))) in
          let d = ap (λ (z : List ℕ). occ v z) (take-append-drop (end - 1 - 0) (swapped xs 0 (end - 1))) in
          let f = perm_swap xs 0 (end - 1) (omega arith) (omega arith) v in
          omega arith

      -- each of l, under what is under each of the heap
      each_l : (P : ℕ → Type 0) → ((i : ℕ) → i < end → P (get_or xs i 0)) → (i : ℕ) → i < end - 1 → P (get_or l i 0)
      each_l P f i h = each_perm P l (take (end - 1 - 0) (swapped xs 0 (end - 1))) pm (each_lent P f) i (omega (arith, l_length))

      in_place : (i j : ℕ) → i < j → end - 1 ≤ j → j < length xs → less (get_or zs j 0) (get_or zs i 0) ≡ false
      in_place i j l' h q = ⊎_elim (λ p. last p) (λ n. past n) (same? j (end - 1))
        where
          pair : (x y : ℕ) → get_or zs j 0 ≡ x → get_or zs i 0 ≡ y → less x y ≡ false → less (get_or zs j 0) (get_or zs i 0) ≡ false
          pair x y a b c = ap (λ (k : ℕ). less k (get_or zs i 0)) a ∙ ap (λ (k : ℕ). less x k) b ∙ c

          last : j ≡ end - 1 → less (get_or zs j 0) (get_or zs i 0) ≡ false
          last p = pair (get_or xs 0 0) (get_or l i 0) (zs_high j h ∙ ap (λ (k : ℕ). get_or ys k 0) p ∙ ys_last) (zs_low i (omega arith)) (each_l (λ (v : ℕ). less (get_or xs 0 0) v ≡ false) (λ k m. top end xs s k k (omega arith) m) i (omega arith))

          at_j : (j ≡ end - 1 → ⊥) → get_or zs j 0 ≡ get_or xs j 0
          at_j n = zs_high j h ∙ ys_else j (λ w. omega arith) n

          past : (j ≡ end - 1 → ⊥) → less (get_or zs j 0) (get_or zs i 0) ≡ false
          past n = elim (low_or_high i (end - 1)) [
            | inl m ↦ pair (get_or xs j 0) (get_or l i 0) (at_j n) (zs_low i m) (each_l (λ (v : ℕ). less (get_or xs j 0) v ≡ false) (λ k m'. s.done k j (omega arith) (omega arith) q) i m)
            | inr m ↦ ⊎_elim
                (λ p. pair (get_or xs j 0) (get_or xs 0 0) (at_j n) (zs_high i m ∙ ap (λ (k : ℕ). get_or ys k 0) p ∙ ys_last) (s.done 0 j (omega arith) (omega arith) q))
                (λ p. pair (get_or xs j 0) (get_or xs i 0) (at_j n) (zs_high i m ∙ ys_else i (λ w. omega arith) p) (s.done i j l' (omega arith) q))
                (same? i (end - 1))
          ]

      pub turn_sifted : Sifted (end - 1) (l ++ drop (end - 1 - 0) (swapped xs 0 (end - 1)))
      unfolding zs
      turn_sifted = record {
        heap = λ j p q.
            ap (λ (z : ℕ). less z (get_or (l ++ drop (end - 1 - 0) (swapped xs 0 (end - 1))) j 0)) (zs_low (parent j) (omega arith))
            ∙ ap (λ (z : ℕ). less (get_or l (parent j) 0) z) (zs_low j q)
            ∙ hp j p (omega (arith, l_length)) (omega arith);
        done = λ i j h m q. in_place i j h m (omega (arith, zs_length));
      }

  -- ---- a turn, of the list ys that the exchange leaves
  pub record Turned (end : ℕ) (xs zs : List ℕ) : Type 0 where
    pub len : length zs ≡ length xs
    pub same : Perm zs xs
    pub sifted : Sifted (end - 1) zs

  module _ (end : ℕ) (xs ys : List ℕ) (e : ys ≡ swapped xs 0 (end - 1)) (s : Sifted end xs) (big : 1 < end) (fit : end ≤ length xs) where
    pub lent : HeapFrom less (0 + 1) (take (end - 1 - 0) ys)
    lent = subst⁻¹ (λ (z : List ℕ). HeapFrom less (0 + 1) (take (end - 1 - 0) z)) e (lent_heap end xs s big fit)

    pub turned : (l : List ℕ) → length l ≡ length (take (end - 1 - 0) ys) → Perm l (take (end - 1 - 0) ys) → HeapFrom less 0 l → Turned end xs (l ++ drop (end - 1 - 0) ys)
    turned l =
        subst⁻¹ (λ (z : List ℕ). length l ≡ length (take (end - 1 - 0) z) → Perm l (take (end - 1 - 0) z) → HeapFrom less 0 l → Turned end xs (l ++ drop (end - 1 - 0) z)) e
        (λ k p h. record { len = turn_length end xs s big fit l k p h; same = turn_perm end xs s big fit l k p h; sifted = turn_sifted end xs s big fit l k p h })
