-- Of the lists with the same numbers one is in order: the sort by insertion. Assumes nothing.
use mathlib.Core.Path.{◌≡◌, refl, sym, ◌∙◌, ap, subst⁻¹}
use Prim.Native.Nat.{ℕ, suc, ◌+◌, ◌<◌}
use native.Mathlib.Omega.{arith}
use mathlib.Core.Logic.{◌⊎◌, inl, inr, ⊎_elim}
use mathlib.Core.Bool.{Bool, true, false}
use mathlib.Core.List.{List, [], ◌∷◌}
use lib.ListN.{length, get_or}
use Rattle.lent.specs.Permutation.{Perm, occurs, occ}
use Rattle.lent.proofs.Permutation.{each, occurs_cases, occurs_same}
use Rattle.builder.specs.Fallback.{insert, sorted}
use Rattle.builder.proofs.Linear.{Linear}

-- ---- lists in order
module _ (less : ℕ → ℕ → Bool) (lin : Linear less) where
  pub not_self : (x : ℕ) → less x x ≡ false
  not_self x = go (less x x) refl
    where
      go : (t : Bool) → less x x ≡ t → less x x ≡ false
      go true p = lin.turn x x p
      go false p = p

  pub Up : List ℕ → Type 0
  Up [] = ℕ
  Up (x ∷ xs) = ((v : ℕ) → 0 < occ v xs → less v x ≡ false) × Up xs

  abbrev pub InOrder : List ℕ → Type 0
  InOrder xs = (i j : ℕ) → i < j → j < length xs → less (get_or xs j 0) (get_or xs i 0) ≡ false

  up_of : (xs : List ℕ) → InOrder xs → Up xs
  unfolding Up
  up_of [] f = 0
  up_of (x ∷ xs) f = (
    each (λ (v : ℕ). less v x ≡ false) xs (λ i l. f 0 (suc i) (omega arith) (omega arith)),
    up_of xs (λ i j l h. f (suc i) (suc j) (omega arith) (omega arith)),
  )

  low_head : (x : ℕ) (xs : List ℕ) → ((v : ℕ) → 0 < occ v xs → less v x ≡ false) → (v : ℕ) → 0 < occurs v x + occ v xs → less v x ≡ false
  low_head x xs f v h = go (occurs_cases v x)
    where
      go : (v ≡ x) ⊎ (occurs v x ≡ 0) → less v x ≡ false
      go (inl p) = ap (λ (z : ℕ). less z x) p ∙ not_self x
      go (inr n) = f v (omega arith)

  pub one_order : (xs ys : List ℕ) → Up xs → Up ys → Perm xs ys → xs ≡ ys
  unfolding Up
  one_order [] [] p q e = refl
  one_order [] (y ∷ ys) p q e = absurd (omega (arith, e y, occurs_same y))
  one_order (x ∷ xs) [] p q e = absurd (omega (arith, e x, occurs_same x))
  one_order (x ∷ xs) (y ∷ ys) p q e =
      let s : x ≡ y = lin.same x y (low_head y ys q.0 x (omega (arith, e x, occurs_same x))) (low_head x xs p.0 y (omega (arith, e y, occurs_same y))) in
      ap (λ (z : ℕ). z ∷ xs) s ∙ ap (λ (z : List ℕ). y ∷ z) (one_order xs ys p.1 q.1 (λ v. omega (arith, e v, ap (λ (z : ℕ). occurs v z) s)))

  -- ---- the sort by insertion
  insert_true : (x y : ℕ) (ys : List ℕ) → less y x ≡ true → insert less x (y ∷ ys) ≡ y ∷ insert less x ys
  unfolding insert
  insert_true x y ys p = rw (p, insert)

  insert_false : (x y : ℕ) (ys : List ℕ) → less y x ≡ false → insert less x (y ∷ ys) ≡ x ∷ y ∷ ys
  unfolding insert
  insert_false x y ys p = rw (p, insert)

  insert_by : (P : List ℕ → Type 0) (x y : ℕ) (ys : List ℕ) → (less y x ≡ true → P (y ∷ insert less x ys)) → (less y x ≡ false → P (x ∷ y ∷ ys)) → P (insert less x (y ∷ ys))
  insert_by P x y ys f g = go (less y x) refl
    where
      go : (t : Bool) → less y x ≡ t → P (insert less x (y ∷ ys))
      go true p = subst⁻¹ P (insert_true x y ys p) (f p)
      go false p = subst⁻¹ P (insert_false x y ys p) (g p)

  insert_occ : (v x : ℕ) (ys : List ℕ) → occ v (insert less x ys) ≡ occurs v x + occ v ys
  unfolding insert
  insert_occ v x [] = refl
  insert_occ v x (y ∷ ys) = insert_by (λ (l : List ℕ). occ v l ≡ occurs v x + (occurs v y + occ v ys)) x y ys (λ p. omega (arith, insert_occ v x ys)) (λ p. refl)

  insert_up : (x : ℕ) (ys : List ℕ) → Up ys → Up (insert less x ys)
  unfolding insert Up
  insert_up x [] u = (λ v h. absurd (omega arith), 0)
  insert_up x (y ∷ ys) u =
      insert_by Up x y ys
      (λ p. (λ v h. first p v (omega (arith, insert_occ v x ys)), insert_up x ys u.1))
      (λ p. (λ v h. second p v h, u))
    where
      first : less y x ≡ true → (v : ℕ) → 0 < occurs v x + occ v ys → less v y ≡ false
      first p v h = ⊎_elim (λ e. ap (λ (z : ℕ). less z y) e ∙ lin.turn y x p) (λ n. u.0 v (omega arith)) (occurs_cases v x)

      second : less y x ≡ false → (v : ℕ) → 0 < occurs v y + occ v ys → less v x ≡ false
      second p v h = ⊎_elim (λ e. ap (λ (z : ℕ). less z x) e ∙ p) (λ n. lin.chain v y x (u.0 v (omega arith)) p) (occurs_cases v y)

  pub sorted_occ : (xs : List ℕ) → Perm (sorted less xs) xs
  unfolding sorted
  sorted_occ [] v = refl
  sorted_occ (x ∷ xs) v = insert_occ v x (sorted less xs) ∙ ap (λ (n : ℕ). occurs v x + n) (sorted_occ xs v)

  sorted_up : (xs : List ℕ) → Up (sorted less xs)
  unfolding sorted Up
  sorted_up [] = 0
  sorted_up (x ∷ xs) = insert_up x (sorted less xs) (sorted_up xs)

  -- a list in order with the numbers of xs is the sort of xs
  pub in_order_is : (ys xs : List ℕ) → InOrder ys → Perm ys xs → ys ≡ sorted less xs
  in_order_is ys xs o e = one_order ys (sorted less xs) (up_of ys o) (sorted_up xs) (λ v. e v ∙ sym (sorted_occ xs v))

  insert_length : (x : ℕ) (ys : List ℕ) → length (insert less x ys) ≡ suc (length ys)
  unfolding insert
  insert_length x [] = refl
  insert_length x (y ∷ ys) = insert_by (λ (l : List ℕ). length l ≡ suc (suc (length ys))) x y ys (λ p. ap suc (insert_length x ys)) (λ p. refl)

  pub sorted_length : (xs : List ℕ) → length (sorted less xs) ≡ length xs
  unfolding sorted
  sorted_length [] = refl
  sorted_length (x ∷ xs) = insert_length x (sorted less xs) ∙ ap suc (sorted_length xs)
