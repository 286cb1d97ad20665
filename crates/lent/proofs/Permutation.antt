-- How often a number stands in a list that is written, joined or read, and what lists with the same numbers share. Assumes nothing.
use mathlib.Core.Path.{◌≡◌, refl, ◌∙◌, ap, subst⁻¹}
use Prim.Native.Nat.{ℕ, zero, suc, ◌+◌, ◌<◌}
use native.Mathlib.Omega.{arith}
use native.Mathlib.Decide.{ℕ_discrete}
use mathlib.Core.Logic.{◌⊎◌, inl, inr, ⊎_elim}
use mathlib.Core.Bool.{Bool, true, false, cond}
use mathlib.Core.List.{List, [], ◌∷◌, ◌++◌}
use lib.ListN.{length, get_or, set, length-set, length-append}
use lib.Seq.{get_or-set_same, get_or-set_other}
use lib.Dec.{eqb}
use borrow.Author.Tests.{eq-eqb, eqb-true}
use Rattle.lent.specs.Permutation.{Perm, occurs, occ, up_to}

-- ---- how often a number stands in a list
pub occurs_same : (v : ℕ) → occurs v v ≡ 1
unfolding occurs
occurs_same v = rw (eq-eqb v v refl)

pub occurs_cases : (v x : ℕ) → (v ≡ x) ⊎ (occurs v x ≡ 0)
unfolding occurs
occurs_cases v x = go (eqb v x) refl
  where
    go : (t : Bool) → eqb v x ≡ t → (v ≡ x) ⊎ (◌≡◌ {A = ℕ} (cond t 1 0) 0)
    go true p = inl (eqb-true v x p)
    go false p = inr refl

occ_set : (v : ℕ) (xs : List ℕ) (i a : ℕ) → i < length xs → occ v (set xs i a) + occurs v (get_or xs i 0) ≡ occ v xs + occurs v a
occ_set v [] i a h = absurd (omega arith)
occ_set v (x ∷ xs) zero a h = omega arith
occ_set v (x ∷ xs) (suc i) a h = omega (arith, occ_set v xs i a (omega arith))

after_set : (xs : List ℕ) (a b : ℕ) → a < length xs → get_or (set xs a (get_or xs b 0)) b 0 ≡ get_or xs b 0
after_set xs a b h =
    elim (ℕ_discrete b a) [
      | yes p ↦ ap (λ (k : ℕ). get_or (set xs a (get_or xs b 0)) k 0) p ∙ get_or-set_same xs a (get_or xs b 0) 0 h
      | no n ↦ get_or-set_other xs a b (get_or xs b 0) 0 n
    ]

-- two entries exchanged
pub perm_swap : (xs : List ℕ) (a b : ℕ) → a < length xs → b < length xs → Perm (set (set xs a (get_or xs b 0)) b (get_or xs a 0)) xs
perm_swap xs a b ha hb v =
    let p = occ_set v xs a (get_or xs b 0) ha in
    let q = occ_set v (set xs a (get_or xs b 0)) b (get_or xs a 0) (omega (arith, length-set xs a (get_or xs b 0))) in
    let r = ap (λ (z : ℕ). occurs v z) (after_set xs a b ha) in
    omega arith

pub occ_append : (v : ℕ) (xs ys : List ℕ) → occ v (xs ++ ys) ≡ occ v xs + occ v ys
occ_append v [] ys = omega arith
occ_append v (x ∷ xs) ys = omega (arith, occ_append v xs ys)

-- ---- what holds of each number of a list
pub occ_at : (xs : List ℕ) (i : ℕ) → i < length xs → 0 < occ (get_or xs i 0) xs
occ_at [] i h = absurd (omega arith)
occ_at (x ∷ xs) zero h = omega (arith, occurs_same x)
occ_at (x ∷ xs) (suc i) h = omega (arith, occ_at xs i (omega arith))

pub each : (P : ℕ → Type 0) (xs : List ℕ) → ((i : ℕ) → i < length xs → P (get_or xs i 0)) → (v : ℕ) → 0 < occ v xs → P v
each P [] f v h = absurd (omega arith)
each P (x ∷ xs) f v h = ⊎_elim (λ p. subst⁻¹ P p (f 0 (omega arith))) (λ n. each P xs (λ i l. f (suc i) (omega arith)) v (omega arith)) (occurs_cases v x)

pub each_perm : (P : ℕ → Type 0) (xs ys : List ℕ) → Perm xs ys → ((i : ℕ) → i < length ys → P (get_or ys i 0)) → (i : ℕ) → i < length xs → P (get_or xs i 0)
each_perm P xs ys e f i h = each P ys f (get_or xs i 0) (omega (arith, occ_at xs i h, e (get_or xs i 0)))

-- ---- 0, 1, .., n - 1
pub up_length : (n : ℕ) → length (up_to n) ≡ n
unfolding up_to
up_length zero = refl
up_length (suc n) = omega (arith, up_length n, length-append (up_to n) (n ∷ []))

pub up_below : (n v : ℕ) → 0 < occ v (up_to n) → v < n
unfolding up_to
up_below zero v h = absurd (omega arith)
up_below (suc n) v h =
    let e = occ_append v (up_to n) (n ∷ []) in
    ⊎_elim (λ p. omega arith) (λ p. let o : 0 < occ v (up_to n) = omega arith in let l = up_below n v o in omega arith) (occurs_cases v n)
