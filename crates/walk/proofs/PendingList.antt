-- The pending nodes as an array and a length: what a step puts there, and what it takes. Assumes nothing.
use mathlib.Core.Path.{◌≡◌, refl, sym, ap, ◌∙◌}
use mathlib.Core.List.{List, ◌∷◌}
use Prim.Native.Nat.{ℕ, zero, suc, ◌+◌, ◌-◌, ◌≤◌, ◌<◌}
use native.Mathlib.Numerals.{add-one}
use native.Mathlib.Omega.{arith}
use lib.ListN.{length, get_or, set, length-set}
use lib.Seq.{get_or-set_same, get_or-set_other}
use Rattle.walk.specs.inner.State.{top}

top_set : (nodes : List ℕ) (i v k : ℕ) → k ≤ i → top (set nodes i v) k ≡ top nodes k
top_set nodes i v zero h = refl
top_set nodes i v (suc k) h = rw (get_or-set_other nodes i k v 0 (omega arith), top_set nodes i v k (omega arith))

put : (nodes : List ℕ) (k v : ℕ) → k < length nodes → top (set nodes k v) (k + 1) ≡ v ∷ top nodes k
put nodes k v h = rw (add-one k) (rw (get_or-set_same nodes k v 0 h, top_set nodes k v k (omega arith)))

-- right in the last one's place, then left
pub both_pending : (nodes : List ℕ) (n len left right : ℕ) → 0 < len → len < n → length nodes ≡ n
    → (top (set (set nodes (len - 1) right) len left) (len + 1) ≡ left ∷ right ∷ top nodes (len - 1)) × (length (set (set nodes (len - 1) right) len left) ≡ n)
both_pending nodes n len left right some room all =
    let once : List ℕ = set nodes (len - 1) right in (
      put once len left (simp length-set (omega arith))
          ∙ ap (λ (l : List ℕ). left ∷ l) (ap (top once) {x = len} {y = len - 1 + 1} (omega arith) ∙ put nodes (len - 1) right (omega arith)),
      simp length-set all,
    )

-- as many fewer as were dropped
pub fewer : (nodes after : List ℕ) (k less : ℕ) → less ≡ k → after ≡ nodes → top after less ≡ top nodes k
fewer nodes after k less e f = rw (e, f)

pub length_top : (nodes : List ℕ) (k : ℕ) → length (top nodes k) ≡ k
length_top nodes zero = refl
length_top nodes (suc k) = ap suc (length_top nodes k)

-- the last one is taken
pub taken : (nodes : List ℕ) (k : ℕ) → 0 < k → top nodes k ≡ get_or nodes (k - 1) 0 ∷ top nodes (k - 1)
taken nodes k h = go k (k - 1) (omega arith)
  where
    go : (k m : ℕ) → k ≡ suc m → top nodes k ≡ get_or nodes m 0 ∷ top nodes m
    go k m e = rw e

-- and is the first of them
top_last : (nodes : List ℕ) (k v : ℕ) (rest : List ℕ) → 0 < k → top nodes k ≡ v ∷ rest → get_or nodes (k - 1) 0 ≡ v
top_last nodes k v rest h e = ap (λ (l : List ℕ). get_or l 0 0) (sym (taken nodes k h) ∙ e)

pub opened_last : (nodes : List ℕ) (len k left : ℕ) (rest : List ℕ) → len ≡ k + 1 → top nodes len ≡ left ∷ rest → get_or nodes (len - 1) 0 ≡ left
opened_last nodes len k left rest p e = top_last nodes len left rest (omega (arith, p)) e
