-- Leaf ranges that follow one another hold each place once. Assumes nothing.
use mathlib.Core.Path.{◌≡◌, refl}
use mathlib.Core.Bool.{Bool, true, false, ◌&&◌, cond}
use mathlib.Core.Logic.{◌⊎◌, inl, inr, ⊎_elim}
use Prim.Native.Nat.{ℕ, ◌+◌, ◌≤◌, ◌<◌}
use native.Mathlib.Omega.{arith}
use borrow.Author.Tests.{le-leb, lt-leb, lt-ltb, le-ltb}
use lib.Dec.{leb, ltb}
use Rattle.float.proofs.Cases.{low_or_high}
use Rattle.tree.specs.Tree.{Tree, leaf, internal, held}
use Rattle.tree.specs.Holds.{covering}
use Rattle.builder.specs.Runs.{Runs}

pub runs_up : (a b : ℕ) (t : Tree) → Runs a b t → a ≤ b
runs_up a b (leaf x f c) w = omega (arith, w.1)
runs_up a b (internal x l r) w = omega (arith, runs_up a w.0 l w.1, runs_up w.0 b r w.2)

pub runs_held : (a b : ℕ) (t : Tree) → Runs a b t → b ≡ a + held t
runs_held a b (leaf x f c) w = w.1
runs_held a b (internal x l r) w = omega (arith, runs_held a w.0 l w.1, runs_held w.0 b r w.2)

outside : (q a b : ℕ) (t : Tree) → Runs a b t → (q < a) ⊎ (b ≤ q) → covering q t ≡ 0
outside q a b (leaf x f c) w (inl h) = rw (lt-leb f q (omega (arith, w.0)))
outside q a b (leaf x f c) w (inr h) = go (leb f q) (le-ltb q (f + c) (omega (arith, w.0, w.1)))
  where
    go : (d : Bool) → ltb q (f + c) ≡ false → ◌≡◌ {A = ℕ} (cond (d && ltb q (f + c)) 1 0) 0
    go true e = rw e
    go false e = refl
outside q a b (internal x l r) w h =
    let u = runs_up a w.0 l w.1 in
    let v = runs_up w.0 b r w.2 in
    omega (arith, outside q a w.0 l w.1 (⊎_elim (λ i. inl i) (λ i. inr (omega arith)) h), outside q w.0 b r w.2 (⊎_elim (λ i. inl (omega arith)) (λ i. inr i) h))

pub inside : (q a b : ℕ) (t : Tree) → Runs a b t → a ≤ q → q < b → covering q t ≡ 1
inside q a b (leaf x f c) w h k = rw (le-leb f q (omega (arith, w.0)), lt-ltb q (f + c) (omega (arith, w.0, w.1)))
inside q a b (internal x l r) w h k =
    ⊎_elim (λ i. omega (arith, inside q a w.0 l w.1 h i, outside q w.0 b r w.2 (inl i))) (λ i. omega (arith, outside q a w.0 l w.1 (inr i), inside q w.0 b r w.2 i k))
    (low_or_high q w.0)
