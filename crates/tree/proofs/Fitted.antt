-- What lists that are no misfit have, and that what has it is no misfit. Assumes nothing.
use mathlib.Core.Path.{◌≡◌}
use mathlib.Core.Bool.{false, not, ◌||◌}
use mathlib.Core.List.{List}
use Prim.Native.Nat.{ℕ, ◌*◌, ◌%◌, ◌≤◌, ◌<◌}
use native.Mathlib.Omega.{arith}
use borrow.Author.Tests.{eqb-false, eqb-true, ltb-false, not-false, eq-eqb, ne_eqb, le-ltb}
use lib.Dec.{eqb, ltb}
use lib.ListN.{length}
use lib.Ieee.{Float}
use Rattle.lent.specs.Limits.{most_nodes}
use Rattle.float.proofs.Cases.{neither}
use Rattle.tree.specs.Lent.{node_count}
use Rattle.tree.specs.Node.{misfit}

pub fitted : (boxes : List Float) (links : List ℕ) → 0 < node_count links → length links % 3 ≡ 0 → node_count links ≤ most_nodes → length boxes ≡ 2 * length links → misfit boxes links ≡ false
unfolding misfit
fitted boxes links some whole few twice =
    rw (ne_eqb (length links) 0 (λ e. omega (arith, e)), eq-eqb (length links % 3) 0 whole, le-ltb most_nodes (node_count links) few, eq-eqb (length boxes) (2 * length links) twice)

pub fitting : (boxes : List Float) (links : List ℕ) → misfit boxes links ≡ false → (0 < node_count links) × (node_count links ≤ most_nodes)
unfolding misfit
fitting boxes links h =
    let n = length links in
    let a = neither (eqb n 0) (not (eqb (n % 3) 0) || (ltb most_nodes (node_count links) || not (eqb (length boxes) (2 * n)))) h in
    let b = neither (not (eqb (n % 3) 0)) (ltb most_nodes (node_count links) || not (eqb (length boxes) (2 * n))) a.1 in
    let c = neither (ltb most_nodes (node_count links)) (not (eqb (length boxes) (2 * n))) b.1 in
    let w : n % 3 ≡ 0 = eqb-true (n % 3) 0 (not-false (eqb (n % 3) 0) b.0) in
    let z : n ≡ 0 → ⊥ = eqb-false n 0 a.0 in
    (omega arith, ltb-false most_nodes (node_count links) c.0)
