-- The report of the cases that a build and an input have, and the part of the room that the walk is handed. Assumes nothing.
use Rattle.std.specs.Prelude.{Option, Some, None, Result, Ok, Err}
use mathlib.Core.Path.{◌≡◌, refl, sym, ap, ◌∙◌}
use mathlib.Core.Bool.{Bool, true, false}
use mathlib.Core.List.{List, ◌∷◌, ◌++◌}
use Prim.Native.Nat.{ℕ, zero, suc, ◌+◌, ◌*◌, ◌-◌, ◌≤◌, ◌<◌, min}
use native.Mathlib.Nat.{sub-zero, min-eq_left, min-eq_right, min-le_left, mul-le-mul_right}
use native.Mathlib.Omega.{arith}
use borrow.Author.Tests.{leb-true, leb-false}
use lib.Dec.{leb}
use lib.ListN.{length, take, drop, replicate, length-take}
use lib.Seq.{length-take-le, length_front, take_at, take_all}
use lib.Ieee.{Float}
use Rattle.builder.specs.declared.Built.{Built}
use Rattle.lent.specs.declared.refusal.Refused.{Refused}
use Rattle.lent.specs.Refusals.{number}
use Rattle.builder.specs.Reply.{Reply, reply}
use Rattle.builder.specs.Build.{outcome}
use Rattle.tree.specs.Lent.{Lent, lent}
use Rattle.report.specs.declared.input.Input.{Input}
use Rattle.report.specs.Little.{numbers}
use Rattle.report.specs.Input.{measured}
use Rattle.report.specs.Lines.{bad_input, build_refused_line, built_line}
use Rattle.report.specs.Survey.{ray_lines, handed, built_of, report_of, reported, surveyed_as, surveyed}

-- ---- the parts of the room
-- the front of a list that has room for 399 nodes of w numbers each
shown : {A : Type 0} (xs : List A) (w nodes r : ℕ) → length xs ≡ 399 * w → r ≡ min nodes 399 → take (r * w) xs ≡ take (nodes * w) xs
shown xs w nodes r h e = go (leb nodes 399) refl
  where
    product : (a b : ℕ) → a ≤ b → a * w ≤ b * w
    product a b k = mul-le-mul_right w k

    go : (t : Bool) → leb nodes 399 ≡ t → take (r * w) xs ≡ take (nodes * w) xs
    go true t = ap (λ (z : ℕ). take (z * w) xs) (e ∙ min-eq_left (leb-true nodes 399 t))
    go false t =
        let more : 399 < nodes = leb-false nodes 399 t in
        let up : 399 * w ≤ nodes * w = product 399 nodes (omega arith) in
        ap (λ (z : ℕ). take (z * w) xs) (e ∙ min-eq_right (omega arith)) ∙ take_all (399 * w) xs (omega arith) ∙ sym (take_all (nodes * w) xs (omega arith))

-- the front of so many zeros
zeros : (n k : ℕ) → n ≤ k → take {A = ℕ} n (replicate k 0) ≡ replicate n 0
zeros zero k h = refl
zeros (suc n) zero h = absurd (omega arith)
zeros (suc n) (suc k) h = ap (λ (l : List ℕ). 0 ∷ l) (zeros n k (omega arith))

pub handed_is : (mesh : List Float) (n nodes r : ℕ) (a : Reply) (i : List ℕ) (b : List Float) (l : List ℕ) → n ≤ 200 → length b ≡ 2394 → length l ≡ 1197 → r ≡ min nodes 399
    → lent mesh (take (n - 0) (replicate 200 0)) (take (n - 0) i) (take (r * 6 - 0) b) (take (r * 3 - 0) l) ≡ handed mesh n nodes (outcome a i b l)
unfolding handed
handed_is mesh n nodes r a i b l w h k e = rw (sub-zero n, zeros n 200 w, sub-zero (r * 6), sub-zero (r * 3), shown b 6 nodes r h e, shown l 3 nodes r k e)

pub mesh_read : (xs : List Float) (n m l : ℕ) → l ≡ 4 + 96 * n + 4 + 48 * m → 4 + 8 * length (take (n * 12 - 0) xs) ≤ l
mesh_read xs n m l e = omega (arith, length-take (n * 12 - 0) xs, min-le_left (n * 12 - 0) (length xs))

pub mesh_within : (xs c : List Float) (n : ℕ) → n * 12 ≤ length xs → length c ≡ length (take (n * 12 - 0) xs) → n * 12 ≤ length (c ++ drop (n * 12 - 0) xs)
mesh_within xs c n h k = rw (length_front xs c (n * 12 - 0) k) h

-- a front that was filled with the numbers of n triangles, lent again
pub mesh_is : (s : List ℕ) (xs c : List Float) (n : ℕ) → n * 12 ≤ length xs → length c ≡ length (take (n * 12 - 0) xs) → c ≡ numbers s 4 (length (take (n * 12 - 0) xs))
    → take (n * 12 - 0) (c ++ drop (n * 12 - 0) xs) ≡ numbers s 4 (n * 12)
mesh_is s xs c n h k e =
    let w : length (take (n * 12 - 0) xs) ≡ n * 12 = ap (λ (z : ℕ). length (take z xs)) (sub-zero (n * 12)) ∙ length-take-le (n * 12) xs h in
    take_at c (drop (n * 12 - 0) xs) (n * 12 - 0) (k ∙ w ∙ sym (sub-zero (n * 12))) ∙ e ∙ ap (λ (z : ℕ). numbers s 4 z) w

-- ---- the build's cases
module _ (s : List ℕ) (mesh : List Float) (n m : ℕ) (a : Result Built Refused) (i : List ℕ) (b : List Float) (l : List ℕ) (p : outcome (reply a) i b l ≡ built_of mesh) where
  pub refused_report : (r : Refused) (k : ℕ) → a ≡ Err r → k ≡ number r.reason → build_refused_line k r.at ≡ reported s mesh n m
  unfolding reply reported report_of
  refused_report r k q e = rw (← p, q, e)

  pub built_report : (t : Built) (w : Lent) → a ≡ Ok t → w ≡ handed mesh n t.nodes (outcome (reply a) i b l) → built_line t.nodes t.leaves ++ ray_lines s (8 + 96 * n) w m ≡ reported s mesh n m
  unfolding reply reported report_of
  built_report t w q e = rw (e, ← p, q)

-- ---- the input's cases
pub bad_report : (s : List ℕ) (f : Option Input) → f ≡ measured s → f ≡ None → bad_input ≡ surveyed s
unfolding surveyed surveyed_as
bad_report s f p q = rw (← p, q)

pub good_report : (s : List ℕ) (f : Option Input) (i : Input) (mesh : List Float) → f ≡ measured s → f ≡ Some i → mesh ≡ numbers s 4 (i.triangles * 12) → reported s mesh i.triangles i.rays ≡ surveyed s
unfolding surveyed surveyed_as
good_report s f i mesh p q e = rw (← p, q, e)
