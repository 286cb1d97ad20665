-- Each test that leads to a bad input, and what a good one has. Assumes nothing.
use Rattle.std.specs.Prelude.{Some, None}
use mathlib.Core.Path.{◌≡◌, refl, sym, ap, ◌∙◌}
use mathlib.Core.Bool.{Bool, true, false, ◌&&◌, and-false}
use mathlib.Core.List.{List}
use Prim.Native.Nat.{ℕ, ◌+◌, ◌*◌, ◌≤◌, ◌<◌}
use native.Mathlib.Omega.{arith}
use borrow.Author.Tests.{le-leb, lt-leb, leb-true, eq-eqb, ne_eqb, eqb-true}
use lib.Dec.{eqb, leb}
use lib.ListN.{length}
use Rattle.std.proofs.lemmas.Option.{same_Some}
use Rattle.float.proofs.Cases.{and_both}
use Rattle.report.specs.declared.input.Input.{Input}
use Rattle.report.specs.Little.{word}
use Rattle.report.specs.Input.{most, count_at, whole_length, fine, good, measured_by, measured}

many_triangles : (bytes n m : ℕ) → most < n → fine bytes n m ≡ false
unfolding fine
many_triangles bytes n m h = rw (lt-leb n most h)

many_rays : (bytes n m : ℕ) → most < m → fine bytes n m ≡ false
unfolding fine
many_rays bytes n m h = rw (lt-leb m most h) (and-false (leb n most))

unfit : (bytes n m : ℕ) → (bytes ≡ whole_length n m → ⊥) → fine bytes n m ≡ false
unfolding fine
unfit bytes n m h = rw (ne_eqb bytes (whole_length n m) h, and-false) (and-false (leb n most))

refused : (bytes n m : ℕ) → fine bytes n m ≡ false → None ≡ measured_by bytes n m
unfolding measured_by
refused bytes n m e = rw e

module _ (s : List ℕ) (n : ℕ) (p : n ≡ word s 0) where
  by_counts : (m : ℕ) → m ≡ word s (count_at n) → measured_by (length s) n m ≡ measured s
  unfolding measured
  by_counts m q = rw (q, p)

  pub over : most < n → None ≡ measured s
  over h = refused (length s) n (word s (count_at n)) (many_triangles (length s) n (word s (count_at n)) h) ∙ by_counts (word s (count_at n)) refl

  pub cut : length s < 4 + 96 * n + 4 → None ≡ measured s
  cut h = refused (length s) n (word s (count_at n)) (unfit (length s) n (word s (count_at n)) (λ e. omega arith)) ∙ by_counts (word s (count_at n)) refl

  module _ (m : ℕ) (q : m ≡ word s (4 + 96 * n)) where
    pub over_rays : most < m → None ≡ measured s
    over_rays h = refused (length s) n m (many_rays (length s) n m h) ∙ by_counts m q

    pub misfit : (length s ≡ 4 + 96 * n + 4 + 48 * m → ⊥) → None ≡ measured s
    misfit h = refused (length s) n m (unfit (length s) n m h) ∙ by_counts m q

    pub measured_good : n ≤ most → m ≤ most → length s ≡ 4 + 96 * n + 4 + 48 * m → good n m ≡ measured s
    unfolding measured measured_by fine
    measured_good h k e = rw (← p, ← q, le-leb n most h, le-leb m most k, eq-eqb (length s) (whole_length n m) e)

good_parts : (l n m : ℕ) → fine l n m ≡ true → (n ≤ most) × (m ≤ most) × (l ≡ whole_length n m)
unfolding fine
good_parts l n m h =
    let a = and_both (leb n most) (leb m most && eqb l (whole_length n m)) h in
    let b = and_both (leb m most) (eqb l (whole_length n m)) a.1 in
    (leb-true n most a.0, leb-true m most b.0, eqb-true l (whole_length n m) b.1)

Some≢None : (i : Input) → Some i ≡ None → ⊥
Some≢None i e = let z : ◌≡◌ {A = ℕ} 0 1 = cc in omega arith

taken : (l n m : ℕ) → fine l n m ≡ true → measured_by l n m ≡ good n m
unfolding measured_by
taken l n m h = rw h

fits_by : (l x y : ℕ) (i : Input) → Some i ≡ measured_by l x y → (i.triangles ≤ most) × (i.rays ≤ most) × (l ≡ 4 + 96 * i.triangles + 4 + 48 * i.rays)
fits_by l x y i e = go (fine l x y) refl
  where
    go : (b : Bool) → fine l x y ≡ b → (i.triangles ≤ most) × (i.rays ≤ most) × (l ≡ 4 + 96 * i.triangles + 4 + 48 * i.rays)
    go true h =
        let p = good_parts l x y h in
        let q = same_Some i (record { triangles = x; rays = y }) (e ∙ taken l x y h) in
        omega (arith, p, ap (λ (j : Input). j.triangles) q, ap (λ (j : Input). j.rays) q)
    go false h = absurd (Some≢None i (e ∙ sym (refused l x y h)))

-- what a good input has
pub fits : (s : List ℕ) (i : Input) → Some i ≡ measured s → (i.triangles ≤ most) × (i.rays ≤ most) × (length s ≡ 4 + 96 * i.triangles + 4 + 48 * i.rays)
unfolding measured
fits s i e = fits_by (length s) (word s 0) (word s (count_at (word s 0))) i e
