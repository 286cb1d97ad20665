-- What a reading, or a writing, that was served shows: every check passed, and the rooms hold what is served. Assumes nothing.
use Rattle.std.specs.Prelude.{None}
use mathlib.Core.Path.{◌≡◌, refl, sym, ap, ◌∙◌, subst}
use Prim.Native.Nat.{ℕ, ◌+◌, ◌*◌, ◌%◌, ◌≤◌, ◌<◌}
use native.Mathlib.Omega.{arith}
use mathlib.Core.List.{List, ◌++◌}
use lib.Dec.{T, eqb}
use lib.ListN.{length, drop, replicate}
use lib.Ieee.{Float}
use borrow.Author.Tests.{eqb-true, ltb-false, not-false}
use Rattle.lent.specs.Limits.{most_triangles}
use Rattle.lent.specs.Ladder.{none, numbered, triangle_count}
use Rattle.lent.proofs.Ladder.{all_passed}
use Rattle.triangle.specs.Mesh.{triangle_at, admitted_triangle, first_refused}
use Rattle.triangle.proofs.Admitting.{none_unadmitted, none_refused}
use Rattle.stl.specs.Layout.{file_length, word, mesh_in, file_of}
use Rattle.stl.specs.Answers.{Read, read_as, Written, written_as, served}
use Rattle.stl.specs.Reading.{read_count, read_from, read_stl}
use Rattle.stl.specs.Writing.{exact_triangle, first_inexact, write_count, write_stl}
use Rattle.stl.proofs.Exact.{all_exact, passed_exact}

no_refusal : (number at : ℕ) → numbered number at ≡ none → ⊥
no_refusal number at e = let z : ◌≡◌ {A = ℕ} 0 1 = cc in omega arith

pub record WasRead (file : List ℕ) (triangles : List Float) (materials : List ℕ) (n : ℕ) (x : List Float) (y : List ℕ) : Type 0 where
  pub count : word file 80 ≡ n
  pub long : length file ≡ file_length n
  pub few : n ≤ most_triangles
  pub ample : 12 * n ≤ length triangles
  pub roomy : n ≤ length materials
  pub fine : first_refused (mesh_in file 84 n) 0 n ≡ None
  pub numbers : x ≡ mesh_in file 84 n ++ drop (12 * n) triangles
  pub zeros : y ≡ replicate n 0 ++ drop n materials

module _ (file : List ℕ) (triangles : List Float) (materials : List ℕ) (n : ℕ) (x : List Float) (y : List ℕ) where
  by_count : (m : ℕ) → read_count file 80 m triangles materials ≡ read_as (served n) x y → word file 80 ≡ m → WasRead file triangles materials n x y
  unfolding read_count
  by_count m e w =
      let p = all_passed _ _ _ (read_as (served n) x y) e (λ k a r. no_refusal k a (ap (λ (o : Read). o.answer.refusal) r)) in
      let q = p.0 in
      let same : m ≡ n = ap (λ (o : Read). o.answer.count) p.1 in
      subst (λ (k : ℕ). WasRead file triangles materials k x y) same
      (record {
        count = w;
        long = eqb-true (length file) (84 + 50 * m) (not-false (eqb (length file) (84 + 50 * m)) q.1.0);
        few = ltb-false most_triangles m q.1.1.0;
        ample = ltb-false (length triangles) (12 * m) q.1.1.1.0;
        roomy = ltb-false (length materials) m q.1.1.1.1.0;
        fine = none_unadmitted (first_refused (mesh_in file 84 m) 0 m) q.1.1.1.1.1.0;
        numbers = sym (ap (λ (o : Read). o.triangles) p.1);
        zeros = sym (ap (λ (o : Read). o.materials) p.1);
      })

  pub was_read : read_stl file triangles materials ≡ read_as (served n) x y → WasRead file triangles materials n x y
  unfolding read_stl read_from
  was_read e = by_count (word file 80) e refl

pub record WasWritten (mesh : List Float) (file : List ℕ) (b : ℕ) (out : List ℕ) : Type 0 where
  pub twelves : length mesh % 12 ≡ 0
  pub few : triangle_count mesh ≤ most_triangles
  pub fit : (j : ℕ) → j < triangle_count mesh → T (admitted_triangle (triangle_at mesh j))
  pub exact : (j : ℕ) → j < triangle_count mesh → T (exact_triangle (triangle_at mesh j))
  pub bytes : file_length (triangle_count mesh) ≡ b
  pub roomy : b ≤ length file
  pub holds : out ≡ file_of mesh (triangle_count mesh) ++ drop b file

module _ (mesh : List Float) (file : List ℕ) (b : ℕ) (out : List ℕ) where
  abbrev n : ℕ
  n = triangle_count mesh

  pub was_written : write_stl mesh file ≡ written_as (served b) out → WasWritten mesh file b out
  unfolding write_stl write_count
  was_written e =
      let p = all_passed _ _ _ (written_as (served b) out) e (λ k a r. no_refusal k a (ap (λ (o : Written). o.answer.refusal) r)) in
      let q = p.0 in
      let same : file_length n ≡ b = ap (λ (o : Written). o.answer.count) p.1 in
      let fine = none_unadmitted (first_refused mesh 0 n) q.1.1.0 in
      let single = passed_exact (first_inexact mesh 0 n) q.1.1.1.0 in
      record {
        twelves = eqb-true (length mesh % 12) 0 (not-false (eqb (length mesh % 12) 0) q.0);
        few = ltb-false most_triangles n q.1.0;
        fit = λ j h. none_refused mesh n 0 j fine (omega arith) (omega (arith, h));
        exact = λ j h. all_exact mesh n 0 j single (omega arith) (omega (arith, h));
        bytes = same;
        roomy = omega (arith, same, ltb-false (length file) (file_length n) q.1.1.1.1.0);
        holds = sym (ap (λ (o : Written). o.file) p.1) ∙ ap (λ (k : ℕ). file_of mesh n ++ drop k file) same;
      }
