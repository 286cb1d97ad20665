-- Reading back what was written gives the same numbers, bit for bit, signs of zero included. Assumes nothing.
use Rattle.std.specs.Prelude.{None}
use mathlib.Core.Path.{◌≡◌, refl, sym, ap, ◌∙◌, subst}
use Prim.Native.Nat.{ℕ, ◌+◌, ◌*◌, ◌≤◌, ◌<◌}
use native.Mathlib.Omega.{arith}
use mathlib.Core.List.{List, ◌++◌}
use lib.Dec.{T}
use lib.ListN.{length, take, drop, replicate}
use lib.Seq.{take_at, take_all}
use lib.Ieee.{Float}
use Rattle.lent.specs.Ladder.{triangle_count}
use Rattle.triangle.specs.declared.Triangle.{Triangle}
use Rattle.triangle.specs.Mesh.{triangle_at, admitted_triangle, first_refused}
use Rattle.stl.specs.Layout.{triangle_in, mesh_in, file_of}
use Rattle.stl.specs.Answers.{read_as, written_as, served}
use Rattle.stl.specs.Reading.{read_stl}
use Rattle.stl.specs.Writing.{write_stl}
use Rattle.stl.proofs.Held.{admitted_held}
use Rattle.stl.proofs.Back.{file_length_lem, count_back, triangle_back}
use Rattle.stl.proofs.Runs.{mesh_back}
use Rattle.stl.proofs.Served.{was_written}
use Rattle.stl.proofs.ReadLadder.{counted, is_read}

-- Rule L6: the bytes that a writing says it wrote are a file that reads as the mesh, number for number
pub reads_back : (mesh : List Float) (room : List ℕ) (b : ℕ) (out : List ℕ) (triangles : List Float) (materials : List ℕ) → write_stl mesh room ≡ written_as (served b) out
    → length mesh ≤ length triangles → triangle_count mesh ≤ length materials
    → read_stl (take b out) triangles materials ≡ read_as (served (triangle_count mesh)) (mesh ++ drop (length mesh) triangles) (replicate (triangle_count mesh) 0 ++ drop (triangle_count mesh) materials)
unfolding read_stl
reads_back mesh room b out triangles materials done ample roomy =
    let h = was_written mesh room b out done in
    let n = triangle_count mesh in
    let file = file_of mesh n in
    let long : length mesh ≡ n * 12 = omega (arith, h.twelves) in
    let whole : take b out ≡ file = ap (take b) h.holds ∙ take_at file (drop b room) b (file_length_lem mesh n ∙ h.bytes) in
    let back : (j : ℕ) → j < n → triangle_in file (84 + 50 * j) ≡ triangle_at mesh j = triangle_back mesh n h.exact in
    let clean : first_refused (mesh_in file 84 n) 0 n ≡ None = admitted_held file 84 n (λ j g. subst (λ (t : Triangle). T (admitted_triangle t)) (sym (back j g)) (h.fit j g)) in
    let same : mesh ≡ mesh_in file 84 n = sym (mesh_back mesh file 84 n (omega (arith, long)) back ∙ take_all (n * 12) mesh (omega (arith, long))) in
    let twelve : 12 * n ≡ length mesh = omega (arith, long) in
    ap (λ (s : List ℕ). read_stl s triangles materials) whole
    ∙ sym
    (counted file 80 n triangles materials _ (sym (count_back mesh n h.few))
    (is_read file 80 n triangles materials (file_length_lem mesh n) h.few (omega (arith, twelve, ample)) roomy None (sym clean) _ _ refl
    (ap (λ (zs : List Float). zs ++ drop (length mesh) triangles) same ∙ ap (λ (k : ℕ). mesh_in file 84 n ++ drop k triangles) (sym twelve)) refl))
