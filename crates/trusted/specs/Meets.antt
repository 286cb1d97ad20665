-- When lists are accepted (rules J2 to J9): what is asked before the conditions, and that none of these breaks anywhere. Definitions only.
use Rattle.std.specs.Prelude.{◌≡◌, false, List, ℕ, ◌+◌, ◌%◌, ◌≤◌, ◌<◌, T, length}
use Rattle.lent.specs.Limits.{most_triangles}
use Rattle.triangle.specs.Mesh.{triangle_at, admitted_triangle}
use Rattle.tree.specs.Lent.{Lent}
use Rattle.tree.specs.Node.{misfit}
use Rattle.accept.specs.Conditions.{nodes, meshed, breaks_1, breaks_2, breaks_3, breaks_4, breaks_5, breaks_6}

-- Rule J9: 1, 2, 8 and 5 don't apply
pub record Sound (s : Lent) : Type 0 where
  pub whole : length s.mesh.triangles % 12 ≡ 0
  pub few : meshed s ≤ most_triangles
  pub fitted : misfit s.tree.boxes s.tree.links ≡ false
  pub admitted : (k : ℕ) → k < meshed s → T (admitted_triangle (triangle_at s.mesh.triangles k))

-- nor does 16
abbrev pub Roomy : Lent → List ℕ → Type 0
Roomy s work = nodes s + meshed s ≤ length work

-- Rules J2 to J7: no node and no entry breaks a condition, and no entry is lacking
pub record Meets (s : Lent) : Type 0 where
  pub one : (i : ℕ) → i < nodes s → breaks_1 s i ≡ false
  pub two : (j : ℕ) → j < nodes s → breaks_2 s j ≡ false
  pub three : (j : ℕ) → j < nodes s → breaks_3 s j ≡ false
  pub four : (p : ℕ) → p < length s.tree.index → breaks_4 s p ≡ false
  pub five : (p : ℕ) → p < length s.tree.index → breaks_5 s p ≡ false
  pub long : meshed s ≤ length s.tree.index
  pub six : (i : ℕ) → i < nodes s → breaks_6 s i ≡ false
