-- The lent data, in two parts: the mesh, and the lists that hold a tree over it. Definitions only.
use Rattle.std.specs.Prelude.{ℕ, ◌/◌, ◌≡◌, List, length, get_or, Float}
use Rattle.lent.specs.Ladder.{triangle_count}

-- Rules D1 and D9: twelve numbers a triangle, and a material
pub record Mesh : Type 0 where
  pub triangles : List Float
  pub materials : List ℕ

-- Rules D2 and D3: triangle numbers; six numbers of box a node; three links a node
pub record Lists : Type 0 where
  pub index : List ℕ
  pub boxes : List Float
  pub links : List ℕ

pub record Lent : Type 0 where
  pub mesh : Mesh
  pub tree : Lists

abbrev pub mesh_of : List Float → List ℕ → Mesh
mesh_of t m = record { triangles = t; materials = m }

abbrev pub lists_of : List ℕ → List Float → List ℕ → Lists
lists_of i b l = record { index = i; boxes = b; links = l }

abbrev pub lent : List Float → List ℕ → List ℕ → List Float → List ℕ → Lent
lent t m i b l = record { mesh = mesh_of t m; tree = lists_of i b l }

-- Rule D9: one material for each triangle
abbrev pub Labelled : Mesh → Type 0
Labelled m = length m.materials ≡ triangle_count m.triangles

-- the material of triangle k
abbrev pub material_of : Mesh → ℕ → ℕ
material_of m k = get_or m.materials k 0

abbrev pub node_count : List ℕ → ℕ
node_count links = length links / 3
