-- What a list of materials changes of an answer (request A5): the material of a hit, and nothing else. Definitions only.
use Rattle.std.specs.Prelude.{◌≡◌, List, ℕ, Option, Some, None}
use Rattle.triangle.specs.declared.Hit.{Hit}
use Rattle.tree.specs.Lent.{Lent, mesh_of}
use Rattle.walk.specs.Answer.{Told}
use Rattle.sky.specs.declared.Place.{Place}

-- the same lists, with another list of materials
abbrev pub with_materials : Lent → List ℕ → Lent
with_materials s materials = record { mesh = mesh_of s.mesh.triangles materials; tree = s.tree }

-- a hit of whatever material
abbrev pub plain : Hit → Hit
plain h = record { t = h.t; point = h.point; normal = h.normal; u = h.u; v = h.v; front = h.front; triangle = h.triangle; material = 0 }

abbrev pub plain_found : Option Hit → Option Hit
plain_found None = None
plain_found (Some h) = Some (plain h)

-- two answers that are equal but for the material
pub record SameBut (a b : Told) : Type 0 where
  pub refusal : a.refusal ≡ b.refusal
  pub hit : plain_found a.hit ≡ plain_found b.hit
  pub boxes : a.boxes ≡ b.boxes
  pub triangles : a.triangles ≡ b.triangles

-- two places of a sky that are equal but for the material
pub record SamePlaceBut (p q : Place) : Type 0 where
  pub outcome : p.outcome ≡ q.outcome
  pub which : p.which ≡ q.which
  pub t : p.t ≡ q.t
  pub u : p.u ≡ q.u
  pub v : p.v ≡ q.v
  pub boxes : p.boxes ≡ q.boxes
  pub triangles : p.triangles ≡ q.triangles
