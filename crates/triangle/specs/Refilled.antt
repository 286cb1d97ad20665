-- A mesh whose normals are worked out anew from its corners (rule T7): what the call answers and leaves in it, on every input. Definitions only.
use Rattle.std.specs.Prelude.{◌≡◌, ℕ, zero, suc, ◌+◌, ◌*◌, ◌%◌, ◌<◌, List, [], ◌∷◌, length, set, T, Float}
use Rattle.lent.specs.Ladder.{Refusal, none, numbered, unless, triangle_count, ragged, crowded}
use Rattle.aabb.specs.declared.vector.Vec3.{Vec3}
use Rattle.aabb.specs.Vector.{number_at}
use Rattle.triangle.specs.Mesh.{triangle_at, admitted_triangle, first_refused, unadmitted}
use Rattle.triangle.specs.Normal.{normal_of, new_triangle}

-- the refusal if there is one, and what the mesh holds at the end
pub record Outcome : Type 0 where
  pub refusal : Refusal
  pub mesh : List Float

abbrev pub outcome : Refusal → List Float → Outcome
outcome refusal mesh = record { refusal = refusal; mesh = mesh }

-- three numbers from a place on
unfoldable pub put : List Float → ℕ → Vec3 → List Float
put mesh at v = set (set (set mesh at v.x) (at + 1) v.y) (at + 2) v.z

-- the normal that the corners of triangle i give
abbrev pub normal_at : List Float → ℕ → Vec3
normal_at mesh i = normal_of (triangle_at mesh i).v0 (triangle_at mesh i).v1 (triangle_at mesh i).v2

-- Rule T7: the mesh with the normal of triangle i refilled
unfoldable pub filled : List Float → ℕ → List Float
filled mesh i = put mesh (i * 12 + 9) (normal_at mesh i)

-- of k triangles from i on
unfoldable pub filled_from : List Float → ℕ → ℕ → List Float
filled_from mesh i zero = mesh
filled_from mesh i (suc k) = filled_from (filled mesh i) (suc i) k

-- Rule T7, after the refusals: 1, 2, then 5 with the lowest number, none of which writes
unfoldable pub refilled : List Float → Outcome
refilled mesh =
    unless (ragged mesh ∷ crowded mesh ∷ unadmitted (first_refused mesh 0 (triangle_count mesh)) ∷ []) (λ number at. outcome (numbered number at) mesh)
    (outcome none (filled_from mesh 0 (triangle_count mesh)))

-- What a call that is served leaves in the mesh: as many numbers, those of the corners bit for bit, each triangle the one that its corners give, all of them admitted, and nothing that a second call would change
pub record Renewed (before after : List Float) : Type 0 where
  pub as_long : length after ≡ length before
  pub corners : (p : ℕ) → p % 12 < 9 → number_at after p ≡ number_at before p
  pub triangles : (i : ℕ) → i < triangle_count before → triangle_at after i ≡ new_triangle (triangle_at before i).v0 (triangle_at before i).v1 (triangle_at before i).v2
  pub admitted : (i : ℕ) → i < triangle_count before → T (admitted_triangle (triangle_at after i))
  pub settled : refilled after ≡ outcome none after
