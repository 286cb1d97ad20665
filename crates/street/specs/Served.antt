-- What is promised of making besides its definition: nothing overflows, a proxy is always admitted, and what is served is the builder's tree of the proxies. Definitions only.
use Rattle.std.specs.Prelude.{ℕ, ◌<◌, ◌≡◌, Bool, ◌&&◌, List, [], ◌∷◌, T, Float}
use Rattle.std.specs.Float.Ieee.Scale.{finite}
use Rattle.lent.specs.Limits.{deepest}
use Rattle.lent.specs.Ladder.{numbered}
use Rattle.lent.specs.Members.{Member}
use Rattle.lent.specs.Permutation.{up_to}
use Rattle.aabb.specs.declared.bounds.Aabb.{Aabb}
use Rattle.aabb.specs.Vector.{all}
use Rattle.triangle.specs.Mesh.{triangle_at, admitted_triangle}
use Rattle.builder.specs.Tree.{grow}
use Rattle.builder.specs.Build.{finished}
use Rattle.street.specs.Placing.{world_at, proxy_of}
use Rattle.street.specs.Making.{placement_count, proxies, Outcome}

-- six finite numbers
abbrev pub finite_box : Aabb → Bool
finite_box b = all finite b.min && all finite b.max

-- Where 23, 24 and 25 do not apply no world box overflows: 26 says that a number of it is beyond 2^40
abbrev pub NoOverflow : List Float → Aabb → Type 0
NoOverflow matrices root = (i : ℕ) → i < placement_count matrices → T (finite_box (world_at matrices root i))

-- Where no check of the ladder fails: the tree of the proxies by rules C1 to C9, or 6; triangle j of them is placement j's proxy, and admitted
pub record TopTree (matrices : List Float) (root : Aabb) (index : List ℕ) (boxes : List Float) (links : List ℕ) (o : Outcome) : Type 0 where
  pub tree : o.tree ≡ finished (placement_count matrices) (grow (proxies matrices root) deepest 0 (up_to (placement_count matrices))) index boxes links
  pub proxy : (j : ℕ) → j < placement_count matrices → triangle_at (proxies matrices root) j ≡ proxy_of (world_at matrices root j)
  pub admitted : (j : ℕ) → j < placement_count matrices → T (admitted_triangle (triangle_at (proxies matrices root) j))

-- so the refusals of making are these, and a build's 1, 2 and 5 are not among them
abbrev pub Named : Outcome → Type 0
Named o = (number at : ℕ) → o.tree.answer.refusal ≡ numbered number at → Member number (23 ∷ 24 ∷ 25 ∷ 26 ∷ 16 ∷ 3 ∷ 4 ∷ 6 ∷ [])
