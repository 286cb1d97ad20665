-- Every mesh that reading gives is admitted: so a build of it is served, or refused for its room (3, 4) or the tree's depth (6). Assumes nothing.
use Rattle.std.specs.Prelude.{None}
use Prim.Native.Nat.{ℕ, ◌*◌, ◌/◌, ◌%◌, ◌≤◌}
use mathlib.Core.Path.{◌≡◌, refl, ap, ◌∙◌}
use mathlib.Core.Bool.{Bool, true, false, cond}
use mathlib.Core.Option.{Option, none as nothing, some}
use mathlib.Core.List.{List}
use lib.Dec.{ltb}
use lib.ListN.{length, take}
use lib.Ieee.{Float}
use Rattle.lent.specs.Limits.{most_triangles, deepest}
use Rattle.lent.specs.Ladder.{none, numbered, first_failed, answered, unless, triangle_count}
use Rattle.lent.proofs.Ladder.{agree, not_below}
use Rattle.triangle.specs.Mesh.{first_refused, unadmitted}
use Rattle.lent.specs.Permutation.{up_to}
use Rattle.builder.specs.Tree.{Grown, grow}
use Rattle.builder.specs.Reply.{refused_reply}
use Rattle.builder.specs.Build.{outcome, room, finished, built}
use Rattle.stl.specs.Layout.{mesh_in}
use Rattle.stl.specs.Answers.{read_as, served}
use Rattle.stl.specs.Reading.{read_stl}
use Rattle.stl.proofs.WriteAgain.{mesh_read, twelves_read, few_read, fine_read}
use Rattle.demands.specs.Stl.{of_the_mesh}

module _ (n : ℕ) (index : List ℕ) (boxes : List Float) (links : List ℕ) where
  done : (g : Option Grown) → of_the_mesh (finished n g index boxes links).answer.refusal ≡ false
  unfolding of_the_mesh finished
  done nothing = refl
  done (some g) = refl

  -- by the tests of the room alone
  by_room : (a b c : Bool) (r : ℕ) (g : Option Grown)
      → of_the_mesh (answered (cond a (numbered 3 0) (cond b (numbered 4 r) (cond c (numbered 4 r) none))) (λ number at. outcome (refused_reply number at) index boxes links) (finished n g index boxes links)).answer.refusal ≡ false
  unfolding of_the_mesh answered
  by_room true b c r g = refl
  by_room false true c r g = refl
  by_room false false true r g = refl
  by_room false false false r g = done g

module _ (mesh : List Float) (twelves : length mesh % 12 ≡ 0) (few : triangle_count mesh ≤ most_triangles) (fine : first_refused mesh 0 (triangle_count mesh) ≡ None) where
  abbrev n : ℕ
  n = triangle_count mesh

  build_fine : (index : List ℕ) (boxes : List Float) (links : List ℕ) → of_the_mesh (built mesh index boxes links).answer.refusal ≡ false
  unfolding built unless first_failed unadmitted
  build_fine index boxes links = rw (agree twelves, not_below few, fine) (by_room n index boxes links (ltb (length index) n) (ltb (length boxes / 6) (room n)) (ltb (length links / 3) (room n)) (room n) (grow mesh deepest 0 (up_to n)))

-- Rule L6: a build of what was read is refused for its room or for its depth, or is served
pub read_builds : (file : List ℕ) (triangles : List Float) (materials : List ℕ) (n : ℕ) (x : List Float) (y : List ℕ) → read_stl file triangles materials ≡ read_as (served n) x y
    → (index : List ℕ) (boxes : List Float) (links : List ℕ) → of_the_mesh (built (take (12 * n) x) index boxes links).answer.refusal ≡ false
read_builds file triangles materials n x y e index boxes links =
    ap (λ (m : List Float). of_the_mesh (built m index boxes links).answer.refusal) (mesh_read file triangles materials n x y e)
    ∙ build_fine (mesh_in file 84 n) (twelves_read file triangles materials n x y e) (few_read file triangles materials n x y e) (fine_read file triangles materials n x y e) index boxes links
