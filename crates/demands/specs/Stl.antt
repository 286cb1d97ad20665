-- What is signed of a mesh that was read from a file (rule L6): no build of it is refused for the mesh. Definitions only.
use Rattle.std.specs.Prelude.{Bool, false, ◌||◌, eqb}
use Rattle.lent.specs.Ladder.{Refusal, none, numbered}

-- 1, 2 or 5
unfoldable pub of_the_mesh : Refusal → Bool
of_the_mesh none = false
of_the_mesh (numbered number at) = eqb number 1 || (eqb number 2 || eqb number 5)
