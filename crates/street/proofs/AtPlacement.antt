-- Two ends of an entry as docs/PORT.md names them: a placement without a local ray leaves the best as it is, and an entry that names a placement is that placement's. Assumes nothing.
use Rattle.std.specs.Prelude.{Option, None}
use mathlib.Core.Path.{◌≡◌, ap, ◌∙◌}
use Prim.Native.Nat.{ℕ, ◌<◌}
use borrow.Author.Tests.{lt-leb}
use lib.ListN.{get_or}
use mathlib.Core.List.{List}
use Rattle.aabb.specs.declared.vector.Ray.{Ray}
use Rattle.walk.specs.Steps.{Went, on}
use Rattle.street.specs.declared.rows.Matrix.{Matrix}
use Rattle.street.specs.declared.sighting.Sight.{Sight}
use Rattle.street.specs.Rows.{matrix_at, local_ray}
use Rattle.street.specs.Walking.{Street, with_local, at_placement, placement_entry}
use Rattle.street.specs.Making.{placement_count}

module _ (s : Street) (r : Ray) (k : ℕ) (best : Option Sight) (i : Matrix) (I : i ≡ matrix_at s.inverses k) (local : Option Ray) (L : local ≡ local_ray i r) where
  local_is : with_local s r k local best ≡ at_placement s r k best
  unfolding at_placement
  local_is = ap (λ (z : Option Ray). with_local s r k z best) (L ∙ ap (λ (m : Matrix). local_ray m r) I)

  pub no_local : local ≡ None → on best ≡ at_placement s r k best
  unfolding with_local
  no_local e = rw e at local_is

module _ (s : Street) (index : List ℕ) (r : Ray) (p : ℕ) (best : Option Sight) (k : ℕ) (K : k ≡ get_or index p 0) where
  pub a_placement : k < placement_count s.matrices → (w : Went (Option Sight)) → w ≡ at_placement s r k best → w ≡ placement_entry s index r p best
  unfolding placement_entry
  a_placement h w e = rw (← K, lt-leb (placement_count s.matrices) k h) e
