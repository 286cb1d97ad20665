-- What the code of rows.rt cites: a matrix read row by row. Assumes nothing.
use mathlib.Core.Path.{◌≡◌, ap}
use Prim.Native.Nat.{ℕ, ◌+◌, min}
use native.Mathlib.Nat.{add_assoc, add-zero}
use mathlib.Core.List.{List}
use lib.ListN.{length}
use lib.Ieee.{Float}
use Rattle.aabb.specs.declared.vector.Vec3.{Vec3}
use Rattle.aabb.specs.Vector.{number_at, vector_at}
use Rattle.aabb.proofs.Tests.{vector_from}
use Rattle.street.specs.declared.rows.Row.{Row}
use Rattle.street.specs.Rows.{matrix, row_at}

-- ---- a matrix that would start beyond the list's end may as well start there
module _ (l : List Float) (a : ℕ) where
  last : (k : ℕ) → number_at l (min a (length l) + k + 3) ≡ number_at l (a + k + 3)
  unfolding vector_at
  last k = simp add_assoc (ap (λ (v : Vec3). v.x) (vector_from l a (k + 3)))

  row_from : (k : ℕ) → row_at l (min a (length l) + k) ≡ row_at l (a + k)
  unfolding row_at
  row_from k = cc (vector_from l a k, last k)

  row_start : row_at l (min a (length l)) ≡ row_at l a
  row_start = rw (← add-zero (min a (length l)), row_from 0, add-zero a)

  pub matrix_starts : (at : ℕ) (p q r s : Row) → at ≡ min a (length l) → p ≡ row_at l at → q ≡ row_at l (at + 4) → r ≡ row_at l (at + 8) → s ≡ row_at l (at + 12)
      → matrix p q r s ≡ matrix (row_at l a) (row_at l (a + 4)) (row_at l (a + 8)) (row_at l (a + 12))
  matrix_starts at p q r s e P Q R S = cc (row_start, row_from 4, row_from 8, row_from 12)
