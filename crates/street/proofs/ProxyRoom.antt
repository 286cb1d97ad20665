-- The proxy room, placement by placement: what is written, then what was there; and triangle j of what is written is placement j's proxy. Assumes nothing.
use mathlib.Core.Path.{◌≡◌, refl, sym, ap, ◌∙◌}
use mathlib.Core.List.{List, [], ◌++◌, append_assoc, append-nil}
use Prim.Native.Nat.{ℕ, ◌+◌, ◌*◌, ◌≤◌, ◌<◌}
use native.Mathlib.Omega.{arith}
use lib.ListN.{length, get_or, take, drop}
use lib.Seq.{sets, sets-eq, drop-drop}
use borrow.Rule.Slice.PartMut.{put_mid}
use lib.Ieee.{Float, nan}
use Rattle.lent.specs.Flat.{put, records}
use Rattle.lent.proofs.Flat.{fill_more, records_length, records_at}
use Rattle.aabb.specs.declared.bounds.Aabb.{Aabb}
use Rattle.aabb.specs.Vector.{vec, vector_at}
use Rattle.triangle.specs.declared.Triangle.{Triangle}
use Rattle.triangle.specs.Mesh.{triangle_at, triangle_numbers}
use Rattle.street.specs.Placing.{world_at, proxy_of}
use Rattle.street.specs.Making.{proxy_numbers}

-- what is copied into a part of the room is written number by number
pub copied : (room values new : List Float) (at k : ℕ) → new ≡ values → k ≡ length values → at + length values ≤ length room → put_mid at k room new ≡ sets room at values
copied room values new at k e n fits =
    rw (e, n, drop-drop (length values) at room, sets-eq values room at fits) (sym (append_assoc (take at room) values (drop (at + length values) room)))

module _ (matrices : List Float) (root : Aabb) where
  abbrev numbers : ℕ → List Float
  numbers = proxy_numbers matrices root

  wide : (i : ℕ) → length (numbers i) ≡ 12
  unfolding triangle_numbers
  wide i = refl

  pub none_yet : (room : List Float) → room ≡ records numbers 0 ++ drop (0 * 12) room
  unfolding records
  none_yet room = refl

  pub one_more : (i : ℕ) (b : Aabb) (t : Triangle) (now room : List Float) → b ≡ world_at matrices root i → t ≡ proxy_of b → i * 12 + 12 ≤ length room
      → now ≡ records numbers i ++ drop (i * 12) room → put 12 now i (triangle_numbers t) ≡ records numbers (i + 1) ++ drop ((i + 1) * 12) room
  unfolding put
  one_more i b t now room p q h e =
      ap (λ (l : List Float). sets l (i * 12) (triangle_numbers t)) e
      ∙ ap (λ (z : Triangle). sets (records numbers i ++ drop (i * 12) room) (i * 12) (triangle_numbers z)) (q ∙ ap proxy_of p)
      ∙ fill_more numbers room i (i * 12) ((i + 1) * 12) (records_length numbers 12 wide i) (omega (arith, wide i)) (omega arith)

  -- ---- read back
  pub proxies_length : (m : ℕ) → length (records numbers m) ≡ m * 12
  proxies_length m = records_length numbers 12 wide m

  number_is : (m j : ℕ) → j < m → (p k : ℕ) → k < 12 → p ≡ j * 12 + k → get_or (records numbers m) p nan ≡ get_or (numbers j) k nan
  number_is m j h p k l e = ap (λ (z : List Float). get_or z p nan) (sym (append-nil (records numbers m))) ∙ records_at numbers 12 wide m [] j p k nan h l e

  three : (m j : ℕ) → j < m → (p k : ℕ) → k + 2 < 12 → p ≡ j * 12 + k → vector_at (records numbers m) p ≡ vec (get_or (numbers j) k nan) (get_or (numbers j) (k + 1) nan) (get_or (numbers j) (k + 2) nan)
  unfolding vector_at
  three m j h p k l e =
      cc (number_is m j h p k (omega arith) e, number_is m j h (p + 1) (k + 1) (omega arith) (omega arith), number_is m j h (p + 2) (k + 2) (omega arith) (omega arith))

  pub proxy_is : (m j : ℕ) → j < m → triangle_at (records numbers m) j ≡ proxy_of (world_at matrices root j)
  unfolding triangle_at triangle_numbers
  proxy_is m j h = λ z. record {
    v0 = three m j h (j * 12) 0 (omega arith) (omega arith) z;
    v1 = three m j h (j * 12 + 3) 3 (omega arith) refl z;
    v2 = three m j h (j * 12 + 6) 6 (omega arith) refl z;
    normal = three m j h (j * 12 + 9) 9 (omega arith) refl z;
  }
