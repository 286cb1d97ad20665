-- The twelve numbers of a triangle of a file, one after the other, and a mesh that grows by a triangle. Assumes nothing.
use mathlib.Core.Path.{◌≡◌, refl, sym, ap, ◌∙◌, subst}
use Prim.Native.Nat.{ℕ, zero, suc, ◌+◌, ◌-◌, ◌*◌, ◌%◌, ◌≤◌, ◌<◌}
use native.Mathlib.Numerals.{add-one}
use native.Mathlib.Omega.{arith}
use mathlib.Core.Bool.{not}
use mathlib.Core.List.{List, [], ◌∷◌, ◌++◌}
use lib.Dec.{T}
use lib.ListN.{length, take, set, get_or}
use lib.Seq.{take_all, take-suc, take-suc-set}
use borrow.Rule.Slice.PartMut.{put_mid}
use lib.Ieee.{Float, nan, binary32, nan_bits}
use Rattle.float.specs.Number.{two, two_to_40}
use Rattle.aabb.specs.Vector.{within}
use Rattle.triangle.specs.declared.Triangle.{Triangle}
use Rattle.triangle.specs.Mesh.{admitted_triangle}
use Rattle.lent.specs.Flat.{records}
use Rattle.stl.specs.Layout.{word, widened, vector_in, triangle_in, numbers_of, mesh_in}
use Rattle.stl.proofs.Parts.{part_more, part_length}
use Rattle.stl.proofs.Admits.{twelve_parts, number_no_nan}

pub numbers_length : (t : Triangle) → length (numbers_of t) ≡ 12
unfolding numbers_of
numbers_length t = refl

each_of_twelve : (P : ℕ → Type 0) → P 0 → P 1 → P 2 → P 3 → P 4 → P 5 → P 6 → P 7 → P 8 → P 9 → P 10 → P 11 → (k : ℕ) → k < 12 → P k
each_of_twelve P a b c d e f g h i j l m zero p = a
each_of_twelve P a b c d e f g h i j l m (suc zero) p = b
each_of_twelve P a b c d e f g h i j l m (suc (suc zero)) p = c
each_of_twelve P a b c d e f g h i j l m (suc (suc (suc zero))) p = d
each_of_twelve P a b c d e f g h i j l m (suc (suc (suc (suc zero)))) p = e
each_of_twelve P a b c d e f g h i j l m (suc (suc (suc (suc (suc zero))))) p = f
each_of_twelve P a b c d e f g h i j l m (suc (suc (suc (suc (suc (suc zero)))))) p = g
each_of_twelve P a b c d e f g h i j l m (suc (suc (suc (suc (suc (suc (suc zero))))))) p = h
each_of_twelve P a b c d e f g h i j l m (suc (suc (suc (suc (suc (suc (suc (suc zero)))))))) p = i
each_of_twelve P a b c d e f g h i j l m (suc (suc (suc (suc (suc (suc (suc (suc (suc zero))))))))) p = j
each_of_twelve P a b c d e f g h i j l m (suc (suc (suc (suc (suc (suc (suc (suc (suc (suc zero)))))))))) p = l
each_of_twelve P a b c d e f g h i j l m (suc (suc (suc (suc (suc (suc (suc (suc (suc (suc (suc zero))))))))))) p = m
each_of_twelve P a b c d e f g h i j l m (suc (suc (suc (suc (suc (suc (suc (suc (suc (suc (suc (suc k)))))))))))) p = absurd (omega arith)

module _ (s : List ℕ) (at : ℕ) where
  abbrev Number : ℕ → Type 0
  Number k = T (not (nan_bits binary32 (word s (at + (12 + 4 * k) % 48))))

  no_nan : (limit : Float) (i k : ℕ) → i ≡ at + (12 + 4 * k) % 48 → T (within limit (widened s i)) → Number k
  no_nan limit i k e p = subst (λ (z : ℕ). T (not (nan_bits binary32 (word s z)))) e (number_no_nan s i limit p)

  -- none of an admitted triangle's is a NaN
  pub admitted_number : T (admitted_triangle (triangle_in s at)) → (k : ℕ) → k < 12 → Number k
  admitted_number p =
      let t = twelve_parts s at p in
      each_of_twelve Number
      (no_nan two_to_40 (at + 12) 0 (omega arith) t.v0.x)
      (no_nan two_to_40 (at + 12 + 4) 1 (omega arith) t.v0.y)
      (no_nan two_to_40 (at + 12 + 8) 2 (omega arith) t.v0.z)
      (no_nan two_to_40 (at + 24) 3 (omega arith) t.v1.x)
      (no_nan two_to_40 (at + 24 + 4) 4 (omega arith) t.v1.y)
      (no_nan two_to_40 (at + 24 + 8) 5 (omega arith) t.v1.z)
      (no_nan two_to_40 (at + 36) 6 (omega arith) t.v2.x)
      (no_nan two_to_40 (at + 36 + 4) 7 (omega arith) t.v2.y)
      (no_nan two_to_40 (at + 36 + 8) 8 (omega arith) t.v2.z)
      (no_nan two at 9 (omega arith) t.normal.x)
      (no_nan two (at + 4) 10 (omega arith) t.normal.y)
      (no_nan two (at + 8) 11 (omega arith) t.normal.z)

  abbrev mesh_row : List Float
  mesh_row = numbers_of (triangle_in s at)

  abbrev Stands : ℕ → Type 0
  Stands k = widened s (at + (12 + 4 * k) % 48) ≡ get_or mesh_row k nan

  stands : (i k : ℕ) → at + (12 + 4 * k) % 48 ≡ i → widened s i ≡ get_or mesh_row k nan → Stands k
  stands i k e p = ap (widened s) e ∙ p

  number_stands : (k : ℕ) → k < 12 → Stands k
  unfolding numbers_of triangle_in vector_in
  number_stands =
      each_of_twelve Stands
      (stands (at + 12) 0 (omega arith) refl)
      (stands (at + 12 + 4) 1 (omega arith) refl)
      (stands (at + 12 + 8) 2 (omega arith) refl)
      (stands (at + 24) 3 (omega arith) refl)
      (stands (at + 24 + 4) 4 (omega arith) refl)
      (stands (at + 24 + 8) 5 (omega arith) refl)
      (stands (at + 36) 6 (omega arith) refl)
      (stands (at + 36 + 4) 7 (omega arith) refl)
      (stands (at + 36 + 8) 8 (omega arith) refl)
      (stands at 9 (omega arith) refl)
      (stands (at + 4) 10 (omega arith) refl)
      (stands (at + 8) 11 (omega arith) refl)

  pub number_more : (out : List Float) (k : ℕ) (x : Float) → length out ≡ 12 → k < 12 → x ≡ widened s (at + (12 + 4 * k) % 48) → take k out ≡ take k mesh_row
      → take (k + 1) (set out k x) ≡ take (k + 1) mesh_row
  number_more out k x n h e p =
      ap (λ (z : ℕ). take z (set out k x)) (add-one k)
      ∙ take-suc-set out k x (omega arith)
      ∙ ap (λ (z : List Float). z ++ x ∷ []) p
      ∙ ap (λ (z : Float). take k mesh_row ++ z ∷ []) (e ∙ number_stands k h)
      ∙ sym (ap (λ (z : ℕ). take z mesh_row) (add-one k) ∙ take-suc mesh_row k nan (omega (arith, numbers_length (triangle_in s at))))

  pub number_end : (out : List Float) (k : ℕ) → length out ≡ 12 → 12 ≤ k → take k out ≡ take k mesh_row → out ≡ mesh_row
  number_end out k n h p = sym (take_all k out (omega arith)) ∙ p ∙ take_all k mesh_row (omega (arith, numbers_length (triangle_in s at)))

-- ---- a mesh grows by a triangle
module _ (s : List ℕ) (at : ℕ) where
  pub mesh_none : (out : List Float) → take (12 * 0) out ≡ mesh_in s at 0
  unfolding mesh_in records
  mesh_none out = refl

  mesh_next : (i : ℕ) → mesh_in s at i ++ numbers_of (triangle_in s (at + 50 * i)) ≡ mesh_in s at (i + 1)
  unfolding mesh_in records
  mesh_next i = rw (add-one i)

  module _ (out ys : List Float) (i n : ℕ) (l : length out ≡ 12 * n) (h : i < n) (e : ys ≡ numbers_of (triangle_in s (at + 50 * i))) where
    twelve_long : length ys ≡ 12 * i + 12 - 12 * i
    twelve_long = ap length e ∙ (numbers_length (triangle_in s (at + 50 * i)) ∙ omega arith)

    pub mesh_more : take (12 * i) out ≡ mesh_in s at i → take (12 * (i + 1)) (put_mid (12 * i) (12 * i + 12 - 12 * i) out ys) ≡ mesh_in s at (i + 1)
    mesh_more m =
        ap (λ (k : ℕ). take k (put_mid (12 * i) (12 * i + 12 - 12 * i) out ys)) by_twelve
        ∙ (part_more (12 * i) (12 * i + 12) out ys (mesh_in s at i) (omega arith) (omega arith) twelve_long m
        ∙ (ap (λ (zs : List Float). mesh_in s at i ++ zs) e ∙ mesh_next i))
      where
        by_twelve : 12 * (i + 1) ≡ 12 * i + 12
        by_twelve = omega arith

    pub mesh_same_length : length (put_mid (12 * i) (12 * i + 12 - 12 * i) out ys) ≡ length out
    mesh_same_length = part_length (12 * i) (12 * i + 12) out ys (omega arith) twelve_long
