-- A triangle of a file is admitted just where twelve patterns, each with a margin added to it, stay below 2^31. Assumes nothing.
use mathlib.Core.Path.{◌≡◌, subst}
use Prim.Native.Nat.{ℕ, ◌+◌, ◌*◌, ◌%◌, ◌<◌}
use native.Mathlib.Omega.{arith}
use mathlib.Core.Bool.{not, ◌&&◌}
use mathlib.Core.List.{List}
use lib.Dec.{T, eqb, eqb→eq, lit<, lit≤}
use lib.Bits.{bit_and, bit_or, or_lt}
use lib.Ieee.{Float, binary32, nan_bits}
use lib.Ieee.Fits.{and_l, and_r, and_i, eq→eqb}
use Rattle.float.specs.Number.{two, two_to_40}
use Rattle.float.proofs.Cases.{same_test}
use Rattle.float.proofs.Numbers.{two_is, two_to_40_is}
use Rattle.aabb.specs.Vector.{within, all_within}
use Rattle.triangle.specs.Mesh.{admitted_triangle}
use Rattle.stl.specs.Layout.{word, widened, vector_in, triangle_in}
use Rattle.stl.proofs.Pairs.{unsigned, Low, low_left, low_right, low_or, clear→low, low→clear}
use Rattle.stl.proofs.Sizes.{le→pattern, pattern→le, within_no_nan}

-- ---- one number: the margins are 2^31 - 1 less the patterns of 2^40 and of 2
module _ (s : List ℕ) (at : ℕ) where
  far→within : word s at % 2147483648 + 0x2c7f_ffff < 2147483648 → T (within two_to_40 (widened s at))
  unfolding within widened
  far→within p = rw two_to_40_is (pattern→le 40 (lit≤ tt) (word s at) (omega arith))

  within→far : T (within two_to_40 (widened s at)) → word s at % 2147483648 + 0x2c7f_ffff < 2147483648
  unfolding within widened
  within→far p = omega (arith, le→pattern 40 (lit≤ tt) (word s at) (rw two_to_40_is at p))

  steep→within : word s at % 2147483648 + 0x3fff_ffff < 2147483648 → T (within two (widened s at))
  unfolding within widened
  steep→within p = rw two_is (pattern→le 1 (lit≤ tt) (word s at) (omega arith))

  within→steep : T (within two (widened s at)) → word s at % 2147483648 + 0x3fff_ffff < 2147483648
  unfolding within widened
  within→steep p = omega (arith, le→pattern 1 (lit≤ tt) (word s at) (rw two_is at p))

  pub number_no_nan : (limit : Float) → T (within limit (widened s at)) → T (not (nan_bits binary32 (word s at)))
  unfolding within widened
  number_no_nan limit p = within_no_nan (word s at) limit p

-- ---- three numbers, and twelve
pub record Three (P : ℕ → Type 0) (at : ℕ) : Type 0 where
  pub x : P at
  pub y : P (at + 4)
  pub z : P (at + 8)

abbrev pub Small : Float → List ℕ → ℕ → Type 0
Small limit s k = T (within limit (widened s k))

module _ (limit : Float) (s : List ℕ) (at : ℕ) where
  three_parts : T (all_within limit (vector_in s at)) → Three (Small limit s) at
  unfolding all_within vector_in
  three_parts p =
      let a = within limit (widened s at) in
      let b = within limit (widened s (at + 4)) in
      let c = within limit (widened s (at + 8)) in
      record { x = and_l a (b && c) p; y = and_l b c (and_r a (b && c) p); z = and_r b c (and_r a (b && c) p) }

  parts_three : Three (Small limit s) at → T (all_within limit (vector_in s at))
  unfolding all_within vector_in
  parts_three p =
      let a = within limit (widened s at) in
      let b = within limit (widened s (at + 4)) in
      let c = within limit (widened s (at + 8)) in
      and_i a (b && c) p.x (and_i b c p.y p.z)

pub record Twelve (s : List ℕ) (at : ℕ) : Type 0 where
  pub normal : Three (Small two s) at
  pub v0 : Three (Small two_to_40 s) (at + 12)
  pub v1 : Three (Small two_to_40 s) (at + 24)
  pub v2 : Three (Small two_to_40 s) (at + 36)

module _ (s : List ℕ) (at : ℕ) where
  pub twelve_parts : T (admitted_triangle (triangle_in s at)) → Twelve s at
  unfolding admitted_triangle triangle_in
  twelve_parts p =
      let a = all_within two_to_40 (vector_in s (at + 12)) in
      let b = all_within two_to_40 (vector_in s (at + 24)) in
      let c = all_within two_to_40 (vector_in s (at + 36)) in
      let d = all_within two (vector_in s at) in
      let q = and_r a (b && (c && d)) p in
      let r = and_r b (c && d) q in
      record {
        normal = three_parts two s at (and_r c d r);
        v0 = three_parts two_to_40 s (at + 12) (and_l a (b && (c && d)) p);
        v1 = three_parts two_to_40 s (at + 24) (and_l b (c && d) q);
        v2 = three_parts two_to_40 s (at + 36) (and_l c d r);
      }

  pub parts_twelve : Twelve s at → T (admitted_triangle (triangle_in s at))
  unfolding admitted_triangle triangle_in
  parts_twelve p =
      let a = all_within two_to_40 (vector_in s (at + 12)) in
      let b = all_within two_to_40 (vector_in s (at + 24)) in
      let c = all_within two_to_40 (vector_in s (at + 36)) in
      let d = all_within two (vector_in s at) in
      and_i a (b && (c && d)) (parts_three two_to_40 s (at + 12) p.v0) (and_i b (c && d) (parts_three two_to_40 s (at + 24) p.v1) (and_i c d (parts_three two_to_40 s (at + 36) p.v2) (parts_three two s at p.normal)))

-- ---- two at a time
module _ (t h l : ℕ) (is : t ≡ h * 4294967296 + l) where
  low→first : l < 4294967296 → Low t → l < 2147483648
  low→first p q = omega (arith, q.first)

  low→second : l < 4294967296 → Low t → h < 2147483648
  low→second p q = omega (arith, q.second)

  halves→low : h < 2147483648 → l < 2147483648 → Low t
  halves→low p q = record { first = omega arith; second = omega arith }

module _ (s : List ℕ) (at : ℕ) where
  abbrev Far : ℕ → Type 0
  Far k = word s k % 2147483648 + 0x2c7f_ffff < 2147483648

  far : (i k : ℕ) → i ≡ k → Far i → T (within two_to_40 (widened s k))
  far i k e p = far→within s k (subst Far e p)

  far' : (i k : ℕ) → k ≡ i → T (within two_to_40 (widened s k)) → Far i
  far' i k e p = subst Far e (within→far s k p)

  abbrev both : ℕ → ℕ → ℕ
  both h l = h * 4294967296 + l

  abbrev raised : ℕ → ℕ → ℕ → ℕ
  raised k first second = both (word s (k + 4) % 2147483648 + second) (word s k % 2147483648 + first)

  module _ (a b c d e f : ℕ) (ia : a ≡ raised at 0x3fff_ffff 0x3fff_ffff) (ib : b ≡ raised (at + 8) 0x3fff_ffff 0x2c7f_ffff) (ic : c ≡ raised (at + 16) 0x2c7f_ffff 0x2c7f_ffff)
      (id : d ≡ raised (at + 24) 0x2c7f_ffff 0x2c7f_ffff) (ie : e ≡ raised (at + 32) 0x2c7f_ffff 0x2c7f_ffff) (if' : f ≡ raised (at + 40) 0x2c7f_ffff 0x2c7f_ffff) where
    abbrev or_2 : ℕ
    or_2 = bit_or a b

    abbrev or_3 : ℕ
    or_3 = bit_or or_2 c

    abbrev or_4 : ℕ
    or_4 = bit_or or_3 d

    abbrev or_5 : ℕ
    or_5 = bit_or or_4 e

    abbrev all_six : ℕ
    all_six = bit_or or_5 f

    fits : all_six < 18446744073709551616
    fits = or_lt 64 or_5 f (or_lt 64 or_4 e (or_lt 64 or_3 d (or_lt 64 or_2 c (or_lt 64 a b (omega (arith, ia)) (omega (arith, ib))) (omega (arith, ic))) (omega (arith, id))) (omega (arith, ie))) (omega (arith, if'))

    module _ (low : Low all_six) where
      low_5 : Low or_5
      low_5 = low_left or_5 f low

      low_4 : Low or_4
      low_4 = low_left or_4 e low_5

      low_3 : Low or_3
      low_3 = low_left or_3 d low_4

      low_2 : Low or_2
      low_2 = low_left or_2 c low_3

      second_of : (t k first second : ℕ) → t ≡ raised k first second → first < 2147483648 → Low t → word s (k + 4) % 2147483648 + second < 2147483648
      second_of t k first second i p q = low→second t (word s (k + 4) % 2147483648 + second) (word s k % 2147483648 + first) i (omega arith) q

      first_of : (t k first second : ℕ) → t ≡ raised k first second → first < 2147483648 → Low t → word s k % 2147483648 + first < 2147483648
      first_of t k first second i p q = low→first t (word s (k + 4) % 2147483648 + second) (word s k % 2147483648 + first) i (omega arith) q

      twelve : Twelve s at
      twelve = record {
        normal = record {
          x = steep→within s at (first_of a at _ _ ia (lit< tt) (low_left a b low_2));
          y = steep→within s (at + 4) (second_of a at _ _ ia (lit< tt) (low_left a b low_2));
          z = steep→within s (at + 8) (first_of b (at + 8) _ _ ib (lit< tt) (low_right a b low_2));
        };
        v0 = record {
          x = far (at + 8 + 4) (at + 12) (omega arith) (second_of b (at + 8) _ _ ib (lit< tt) (low_right a b low_2));
          y = far (at + 16) (at + 12 + 4) (omega arith) (first_of c (at + 16) _ _ ic (lit< tt) (low_right or_2 c low_3));
          z = far (at + 16 + 4) (at + 12 + 8) (omega arith) (second_of c (at + 16) _ _ ic (lit< tt) (low_right or_2 c low_3));
        };
        v1 = record {
          x = far→within s (at + 24) (first_of d (at + 24) _ _ id (lit< tt) (low_right or_3 d low_4));
          y = far→within s (at + 24 + 4) (second_of d (at + 24) _ _ id (lit< tt) (low_right or_3 d low_4));
          z = far (at + 32) (at + 24 + 8) (omega arith) (first_of e (at + 32) _ _ ie (lit< tt) (low_right or_4 e low_5));
        };
        v2 = record {
          x = far (at + 32 + 4) (at + 36) (omega arith) (second_of e (at + 32) _ _ ie (lit< tt) (low_right or_4 e low_5));
          y = far (at + 40) (at + 36 + 4) (omega arith) (first_of f (at + 40) _ _ if' (lit< tt) (low_right or_5 f low));
          z = far (at + 40 + 4) (at + 36 + 8) (omega arith) (second_of f (at + 40) _ _ if' (lit< tt) (low_right or_5 f low));
        };
      }

    all_low : Twelve s at → Low all_six
    all_low p =
        low_or or_5 f (low_or or_4 e (low_or or_3 d (low_or or_2 c (low_or a b
        (halves→low a _ _ ia (within→steep s (at + 4) p.normal.y) (within→steep s at p.normal.x))
        (halves→low b _ _ ib (far' (at + 8 + 4) (at + 12) (omega arith) p.v0.x) (within→steep s (at + 8) p.normal.z)))
        (halves→low c _ _ ic (far' (at + 16 + 4) (at + 12 + 8) (omega arith) p.v0.z) (far' (at + 16) (at + 12 + 4) (omega arith) p.v0.y)))
        (halves→low d _ _ id (within→far s (at + 24 + 4) p.v1.y) (within→far s (at + 24) p.v1.x)))
        (halves→low e _ _ ie (far' (at + 32 + 4) (at + 36) (omega arith) p.v2.x) (far' (at + 32) (at + 24 + 8) (omega arith) p.v1.z)))
        (halves→low f _ _ if' (far' (at + 40 + 4) (at + 36 + 8) (omega arith) p.v2.z) (far' (at + 40) (at + 36 + 4) (omega arith) p.v2.y))

    pub admitted_is : eqb (bit_and all_six 0x8000_0000_8000_0000) 0 ≡ admitted_triangle (triangle_in s at)
    admitted_is =
        same_test _ _ (λ p. parts_twelve s at (twelve (clear→low all_six fits (eqb→eq _ 0 p)))) (λ p. eq→eqb {a = bit_and all_six 0x8000_0000_8000_0000} {b = 0} (low→clear all_six (all_low (twelve_parts s at p))))

-- the two words of a pair, by what their bytes are
pub raised_is : (s : List ℕ) (at a b first second : ℕ) → a < 4294967296 → a ≡ word s at → b ≡ word s (at + 4) → bit_and (b * 4294967296 + a) 0x7fff_ffff_7fff_ffff + (second * 4294967296 + first) ≡ raised s at at first second
raised_is s at a b first second h p q = rw (unsigned b a h, ← p, ← q) (omega arith)
