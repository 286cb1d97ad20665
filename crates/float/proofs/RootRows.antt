-- `root` at some numbers, by computing it: the patterns of the hardware's root. Assumes nothing.
use mathlib.Core.Path.{◌≡◌, refl}
use mathlib.Core.List.{List, [], ◌∷◌}
use Prim.Native.Nat.{ℕ}
use lib.Ieee.{binary64, size, units, odd, of_bits, to_bits}
use Rattle.float.specs.Root.{digits, nearest_root, root_of, root}

-- a number's pattern, and its root's
record Row : Type 0 where
  of : ℕ
  is : ℕ

abbrev row : ℕ → ℕ → Row
row a b = record { of = a; is = b }

abbrev rows : List Row
rows =
    -- 0
    row 0x0000_0000_0000_0000 0x0000_0000_0000_0000 ∷
    -- -0
    row 0x8000_0000_0000_0000 0x8000_0000_0000_0000 ∷
    -- 1
    row 0x3ff0_0000_0000_0000 0x3ff0_0000_0000_0000 ∷
    -- 2
    row 0x4000_0000_0000_0000 0x3ff6_a09e_667f_3bcd ∷
    -- 3
    row 0x4008_0000_0000_0000 0x3ffb_b67a_e858_4caa ∷
    -- 4
    row 0x4010_0000_0000_0000 0x4000_0000_0000_0000 ∷
    -- 0.1
    row 0x3fb9_9999_9999_999a 0x3fd4_3d13_6248_490f ∷
    -- 1e-12
    row 0x3d71_9799_812d_ea11 0x3eb0_c6f7_a0b5_ed8d ∷
    -- the number after 1
    row 0x3ff0_0000_0000_0001 0x3ff0_0000_0000_0000 ∷
    -- the number before 1
    row 0x3fef_ffff_ffff_ffff 0x3fef_ffff_ffff_ffff ∷
    -- the number before 4
    row 0x400f_ffff_ffff_ffff 0x3fff_ffff_ffff_ffff ∷
    -- (2^26 + 1)²
    row 0x4330_0000_0800_0001 0x4190_0000_0400_0000 ∷
    -- the number after it
    row 0x4330_0000_0800_0002 0x4190_0000_0400_0000 ∷
    -- the largest
    row 0x7fef_ffff_ffff_ffff 0x5fef_ffff_ffff_ffff ∷
    -- the least normal
    row 0x0010_0000_0000_0000 0x2000_0000_0000_0000 ∷
    -- the largest subnormal
    row 0x000f_ffff_ffff_ffff 0x1fff_ffff_ffff_ffff ∷
    -- the least
    row 0x0000_0000_0000_0001 0x1e60_0000_0000_0000 ∷
    -- three times it
    row 0x0000_0000_0000_0003 0x1e6b_b67a_e858_4caa ∷
    -- +inf
    row 0x7ff0_0000_0000_0000 0x7ff0_0000_0000_0000 ∷
    -- -inf
    row 0xfff0_0000_0000_0000 0x7ff8_0000_0000_0000 ∷
    -- -1
    row 0xbff0_0000_0000_0000 0x7ff8_0000_0000_0000 ∷
    -- -2^-1074
    row 0x8000_0000_0000_0001 0x7ff8_0000_0000_0000 ∷
    -- a NaN
    row 0x7ff8_0000_0000_0000 0x7ff8_0000_0000_0000 ∷
    []

abbrev worked : List Row → List Row
worked [] = []
worked (r ∷ rs) = row r.of (to_bits binary64 (root (of_bits binary64 r.of))) ∷ worked rs

holds : worked rows ≡ rows
unfolding to_bits of_bits root root_of nearest_root digits size units odd
holds = refl
