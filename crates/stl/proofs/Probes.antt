-- Worked examples: bytes and the numbers that they stand for, both ways. Assumes nothing.
use mathlib.Core.Path.{◌≡◌, refl}
use Prim.Native.Nat.{ℕ}
use mathlib.Core.Bool.{true, false}
use mathlib.Core.List.{List, [], ◌∷◌}
use lib.IntN.{pos, negsuc}
use lib.Ieee.{Float, nan, fin, of_bits, to_bits, fits, is_nan}
use Rattle.float.specs.Single.{exactly32}
use Rattle.stl.specs.Layout.{word, bytes_of, widened, narrowed}

-- four bytes, the number, and whether the number is exactly a binary32
pub record Row : Type 0 where
  pub bytes : List ℕ
  pub number : Float

abbrev row : ℕ → ℕ → ℕ → ℕ → Float → Row
row a b c d x = record { bytes = a ∷ (b ∷ (c ∷ (d ∷ []))); number = x }

abbrev Claim : Row → Type 0
Claim r = (widened r.bytes 0 ≡ r.number) × (narrowed r.number ≡ r.bytes) × (exactly32 r.number ≡ true)

-- +0, -0, 1, -2, 2^40, the smallest above 0 (2^-149), the largest below the normal ones
abbrev rows : List Row
rows =
    row 0 0 0 0 (fin false 0 (pos 0))
    ∷ (row 0 0 0 128 (fin true 0 (pos 0))
    ∷ (row 0 0 128 63 (fin false 1 (pos 0))
    ∷ (row 0 0 0 192 (fin true 1 (pos 1))
    ∷ (row 0 0 128 83 (fin false 1 (pos 40))
    ∷ (row 1 0 0 0 (fin false 1 (negsuc 148))
    ∷ (row 255 255 127 0 (fin false 8388607 (negsuc 148))
    ∷ []))))))

abbrev All : List Row → Type 0
All [] = Unit {0}
All (r ∷ rs) = Claim r × All rs

pub probes : All rows
unfolding widened word narrowed bytes_of exactly32 of_bits to_bits fits is_nan
probes = ((refl, refl, refl), ((refl, refl, refl), ((refl, refl, refl), ((refl, refl, refl), ((refl, refl, refl), ((refl, refl, refl), ((refl, refl, refl), tt)))))))

-- a NaN's pattern becomes the NaN; 2^-150 and 1 + 2^-24 are no binary32
pub nan_bytes : widened (0 ∷ (0 ∷ (192 ∷ (255 ∷ [])))) 0 ≡ nan
unfolding widened word of_bits
nan_bytes = refl

pub too_small : exactly32 (fin false 1 (negsuc 149)) ≡ false
unfolding exactly32 fits is_nan
too_small = refl

pub too_long : exactly32 (fin false 16777217 (negsuc 23)) ≡ false
unfolding exactly32 fits is_nan
too_long = refl
