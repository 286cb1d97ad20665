-- Text, as a list of bytes in ASCII, and what it is to write some into lent room. Definitions only.
use Rattle.std.specs.Prelude.{◌≡◌, ℕ, zero, suc, ◌+◌, ◌/◌, true, false, List, [], ◌∷◌, ◌++◌, ltb, length, take, drop}
use Rattle.io.specs.Digits.{last_digits}

-- how many decimal digits n has, where k is n or more
unfoldable pub places_of : ℕ → ℕ → ℕ
places_of zero n = 1
places_of (suc k) n = elim (ltb n 10) [ true ↦ 1 | false ↦ suc (places_of k (n / 10)) ]

-- decimal digits, without leading zeros
unfoldable pub decimal : ℕ → List ℕ
decimal n = last_digits 10 (places_of n n) n

-- sixteen hexadecimal digits, in lower case
unfoldable pub hexadecimal : ℕ → List ℕ
hexadecimal x = last_digits 16 16 x

-- the line's end
abbrev pub newline : List ℕ
newline = 10 ∷ []

-- a word and a number
unfoldable pub named : List ℕ → ℕ → List ℕ
named word n = word ++ decimal n

-- two words, a number after each, and the line's end
unfoldable pub pair : List ℕ → ℕ → List ℕ → ℕ → List ℕ
pair first a second b = named first a ++ named second b ++ newline

-- the room with a piece written from a place on; the rest stays
unfoldable pub written : List ℕ → ℕ → List ℕ → List ℕ
written room at piece = take at room ++ piece ++ drop (at + length piece) room

-- room after a piece was written into it at a place, and the next place
pub record Wrote (before : List ℕ) (at : ℕ) (piece after : List ℕ) (next : ℕ) : Type 0 where
  pub room : after ≡ written before at piece
  pub place : next ≡ at + length piece
