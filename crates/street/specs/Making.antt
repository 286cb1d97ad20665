-- What making a street answers and leaves in every lent list, on every input (rules H1, H2, H7). Definitions only.
use Rattle.std.specs.Prelude.{ℕ, ◌*◌, ◌/◌, ◌%◌, Bool, true, false, not, ◌&&◌, List, [], ◌∷◌, ◌++◌, length, drop, replicate, ltb, eqb, Option, Some, None, Float}
use Rattle.lent.specs.Limits.{most_placements}
use Rattle.lent.specs.Ladder.{Refusal, none, numbered, Check, check, unless}
use Rattle.lent.specs.Flat.{records}
use Rattle.lent.specs.Lowest.{lowest as first}
use Rattle.float.specs.Number.{nought}
use Rattle.aabb.specs.declared.bounds.Aabb.{Aabb}
use Rattle.aabb.specs.Bounds.{bounded, box_at}
use Rattle.triangle.specs.Mesh.{triangle_numbers}
use Rattle.builder.specs.Reply.{refused_reply}
use Rattle.builder.specs.Build.{Outcome as Build, outcome as top, built, room}
use Rattle.street.specs.Rows.{matrix_at, good_matrix}
use Rattle.street.specs.Placing.{world_at, proxy_of}

-- ---- the placements
-- Rule H1: sixteen numbers each
abbrev pub placement_count : List Float → ℕ
placement_count matrices = length matrices / 16

-- Rule H2: the matrix of placement i and its inverse are both good
unfoldable pub good_at : List Float → List Float → ℕ → Bool
good_at matrices inverses i = good_matrix (matrix_at matrices i) && good_matrix (matrix_at inverses i)

-- the lowest of k placements from i on that does not stand a test
abbrev pub lowest : (ℕ → Bool) → ℕ → ℕ → Option ℕ
lowest stands i k = first (λ p. not (stands p)) i k

-- a check that names that placement
unfoldable pub misplaced : ℕ → Option ℕ → Check
misplaced number (Some i) = check true number i
misplaced number None = check false number 0

-- Refusals 23 and 24, with which making and walking begin: the lists alike in length, in sixteens, not too many; every matrix good
abbrev pub placement_checks : List Float → List Float → List Check
placement_checks matrices inverses =
    check (not (eqb (length matrices) (length inverses))) 23 0
    ∷ check (not (eqb (length matrices % 16) 0)) 23 0
    ∷ check (ltb most_placements (placement_count matrices)) 23 0
    ∷ misplaced 24 (lowest (good_at matrices inverses) 0 (placement_count matrices))
    ∷ []

-- ---- the top tree
-- Refusal 26: whether the world box of placement i is finite and usable
unfoldable pub near_at : List Float → Aabb → ℕ → Bool
near_at matrices root i = bounded (world_at matrices root i)

-- Rule H6: the proxy of placement i, twelve numbers
abbrev pub proxy_numbers : List Float → Aabb → ℕ → List Float
proxy_numbers matrices root i = triangle_numbers (proxy_of (world_at matrices root i))

-- Rule H6: the proxies of all placements
unfoldable pub proxies : List Float → Aabb → List Float
proxies matrices root = records (proxy_numbers matrices root) (placement_count matrices)

-- the answer of the build, what it leaves in index list, boxes and links, and what the proxy room holds at the end
pub record Outcome : Type 0 where
  pub tree : Build
  pub room : List Float

abbrev pub outcome : Build → List Float → Outcome
outcome t r = record { tree = t; room = r }

-- Rule H7: the proxies, and room beyond them stays; or, where the tree of them is too deep (6), zeros
unfoldable pub room_after : Refusal → List Float → List Float → List Float
room_after none made before = made ++ drop (length made) before
room_after (numbered number at) made before = replicate (length before) nought

-- Rule H7: the tree of the proxies, as a build of them leaves it
unfoldable pub raised : List Float → List Float → List ℕ → List Float → List ℕ → Outcome
raised made before index boxes links = let t = built made index boxes links in outcome t (room_after t.answer.refusal made before)

-- Refusals 25, 26, 16, 3 and 4
abbrev pub room_checks : List Float → Aabb → List Float → List ℕ → List Float → List ℕ → List Check
room_checks matrices root before index boxes links =
    check (not (bounded root)) 25 0
    ∷ misplaced 26 (lowest (near_at matrices root) 0 (placement_count matrices))
    ∷ check (ltb (length before) (placement_count matrices * 12)) 16 0
    ∷ check (ltb (length index) (placement_count matrices)) 3 0
    ∷ check (ltb (length boxes / 6) (room (placement_count matrices))) 4 (room (placement_count matrices))
    ∷ check (ltb (length links / 3) (room (placement_count matrices))) 4 (room (placement_count matrices))
    ∷ []

-- Making refuses in this order: 23, 24, 25, 26, 16, 3, 4, none of which writes; then 6
unfoldable pub made_over : List Float → List Float → Aabb → List Float → List ℕ → List Float → List ℕ → Outcome
made_over matrices inverses root before index boxes links =
    unless (placement_checks matrices inverses ++ room_checks matrices root before index boxes links)
    (λ number at. outcome (top (refused_reply number at) index boxes links) before)
    (raised (proxies matrices root) before index boxes links)

-- Rule H7: the root box is the first of the house's boxes. (Where there is none its numbers are NaNs, so it is not bounded)
unfoldable pub made : List Float → List Float → List Float → List Float → List ℕ → List Float → List ℕ → Outcome
made matrices inverses house before index boxes links = made_over matrices inverses (box_at house 0) before index boxes links
