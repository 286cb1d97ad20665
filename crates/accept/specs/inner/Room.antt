-- What the inner functions write into the work room: nothing that is public speaks of these. Definitions only.
use Rattle.std.specs.Prelude.{ℕ, zero, suc, ◌+◌, ◌*◌, ◌-◌, ◌<◌, ◌≡◌, Bool, not, ◌&&◌, ◌||◌, cond, List, eqb, length, get_or}
use Rattle.lent.specs.Limits.{deepest}
use Rattle.tree.specs.Lent.{node_count}
use Rattle.accept.specs.Count.{tick, count}

-- ---- a node's links
abbrev pub first_at : List ℕ → ℕ → ℕ
first_at links i = get_or links (i * 3) 0

abbrev pub count_at : List ℕ → ℕ → ℕ
count_at links i = get_or links (i * 3 + 1) 0

abbrev pub kind_at : List ℕ → ℕ → ℕ
kind_at links i = get_or links (i * 3 + 2) 0

-- ---- (ii) and (iii): for each node 0, or its parent's number and one, or this where it has several
abbrev pub several : ℕ
several = 4294967295

unfoldable pub parent_at : List ℕ → ℕ → ℕ → Bool
parent_at links j i = eqb (kind_at links i) 0 && (eqb j (first_at links i) || eqb j (first_at links i + 1))

-- what stands for a node after node i turned out to be its parent
unfoldable pub adopted : ℕ → ℕ → ℕ
adopted before i = cond (eqb before 0) (i + 1) several

-- after the nodes below i
unfoldable pub named : List ℕ → ℕ → ℕ → ℕ
named links j zero = 0
named links j (suc i) = cond (parent_at links j i) (adopted (named links j i) i) (named links j i)

-- node j, told by what stands for it
unfoldable pub orphan : List ℕ → ℕ → Bool
orphan work j = cond (eqb j 0) (not (eqb (get_or work j 0) 0)) (eqb (get_or work j 0) 0 || eqb (get_or work j 0) several)

-- from node j up to 0 in so many steps
unfoldable pub climbs : List ℕ → ℕ → ℕ → Bool
climbs work zero j = eqb j 0
climbs work (suc d) j = eqb j 0 || (not (eqb (get_or work j 0) 0) && climbs work d (get_or work j 0 - 1))

unfoldable pub adrift : List ℕ → ℕ → Bool
adrift work j = not (climbs work deepest j)

-- ---- (iv): leaf i begins at a place, or ends before it
unfoldable pub begins : List ℕ → ℕ → ℕ → Bool
begins links p i = eqb (kind_at links i) 1 && eqb p (first_at links i)

unfoldable pub ends : List ℕ → ℕ → ℕ → Bool
ends links p i = eqb (kind_at links i) 1 && eqb p (first_at links i + count_at links i)

-- at a place of the list other than 0, as many begin as end; at 0 one more
unfoldable pub uneven : List ℕ → ℕ → Bool
uneven links p = not (eqb (count (begins links p) (node_count links)) (count (ends links p) (node_count links) + tick (eqb p 0)))

-- the room counts, for each place from the given one on that it has, after the nodes below i
abbrev pub Balanced : List ℕ → ℕ → List ℕ → ℕ → Type 0
Balanced links i work from =
    (k : ℕ) → k < length work → get_or work k 0 + count (ends links (from + k)) i ≡ node_count links + count (begins links (from + k)) i
