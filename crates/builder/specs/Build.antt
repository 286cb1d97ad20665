-- What a build answers and leaves in the lent lists, on every input (rules C1, C8, C9). Definitions only.
use Rattle.std.specs.Prelude.{ℕ, zero, suc, ◌+◌, ◌*◌, ◌/◌, ◌≡◌, List, [], ◌∷◌, ◌++◌, length, drop, replicate, ltb, Float}
use Rattle.std.proofs.Math.Option.{Option, none, some}
use Rattle.float.specs.Number.{nought}
use Rattle.triangle.specs.Mesh.{first_refused, unadmitted}
use Rattle.lent.specs.Limits.{deepest}
use Rattle.lent.specs.Ladder.{Check, check, unless, triangle_count, ragged, crowded}
use Rattle.lent.specs.Permutation.{up_to}
use Rattle.tree.specs.Tree.{below, leaves}
use Rattle.builder.specs.Tree.{Grown, grow}
use Rattle.builder.specs.Layout.{boxes_of, links_of}
use Rattle.builder.specs.Reply.{Reply, served_reply, refused_reply}

-- the answer, and what the lent index list, boxes and links hold at the end
pub record Outcome : Type 0 where
  pub answer : Reply
  pub index : List ℕ
  pub boxes : List Float
  pub links : List ℕ

abbrev pub outcome : Reply → List ℕ → List Float → List ℕ → Outcome
outcome answer index boxes links = record { answer = answer; index = index; boxes = boxes; links = links }

-- Refusal 4: the most nodes that n triangles have
unfoldable pub room : ℕ → ℕ
room zero = 1
room (suc n) = 2 * n + 1

-- Rules C8 and C9: how many nodes and leaves, with the list and the nodes written and spare room as it was; or 6, and zeros in everything lent
unfoldable pub finished : ℕ → Option Grown → List ℕ → List Float → List ℕ → Outcome
finished n none index boxes links = outcome (refused_reply 6 0) (replicate (length index) 0) (replicate (length boxes) nought) (replicate (length links) 0)
finished n (some g) index boxes links = outcome (served_reply (1 + below g.tree) (leaves g.tree)) (g.ids ++ drop n index) (boxes_of g.tree 0 1 boxes) (links_of g.tree 0 1 links)

-- The ladder of a build: 1 to 5, the first that applies, and nothing is written
abbrev pub build_checks : List Float → List ℕ → List Float → List ℕ → List Check
build_checks mesh index boxes links =
    ragged mesh
    ∷ crowded mesh
    ∷ check (ltb (length index) (triangle_count mesh)) 3 0
    ∷ check (ltb (length boxes / 6) (room (triangle_count mesh))) 4 (room (triangle_count mesh))
    ∷ check (ltb (length links / 3) (room (triangle_count mesh))) 4 (room (triangle_count mesh))
    ∷ unadmitted (first_refused mesh 0 (triangle_count mesh))
    ∷ []

-- Build order: 1 to 5, then 6. Refusals 1 to 5 leave all buffers unchanged
unfoldable pub built : List Float → List ℕ → List Float → List ℕ → Outcome
built mesh index boxes links =
    unless (build_checks mesh index boxes links) (λ number at. outcome (refused_reply number at) index boxes links)
    (finished (triangle_count mesh) (grow mesh deepest 0 (up_to (triangle_count mesh))) index boxes links)

-- The rest stays: what a build that is served leaves beyond the n indices and the 2L-1 nodes that it writes
pub record RestStays (mesh : List Float) (index : List ℕ) (boxes : List Float) (links : List ℕ) (o : Outcome) : Type 0 where
  pub index_long : length o.index ≡ length index
  pub boxes_long : length o.boxes ≡ length boxes
  pub links_long : length o.links ≡ length links
  pub index_stays : drop (triangle_count mesh) o.index ≡ drop (triangle_count mesh) index
  pub boxes_stay : drop (o.answer.nodes * 6) o.boxes ≡ drop (o.answer.nodes * 6) boxes
  pub links_stay : drop (o.answer.nodes * 3) o.links ≡ drop (o.answer.nodes * 3) links
