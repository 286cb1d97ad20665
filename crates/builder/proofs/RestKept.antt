-- What a tree's layout does not reach stays. Assumes nothing.
use mathlib.Core.Path.{◌≡◌, ◌∙◌}
use Prim.Native.Nat.{ℕ, ◌+◌, ◌*◌, ◌≤◌, ◌<◌}
use native.Mathlib.Omega.{arith}
use mathlib.Core.List.{List, [], ◌∷◌}
use lib.ListN.{drop}
use lib.Ieee.{Float}
use Rattle.lent.proofs.Flat.{put_rest}
use Rattle.aabb.specs.declared.bounds.Aabb.{Aabb}
use Rattle.builder.specs.Layout.{box_numbers, box_put, boxes_of, link_put, links_of}
use Rattle.tree.specs.Tree.{Tree, below, internal, leaf}

box_rest : (k : ℕ) (bs : List Float) (node : ℕ) (b : Aabb) → node * 6 + 6 ≤ k → drop k (box_put bs node b) ≡ drop k bs
unfolding box_put
box_rest k bs node b h = put_rest 6 bs node (box_numbers b) k h

link_rest : (k : ℕ) (ls : List ℕ) (node f c t : ℕ) → node * 3 + 3 ≤ k → drop k (link_put ls node f c t) ≡ drop k ls
unfolding link_put
link_rest k ls node f c t h = put_rest 3 ls node (f ∷ c ∷ t ∷ []) k h

pub boxes_rest : (k : ℕ) (t : Tree) (node next : ℕ) (bs : List Float) → node < next → (next + below t) * 6 ≤ k → drop k (boxes_of t node next bs) ≡ drop k bs
unfolding boxes_of
boxes_rest k (leaf b f c) node next bs h g = box_rest k bs node b (omega arith)
boxes_rest k (internal b l r) node next bs h g =
    boxes_rest k r (next + 1) (next + 2 + below l) (boxes_of l next (next + 2) (box_put bs node b)) (omega arith) (omega arith)
    ∙ boxes_rest k l next (next + 2) (box_put bs node b) (omega arith) (omega arith) ∙ box_rest k bs node b (omega arith)

pub links_rest : (k : ℕ) (t : Tree) (node next : ℕ) (ls : List ℕ) → node < next → (next + below t) * 3 ≤ k → drop k (links_of t node next ls) ≡ drop k ls
unfolding links_of
links_rest k (leaf b f c) node next ls h g = link_rest k ls node f c 1 (omega arith)
links_rest k (internal b l r) node next ls h g =
    links_rest k r (next + 1) (next + 2 + below l) (links_of l next (next + 2) (link_put ls node next 0 0)) (omega arith) (omega arith)
    ∙ links_rest k l next (next + 2) (link_put ls node next 0 0) (omega arith) (omega arith) ∙ link_rest k ls node next 0 0 (omega arith)
