-- Every tree that `build` serves is accepted, and every tree that is accepted promises what a built one does: of the call's own answer. Assumes nothing.
use mathlib.Core.Path.{◌≡◌, sym, subst}
use mathlib.Core.List.{List, []}
use Prim.Native.Nat.{ℕ}
use lib.ListN.{length}
use lib.Ieee.{Float}
use Rattle.builder.specs.Reply.{served_reply}
use Rattle.builder.specs.Build.{built}
use Rattle.lent.specs.Ladder.{triangle_count}
use Rattle.tree.specs.Lent.{Lent, Labelled, lent, node_count}
use Rattle.tree.specs.Tree.{Tree, leaves}
use Rattle.tree.specs.Accepted.{Accepted}
use Rattle.accept.specs.Accept.{fine}
use Rattle.accept.specs.Conditions.{foreign}
use Rattle.accept.proofs.accept.Reads as accept_call
use Rattle.trusted.specs.Meets.{Roomy}
use Rattle.trusted.specs.Exactly.{Gives, Trusted}
use Rattle.trusted.proofs.Exactly.{accept_exactly}
use Rattle.demands.specs.Handed.{handed}
use Rattle.demands.specs.Demand.{Signed}
use Rattle.demands.specs.Materials.{with_materials}
use Rattle.demands.specs.Accepted.{SignedAlike}
use Rattle.demands.proofs.Demand.{signed_tree, built_tree}
use Rattle.demands.proofs.Sky.{signed_sky}

-- rule G2 speaks of no material
pub relabelled : (s : Lent) (t : Tree) (materials : List ℕ) → Accepted s t → Accepted (with_materials s materials) t
relabelled s t materials A =
    let w = A.walkable in
    record {
      walkable = record {
        whole = w.whole;
        few = w.few;
        fitted = w.fitted;
        one_each = w.one_each;
        entries = w.entries;
        admitted = w.admitted;
        holds = w.holds;
        sized = w.sized;
        shallow = w.shallow;
        nested = w.nested;
        covers = w.covers;
      };
      finite = A.finite;
      occupied = A.occupied;
      bare = A.bare;
      once = A.once;
      root = A.root;
      all_nodes = A.all_nodes;
      apart = A.apart;
      permuted = A.permuted;
      snug = A.snug;
    }

alike : (s : Lent) (t : Tree) → Accepted s t → Labelled s.mesh → SignedAlike s
alike s t A M =
    let w : Signed s (node_count s.tree.links) (leaves t) = subst (λ (n : ℕ). Signed s n (leaves t)) (sym A.all_nodes) (signed_tree s t A M) in
    record { leaf_count = leaves t; signed = w; sky_signed = λ rays times told. signed_sky s (node_count s.tree.links) (leaves t) rays times told w M }

-- Rule G8: a tree that is accepted, with any list of one material for each triangle
pub accepted_signed : Gives accept_call.Post (λ κs x r e. r ≡ fine → (materials : List ℕ) → length materials ≡ triangle_count x.0.now
    → SignedAlike (lent x.0.now materials x.1.0.now.index x.1.0.now.boxes x.1.0.now.links))
accepted_signed κs x r e p f materials M =
    let h = (accept_exactly κs x r e p).holds_tree f in
    alike _ h.tree (relabelled _ h.tree materials h.accepted) M

-- Rule G8: a tree that was built, handed over as its 2L-1 nodes and n entries, the empty mesh's too, with room for one number a node and a triangle
pub built_accepted : (mesh : List Float) (index : List ℕ) (boxes : List Float) (links : List ℕ) (nodes leaf_count : ℕ)
    → (built mesh index boxes links).answer ≡ served_reply nodes leaf_count
    → Gives accept_call.Post (λ κs x r e. handed mesh [] (built mesh index boxes links) ≡ foreign x.0.now x.1.0.now.index x.1.0.now.boxes x.1.0.now.links
    → Roomy (handed mesh [] (built mesh index boxes links)) x.1.1.0.now → r ≡ fine)
built_accepted mesh index boxes links nodes leaf_count e κs x r o p same room =
    (accept_exactly κs x r o p).tree_held (subst Trusted same (built_tree mesh [] index boxes links nodes leaf_count e))
    (subst (λ (s : Lent). Roomy s x.1.1.0.now) same room)
