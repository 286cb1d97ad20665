-- The front of the index list is counted up and divided; then its answer, or every buffer cleared. Assumes nothing.
use mathlib.Core.Path.{◌∙◌, ap, subst}
use Prim.Native.Nat.{ℕ, ◌-◌, ◌<◌}
use native.Mathlib.Omega.{arith}
use mathlib.Core.List.{List, ◌++◌}
use lib.ListN.{length, drop, replicate}
use lib.Ieee.{Float}
use borrow.Rule.Slice.PartMut.{post_of}
use Rattle.float.specs.Number.{nought}
use Rattle.lent.specs.Permutation.{up_to}
use Rattle.lent.specs.Permutation.{occ}
use Rattle.builder.specs.Reply.{reply}
use Rattle.builder.specs.Layout.{Divided}
use Rattle.lent.specs.Limits.{deepest}
use Rattle.builder.specs.Tree.{grow}
use Rattle.lent.proofs.Permutation.{up_below}
use Rattle.builder.proofs.Returns.{c_length, front_length_is, lent_again, made_deep, made_done, rest_again, twice_length}
use Rattle.builder.proofs.make.Goals as goal

pub subdivide-requires : goal.subdivide-requires
subdivide-requires c =
    let a = c.args in
    let u = c.count_up in
    let le = c.requires.n_le_most_triangles.1 in
    let part = ap length (lent_again a.index.now u.new.index a.n le u.auto.index) ∙ c_length a.index.now u.new.index a.n le u.auto.index in
    let counted = lent_again a.index.now u.new.index a.n le u.auto.index ∙ u.ensures ∙ ap up_to (front_length_is a.index.now u.new.index a.n le u.auto.index) in record {
      numbered = λ v i. let o = up_below a.n v (subst (λ (l : List ℕ). 0 < occ v l) counted i) in omega (arith, o, c.requires.n_in_bounds);
      index_bound = (omega (arith, part, c.requires.n_le_most_triangles), omega (arith, part, c.requires.n_le_most_triangles), omega (arith, part, c.requires.n_le_most_triangles));
      index_in_bounds = (omega (arith, part, c.requires.n_le_most_triangles), omega (arith, part, c.requires.n_le_most_triangles));
    }

pub shape_of-index-in_default : goal.shape_of-index-in_default
shape_of-index-in_default c =
    let a = c.args in
    let u = c.count_up in
    let d = c.subdivide in
    c.fill.auto.self ∙ twice_length a.index.now u.new.index a.n c.requires.n_le_most_triangles.1 u.auto.index d.new.index d.auto.index

pub shape_of-boxes-in_default : goal.shape_of-boxes-in_default
shape_of-boxes-in_default c = c.clear_floats.auto.s ∙ c.subdivide.auto.boxes

pub shape_of-links-in_default : goal.shape_of-links-in_default
shape_of-links-in_default c = c.fill-in_default.auto.self ∙ c.subdivide.auto.links

pub returns-in_default : goal.returns-in_default
unfolding reply
returns-in_default c =
    let a = c.args in
    let u = c.count_up in
    let d = c.subdivide in
    let le = c.requires.n_le_most_triangles.1 in
    let lent = lent_again a.index.now u.new.index a.n le u.auto.index ∙ u.ensures ∙ ap up_to (front_length_is a.index.now u.new.index a.n le u.auto.index) in
    let laid = subst (λ (z : List ℕ). Divided (grow a.triangles.now deepest 0 z) 0 1 a.boxes.now a.links.now d.result d.new.index d.new.boxes d.new.links) lent d.ensures in
    let x = c.fill in
    let y = c.clear_floats in
    let z = c.fill-in_default in
    made_deep a.n (grow a.triangles.now deepest 0 (up_to a.n)) d.result a.index.now d.new.index x.new.self a.boxes.now d.new.boxes y.new.s a.links.now d.new.links z.new.self laid c.in_default.is
    (x.ensures.after (λ v e. e) ∙ ap (λ (k : ℕ). replicate {A = ℕ} k 0) (twice_length a.index.now u.new.index a.n le u.auto.index d.new.index d.auto.index))
    (y.ensures ∙ ap (λ (k : ℕ). replicate {A = Float} k nought) d.auto.boxes)
    (z.ensures.after (λ v e. e) ∙ ap (λ (k : ℕ). replicate {A = ℕ} k 0) d.auto.links)

pub shape_of-index : goal.shape_of-index
shape_of-index c =
    let a = c.args in
    let u = c.count_up in
    let d = c.subdivide in
    twice_length a.index.now u.new.index a.n c.requires.n_le_most_triangles.1 u.auto.index d.new.index d.auto.index

pub shape_of-boxes : goal.shape_of-boxes
shape_of-boxes c = c.subdivide.auto.boxes

pub shape_of-links : goal.shape_of-links
shape_of-links c = c.subdivide.auto.links

pub returns : goal.returns
unfolding reply
returns c =
    let a = c.args in
    let u = c.count_up in
    let d = c.subdivide in
    let le = c.requires.n_le_most_triangles.1 in
    let lent = lent_again a.index.now u.new.index a.n le u.auto.index ∙ u.ensures ∙ ap up_to (front_length_is a.index.now u.new.index a.n le u.auto.index) in
    let laid = subst (λ (z : List ℕ). Divided (grow a.triangles.now deepest 0 z) 0 1 a.boxes.now a.links.now d.result d.new.index d.new.boxes d.new.links) lent d.ensures in
    made_done a.n c.in-Some.nodes (grow a.triangles.now deepest 0 (up_to a.n)) d.result a.index.now d.new.index (d.new.index ++ drop (a.n - 0) (u.new.index ++ post_of 0 (a.n - 0) a.index.now)) a.boxes.now d.new.boxes a.links.now d.new.links laid c.in-Some.is
    (ap (λ (z : List ℕ). d.new.index ++ z) (rest_again a.index.now u.new.index a.n le u.auto.index))
