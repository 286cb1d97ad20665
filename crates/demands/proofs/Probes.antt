-- P1 to P12 hold of the rules: one test, computed over the whole table, and one law that turns it into the claim of every row. Assumes nothing.
use mathlib.Core.Bool.{Bool, true, ◌&&◌}
use mathlib.Core.List.{List, [], ◌∷◌}
use lib.Dec.{T}
use lib.Ieee.{is_nan, lt, le, eq, add, sub, mul, div, neg, of_bits, of_int, sum, round, units, odd, size, span, climb}
use lib.Ieee.Fits.{and_l, and_r}
use lib.Count.{count_trailing_zeros}
use Rattle.lent.specs.Lowest.{lowest}
use Rattle.lent.specs.Ladder.{unless, first_failed, answered}
use Rattle.lent.specs.Flat.{put}
use Rattle.float.specs.Pick.{lesser, greater}
use Rattle.aabb.specs.Vector.{plus, minus as aabb_minus, negated, scaled, divided, least, greatest, dot, minor, cross, along, within, all_within, all_at_most, all_equal, vector_at, point_at, admitted_ray}
use Rattle.aabb.specs.Bounds.{empty_box, grown, union, of_three, extent, area_of, area, bounded, is_empty, usable, box_at}
use Rattle.aabb.specs.Slab.{sighted, aimed, sight_on, reach, first, second, parallel, unless_later, clipped, narrowed, and_then, ahead, on_axis, through_from, through, slab}
use Rattle.triangle.specs.Mesh.{triangle_at, corners_of, bounds_of, centroid_of, admitted_triangle, bounds_at, centroid_at, first_refused, unadmitted}
use Rattle.triangle.specs.Meeting.{edge1, edge2, pvec, det, inv_det, tvec, qvec, u_of, v_of, t_of, judged, distance_to, distance, faces, hit_at}
use Rattle.builder.specs.Range.{box_from, node_box, centroids_from, centroid_box}
use Rattle.builder.specs.Bins.{no_bin, with_box, join_bins, bin_of, bin_for, filled, suffix_of}
use Rattle.builder.specs.Choice.{weight, cost_of, better_of, sweep_from, try_axis, leaf_cost, best_of_axes, chosen, best_split}
use Rattle.builder.specs.Partition.{moves, keeps_left, parted}
use Rattle.builder.specs.Fallback.{under_at, sorts_before, insert, sorted, ordered, settled, separated}
use Rattle.builder.specs.Tree.{joined, decision, leaf_of, grow}
use Rattle.builder.specs.Layout.{box_put, link_put, boxes_of, links_of}
use Rattle.lent.specs.Permutation.{up_to}
use Rattle.builder.specs.Build.{room, finished, built}
use Rattle.lent.specs.Ladder.{triangle_count}
use Rattle.tree.specs.Node.{linked, node_at, sound, left_of, right_of}
use Rattle.walk.specs.Steps.{and_then as walk_then, entries, leaf_by, internal_by, step_by, steps}
use Rattle.walk.specs.Walk.{boxed, replaces, nearer, after, tested, hit_of, over, triangle_entry, run, walk}
use Rattle.tree.specs.Node.{misfit}
use Rattle.demands.specs.Handed.{handed_as, handed}
use Rattle.demands.specs.Probes.{Probe, slabbed, slabbed_root, split, grown as built_row, walked, walked_in, Claim, All, built_whole, root_box, probes}
use Rattle.demands.proofs.Same.{same_span, span_is, same_split, split_is, same_outcome, outcome_is, same_told, told_is}

abbrev holds : Probe → Bool
holds (slabbed r b s) = same_span (slab r b) s
holds (slabbed_root mesh r s) = same_span (slab r (root_box mesh)) s
holds (split mesh d) = same_split (decision mesh (up_to (triangle_count mesh))) d
holds (built_row mesh o) = same_outcome (built_whole mesh) o
holds (walked mesh materials r t) = same_told (walk (handed mesh materials (built_whole mesh)) r) t
holds (walked_in s r t) = same_told (walk s r) t

abbrev all_hold : List Probe → Bool
all_hold [] = true
all_hold (p ∷ ps) = holds p && all_hold ps

claim : (p : Probe) → T (holds p) → Claim p
claim (slabbed r b s) h = span_is (slab r b) s h
claim (slabbed_root mesh r s) h = span_is (slab r (root_box mesh)) s h
claim (split mesh d) h = split_is (decision mesh (up_to (triangle_count mesh))) d h
claim (built_row mesh o) h = outcome_is (built_whole mesh) o h
claim (walked mesh materials r t) h = told_is (walk (handed mesh materials (built_whole mesh)) r) t h
claim (walked_in s r t) h = told_is (walk s r) t h

claims : (ps : List Probe) → T (all_hold ps) → All ps
claims [] h = tt
claims (p ∷ ps) h = (claim p (and_l (holds p) (all_hold ps) h), claims ps (and_r (holds p) (all_hold ps) h))

-- the test, computed over the whole table
table : T (all_hold probes)
unfolding probes handed_as handed built_whole root_box lesser greater plus aabb_minus negated scaled divided least greatest dot minor cross along within all_within all_at_most all_equal vector_at point_at admitted_ray empty_box grown union of_three extent area_of area bounded is_empty usable box_at sighted aimed sight_on reach first second parallel unless_later clipped narrowed and_then ahead on_axis through_from through slab triangle_at corners_of bounds_of centroid_of admitted_triangle bounds_at centroid_at edge1 edge2 pvec det inv_det tvec qvec u_of v_of t_of judged distance_to distance faces hit_at box_from node_box centroids_from centroid_box no_bin with_box join_bins bin_of bin_for filled suffix_of weight cost_of better_of sweep_from try_axis leaf_cost best_of_axes chosen best_split moves keeps_left parted under_at sorts_before insert sorted ordered settled separated joined decision leaf_of grow put box_put link_put boxes_of links_of up_to room lowest first_refused unadmitted finished built linked node_at sound left_of right_of boxed replaces nearer after tested hit_of over run misfit walk unless first_failed answered is_nan lt le eq add sub mul div neg of_bits of_int sum round units odd size span climb count_trailing_zeros walk_then entries leaf_by internal_by step_by steps triangle_entry
table = tt

-- P1 to P13
pub probes_hold : All probes
probes_hold = claims probes table
