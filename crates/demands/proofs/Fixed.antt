-- Each public call's promise fixes its answer and the final content of everything lent: any two that it allows for the same arguments are equal. Said of the promise itself,
-- so that a weaker one would not do. Assumes nothing.
use Prim.Native.Nat.{ℕ}
use native.Mathlib.Omega.{arith}
use mathlib.Core.Path.{◌≡◌, sym, ◌∙◌, ap}
use mathlib.Core.List.{List}
use lib.Ieee.{Float}
use Rattle.lent.specs.Fixed.{Fixes, FixesAll}
use Rattle.lent.proofs.Fixed.{fixed}
use Rattle.std.specs.Prelude.{Result}
use Rattle.lent.specs.Refusals.{refusal_of}
use Rattle.lent.specs.declared.refusal.Refused.{Refused as Why}
use Rattle.lent.proofs.Refusals.{refused_is, count_is}
use Rattle.triangle.specs.Refilled.{Outcome as Refilling, outcome as refilling}
use Rattle.builder.specs.declared.Built.{Built}
use Rattle.builder.specs.Reply.{reply}
use Rattle.builder.specs.Build.{Outcome, outcome}
use Rattle.walk.specs.declared.Answer.{Answer}
use Rattle.walk.specs.declared.Answer.TheVariants.{Struck, Missed, Refused}
use Rattle.walk.specs.Answer.{Told, told}
use Rattle.accept.specs.Accept.{Verdict, ruling, Outcome as Judging, outcome as judging}
use Rattle.sky.specs.Sky.{Filling, filling}
use Rattle.street.specs.Making.{Outcome as Making, outcome as making}
use Rattle.watts.specs.declared.Report.{Report}
use Rattle.watts.specs.Watts.{counted, Outcome as Weighing, outcome as weighing}
use Rattle.stl.specs.Answers.{told as stl_told, Read, read_as, Written, written_as}
use Rattle.demands.proofs.Answers.{refill_told, sky_told, build_told, accept_told, counted_told, stl_told_lem}
use Rattle.float.proofs.infinity.Reads as float_infinity
use Rattle.float.proofs.magnitude.Reads as float_magnitude
use Rattle.float.proofs.lesser.Reads as float_lesser
use Rattle.float.proofs.greater.Reads as float_greater
use Rattle.float.proofs.lower.Reads as float_lower
use Rattle.float.proofs.higher.Reads as float_higher
use Rattle.float.proofs.minus_zero.Reads as float_minus_zero
use Rattle.float.proofs.less_number.Reads as float_less_number
use Rattle.float.proofs.total_less.Reads as float_total_less
use Rattle.float.proofs.bits.Reads as float_bits
use Rattle.float.proofs.from_bits.Reads as float_from_bits
use Rattle.float.proofs.root.Reads as float_root
use Rattle.float.proofs.is_single.Reads as float_is_single
use Rattle.aabb.proofs.vector.Vec3.plus.Reads as vec3_plus
use Rattle.aabb.proofs.vector.Vec3.minus.Reads as vec3_minus
use Rattle.aabb.proofs.vector.Vec3.negated.Reads as vec3_negated
use Rattle.aabb.proofs.vector.Vec3.scaled.Reads as vec3_scaled
use Rattle.aabb.proofs.vector.Vec3.divided.Reads as vec3_divided
use Rattle.aabb.proofs.vector.Vec3.dot.Reads as vec3_dot
use Rattle.aabb.proofs.vector.Vec3.cross.Reads as vec3_cross
use Rattle.aabb.proofs.vector.Vec3.least.Reads as vec3_least
use Rattle.aabb.proofs.vector.Vec3.greatest.Reads as vec3_greatest
use Rattle.aabb.proofs.vector.Vec3.lowest.Reads as vec3_lowest
use Rattle.aabb.proofs.vector.Vec3.highest.Reads as vec3_highest
use Rattle.aabb.proofs.vector.Vec3.along.Reads as vec3_along
use Rattle.aabb.proofs.vector.Vec3.within.Reads as vec3_within
use Rattle.aabb.proofs.vector.Vec3.at_most.Reads as vec3_at_most
use Rattle.aabb.proofs.vector.Vec3.all_equal.Reads as vec3_all_equal
use Rattle.aabb.proofs.vector.Vec3.read.Reads as vec3_read
use Rattle.aabb.proofs.vector.place.Reads as aabb_place
use Rattle.aabb.proofs.vector.Ray.read.Reads as ray_read
use Rattle.aabb.proofs.vector.Ray.at.Reads as ray_at
use Rattle.aabb.proofs.vector.Ray.admitted.Reads as ray_admitted
use Rattle.aabb.proofs.bounds.Aabb.empty.Reads as aabb_empty
use Rattle.aabb.proofs.bounds.Aabb.from_points.Reads as aabb_from_points
use Rattle.aabb.proofs.bounds.Aabb.grow.Reads as aabb_grow
use Rattle.aabb.proofs.bounds.Aabb.union.Reads as aabb_union
use Rattle.aabb.proofs.bounds.Aabb.widened.Reads as aabb_widened
use Rattle.aabb.proofs.bounds.Aabb.joined.Reads as aabb_joined
use Rattle.aabb.proofs.bounds.Aabb.center.Reads as aabb_center
use Rattle.aabb.proofs.bounds.Aabb.extent.Reads as aabb_extent
use Rattle.aabb.proofs.bounds.Aabb.surface_area.Reads as aabb_surface_area
use Rattle.aabb.proofs.bounds.Aabb.bounded.Reads as aabb_bounded
use Rattle.aabb.proofs.bounds.Aabb.is_empty.Reads as aabb_is_empty
use Rattle.aabb.proofs.bounds.Aabb.usable.Reads as aabb_usable
use Rattle.aabb.proofs.bounds.Aabb.contains.Reads as aabb_contains
use Rattle.aabb.proofs.bounds.Aabb.holds.Reads as aabb_holds
use Rattle.aabb.proofs.bounds.Aabb.read.Reads as aabb_read
use Rattle.aabb.proofs.bounds.Aabb.intersect_ray.Reads as aabb_intersect_ray
use Rattle.aabb.proofs.slab.Sight.of.Reads as sight_of
use Rattle.aabb.proofs.slab.Aim.of.Reads as aim_of
use Rattle.aabb.proofs.slab.Aim.through.Reads as aim_through
use Rattle.triangle.proofs.Triangle.read.Reads as triangle_read
use Rattle.triangle.proofs.Triangle.aabb.Reads as triangle_aabb
use Rattle.triangle.proofs.Triangle.corners.Reads as triangle_corners
use Rattle.triangle.proofs.Triangle.centroid.Reads as triangle_centroid
use Rattle.triangle.proofs.Triangle.admitted.Reads as triangle_admitted
use Rattle.triangle.proofs.Triangle.distance.Reads as triangle_distance
use Rattle.triangle.proofs.Triangle.hit.Reads as triangle_hit
use Rattle.triangle.proofs.Triangle.intersect.Reads as triangle_intersect
use Rattle.triangle.proofs.Triangle.new.Reads as triangle_new
use Rattle.triangle.proofs.Corners.read.Reads as corners_read
use Rattle.triangle.proofs.Corners.centroid.Reads as corners_centroid
use Rattle.triangle.proofs.Corners.crossing.Reads as corners_crossing
use Rattle.triangle.proofs.Corners.distance.Reads as corners_distance
use Rattle.triangle.proofs.Crossing.distance.Reads as crossing_distance
use Rattle.triangle.proofs.admitted_at.Reads as triangle_admitted_at
use Rattle.triangle.proofs.first_refused.Reads as triangle_first_refused
use Rattle.triangle.proofs.count.Reads as triangle_count
use Rattle.tree.proofs.lists.Mesh.count.Reads as mesh_count
use Rattle.tree.proofs.lists.Lent.new.Reads as lent_new
use Rattle.lent.proofs.refusal.Reason.number.Reads as reason_number
use Rattle.accept.proofs.rejection.Condition.number.Reads as condition_number
use Rattle.tree.proofs.Node.read.Reads as node_read
use Rattle.tree.proofs.Node.sound.Reads as node_sound
use Rattle.tree.proofs.Node.left.Reads as node_left
use Rattle.tree.proofs.Node.right.Reads as node_right
use Rattle.tree.proofs.misfit.Reads as tree_misfit
use Rattle.tree.proofs.word.Reads as tree_word
use Rattle.triangle.proofs.refill_normals.Reads as triangle_refill_normals
use Rattle.builder.proofs.build.Reads as builder_build
use Rattle.builder.proofs.room.Reads as builder_room
use Rattle.builder.proofs.clear_floats.Reads as builder_clear_floats
use Rattle.walk.proofs.walk.Reads as walk_walk
use Rattle.sky.proofs.judge.Reads as sky_judge
use Rattle.sky.proofs.sky.Reads as sky_sky
use Rattle.street.proofs.rows.Matrix.read.Reads as matrix_read
use Rattle.street.proofs.rows.Matrix.good.Reads as matrix_good
use Rattle.street.proofs.rows.Matrix.point.Reads as matrix_point
use Rattle.street.proofs.rows.Matrix.direction.Reads as matrix_direction
use Rattle.street.proofs.rows.Matrix.normal.Reads as matrix_normal
use Rattle.street.proofs.rows.Matrix.transform_ray.Reads as matrix_transform_ray
use Rattle.street.proofs.rows.length.Reads as rows_length
use Rattle.street.proofs.make.Reads as street_make
use Rattle.watts.proofs.share.Reads as watts_share
use Rattle.watts.proofs.watts.Reads as watts_watts
use Rattle.accept.proofs.accept.Reads as accept_accept
use Rattle.stl.proofs.read.Reads as stl_read
use Rattle.stl.proofs.write.Reads as stl_write

-- the calls of `float`
pub float_fixed : Fixes float_infinity.Post × Fixes float_magnitude.Post × Fixes float_lesser.Post × Fixes float_greater.Post × Fixes float_lower.Post × Fixes float_higher.Post × Fixes float_minus_zero.Post × Fixes float_less_number.Post × Fixes float_total_less.Post × Fixes float_bits.Post × Fixes float_from_bits.Post × Fixes float_root.Post × Fixes float_is_single.Post
float_fixed = (fixed, fixed, fixed, fixed, fixed, fixed, fixed, fixed, fixed, fixed, fixed, fixed, fixed)

-- the calls of `aabb`
pub aabb_fixed : Fixes vec3_plus.Post × Fixes vec3_minus.Post × Fixes vec3_negated.Post × Fixes vec3_scaled.Post × Fixes vec3_divided.Post × Fixes vec3_dot.Post × Fixes vec3_cross.Post × Fixes vec3_least.Post × Fixes vec3_greatest.Post × Fixes vec3_lowest.Post × Fixes vec3_highest.Post × Fixes vec3_along.Post × Fixes vec3_within.Post × Fixes vec3_at_most.Post × Fixes vec3_all_equal.Post × Fixes vec3_read.Post × Fixes aabb_place.Post × Fixes ray_read.Post × Fixes ray_at.Post × Fixes ray_admitted.Post × Fixes aabb_empty.Post × Fixes aabb_from_points.Post × Fixes aabb_grow.Post × Fixes aabb_union.Post × Fixes aabb_widened.Post × Fixes aabb_joined.Post × Fixes aabb_center.Post × Fixes aabb_extent.Post × Fixes aabb_surface_area.Post × Fixes aabb_bounded.Post × Fixes aabb_is_empty.Post × Fixes aabb_usable.Post × Fixes aabb_contains.Post × Fixes aabb_holds.Post × Fixes aabb_read.Post × Fixes aabb_intersect_ray.Post × Fixes sight_of.Post × Fixes aim_of.Post × Fixes aim_through.Post
aabb_fixed = (fixed, fixed, fixed, fixed, fixed, fixed, fixed, fixed, fixed, fixed, fixed, fixed, fixed, fixed, fixed, fixed, fixed, fixed, fixed, fixed, fixed, fixed, fixed, fixed, fixed, fixed, fixed, fixed, fixed, fixed, fixed, fixed, fixed, fixed, fixed, fixed, fixed, fixed, fixed)

-- the calls of `triangle`, but for `refill_normals` and `count`
pub triangle_fixed : Fixes triangle_read.Post × Fixes triangle_aabb.Post × Fixes triangle_corners.Post × Fixes triangle_centroid.Post × Fixes triangle_admitted.Post × Fixes triangle_distance.Post × Fixes triangle_hit.Post × Fixes triangle_intersect.Post × Fixes triangle_new.Post × Fixes corners_read.Post × Fixes corners_centroid.Post × Fixes corners_crossing.Post × Fixes corners_distance.Post × Fixes crossing_distance.Post × Fixes triangle_admitted_at.Post × Fixes triangle_first_refused.Post
triangle_fixed = (fixed, fixed, fixed, fixed, fixed, fixed, fixed, fixed, fixed, fixed, fixed, fixed, fixed, fixed, fixed, fixed)

-- the numbers of reasons and conditions
pub numbers_fixed : Fixes reason_number.Post × Fixes condition_number.Post
numbers_fixed = (fixed, fixed)

-- how many triangles a mesh has, or why it is refused
pub count_fixed : Fixes triangle_count.Post
count_fixed = record { same = λ κs x r r' e e' p q. count_is r r' _ (p.0 ∙ sym q.0) p.1.0 q.1.0 }

pub mesh_count_fixed : Fixes mesh_count.Post
mesh_count_fixed = record { same = λ κs x r r' e e' p q. count_is r r' _ (p.0 ∙ sym q.0) p.1 q.1 }

-- the calls of `tree`, but for `Mesh::count`
pub tree_fixed : Fixes node_read.Post × Fixes node_sound.Post × Fixes node_left.Post × Fixes node_right.Post × Fixes tree_misfit.Post × Fixes tree_word.Post × Fixes lent_new.Post
tree_fixed = (fixed, fixed, fixed, fixed, fixed, fixed, fixed)

-- a call that answers nothing, or why it is refused
abbrev Done : Type 0
Done = Result (Unit {0}) Why

-- the answer, and the mesh at the end
refill_same : (a b : Done) (x y : List Float) → refilling (refusal_of a) x ≡ refilling (refusal_of b) y → ◌≡◌ {A = Done × List Float} (a, x) (b, y)
refill_same a b x y e = let t = refill_told a b (ap (λ (o : Refilling). o.refusal) e) in λ z. (t z, (e z).mesh)

pub refill_normals_fixed : FixesAll triangle_refill_normals.Post {C = Done × List Float} (λ κs r e. (r, e.0.now))
refill_normals_fixed κs x r r' e e' p q = refill_same r r' _ _ (p ∙ sym q)

-- the answer, and the index list, boxes and links at the end
build_same : (a b : Result Built Why) (i j : List ℕ) (x y : List Float) (k l : List ℕ) → outcome (reply a) i x k ≡ outcome (reply b) j y l → ◌≡◌ {A = Result Built Why × List ℕ × List Float × List ℕ} (a, i, x, k) (b, j, y, l)
build_same a b i j x y k l e = let t = build_told a b (ap (λ (o : Outcome). o.answer) e) in λ z. (t z, (e z).index, (e z).boxes, (e z).links)

pub build_fixed : FixesAll builder_build.Post {C = Result Built Why × List ℕ × List Float × List ℕ} (λ κs r e. (r, e.1.0.now, e.1.1.0.now, e.1.1.1.0.now))
build_fixed κs x r r' e e' p q = build_same r r' _ _ _ _ _ _ (p ∙ sym q)

-- the builder's room, and what it leaves of a list that it clears
pub room_fixed : Fixes builder_room.Post
room_fixed = fixed

pub clear_fixed : FixesAll builder_clear_floats.Post {C = List Float} (λ κs r e. e.0.now)
clear_fixed κs x r r' e e' p q = p ∙ sym q

-- `walk` writes nothing lent, and what an answer tells fixes the answer
told_fixes : (a a' : Answer) → told a ≡ told a' → a ≡ a'
unfolding told
told_fixes (Struck h b c) (Struck h' b' c') p = cc (ap (λ (t : Told). t.hit) p, ap (λ (t : Told). t.boxes) p, ap (λ (t : Told). t.triangles) p)
told_fixes (Missed b c) (Missed b' c') p = cc (ap (λ (t : Told). t.boxes) p, ap (λ (t : Told). t.triangles) p)
told_fixes (Refused w) (Refused w') p = ap Refused (refused_is w w' (ap (λ (t : Told). t.refusal) p))
told_fixes (Struck h b c) (Missed b' c') p = absurd (let e = ap (λ (t : Told). t.hit) p in let z : ◌≡◌ {A = ℕ} 0 1 = cc in omega arith)
told_fixes (Missed b c) (Struck h' b' c') p = absurd (let e = ap (λ (t : Told). t.hit) p in let z : ◌≡◌ {A = ℕ} 0 1 = cc in omega arith)
told_fixes (Struck h b c) (Refused w') p = absurd (let e = ap (λ (t : Told). t.refusal) p in let z : ◌≡◌ {A = ℕ} 0 1 = cc in omega arith)
told_fixes (Refused w) (Struck h' b' c') p = absurd (let e = ap (λ (t : Told). t.refusal) p in let z : ◌≡◌ {A = ℕ} 0 1 = cc in omega arith)
told_fixes (Missed b c) (Refused w') p = absurd (let e = ap (λ (t : Told). t.refusal) p in let z : ◌≡◌ {A = ℕ} 0 1 = cc in omega arith)
told_fixes (Refused w) (Missed b' c') p = absurd (let e = ap (λ (t : Told). t.refusal) p in let z : ◌≡◌ {A = ℕ} 0 1 = cc in omega arith)

pub walk_fixed : Fixes walk_walk.Post
walk_fixed = record { same = λ κs x r r' e e' p q. told_fixes r r' (p ∙ sym q) }

pub judge_fixed : Fixes sky_judge.Post
judge_fixed = record { same = λ κs x r r' e e' p q. sky_told r r' (p ∙ sym q) }

-- the answer, and the answer room at the end
sky_same : (a b : Done) (x y : List Float) (k l : List ℕ) → filling (refusal_of a) x k ≡ filling (refusal_of b) y l → ◌≡◌ {A = Done × List Float × List ℕ} (a, x, k) (b, y, l)
sky_same a b x y k l e = let t = sky_told a b (ap (λ (o : Filling). o.refusal) e) in λ z. (t z, (e z).times, (e z).told)

pub sky_fixed : FixesAll sky_sky.Post {C = Done × List Float × List ℕ} (λ κs r e. (r, e.1.1.0.now, e.1.1.1.0.now))
sky_fixed κs x r r' e e' p q = sky_same r r' _ _ _ _ (p ∙ sym q)

-- the calls of `street`, but for `make`
pub rows_fixed : Fixes matrix_read.Post × Fixes matrix_good.Post × Fixes matrix_point.Post × Fixes matrix_direction.Post × Fixes matrix_normal.Post × Fixes matrix_transform_ray.Post × Fixes rows_length.Post
rows_fixed = (fixed, fixed, fixed, fixed, fixed, fixed, fixed)

-- the answer, and the proxies, index list, boxes and links at the end
make_same : (a b : Result Built Why) (i j : List ℕ) (x y : List Float) (k l : List ℕ) (p q : List Float) → making (outcome (reply a) i x k) p ≡ making (outcome (reply b) j y l) q
    → ◌≡◌ {A = Result Built Why × List Float × List ℕ × List Float × List ℕ} (a, p, i, x, k) (b, q, j, y, l)
make_same a b i j x y k l p q e = let t = build_told a b (ap (λ (o : Making). o.tree.answer) e) in λ z. (t z, (e z).room, (e z).tree.index, (e z).tree.boxes, (e z).tree.links)

pub make_fixed : FixesAll street_make.Post {C = Result Built Why × List Float × List ℕ × List Float × List ℕ} (λ κs r e. (r, e.1.1.1.0.now, e.1.1.1.1.0.now, e.1.1.1.1.1.0.now, e.1.1.1.1.1.1.0.now))
make_fixed κs x r r' e e' p q = make_same r r' _ _ _ _ _ _ _ _ (p ∙ sym q)

pub share_fixed : Fixes watts_share.Post
share_fixed = fixed

-- the answer, and the answer room at the end
watts_same : (a b : Result Report Why) (x y : List Float) (k l : List ℕ) → weighing (counted a) x k ≡ weighing (counted b) y l → ◌≡◌ {A = Result Report Why × List Float × List ℕ} (a, x, k) (b, y, l)
watts_same a b x y k l e = let t = counted_told a b (ap (λ (o : Weighing). o.answer) e) in λ z. (t z, (e z).times, (e z).told)

pub watts_fixed : FixesAll watts_watts.Post {C = Result Report Why × List Float × List ℕ} (λ κs r e. (r, e.1.1.1.0.now, e.1.1.1.1.0.now))
watts_fixed κs x r r' e e' p q = watts_same r r' _ _ _ _ (p ∙ sym q)

-- the answer, and the work room at the end
accept_same : (a b : Verdict) (x y : List ℕ) → judging (ruling a) x ≡ judging (ruling b) y → ◌≡◌ {A = Verdict × List ℕ} (a, x) (b, y)
accept_same a b x y e = let t = accept_told a b (ap (λ (o : Judging). o.answer) e) in λ z. (t z, (e z).work)

pub accept_fixed : FixesAll accept_accept.Post {C = Verdict × List ℕ} (λ κs r e. (r, e.1.1.0.now))
accept_fixed κs x r r' e e' p q = accept_same r r' _ _ (p ∙ sym q)

-- the answer, and the triangle and material rooms at the end
read_same : (a b : Result ℕ Why) (x y : List Float) (k l : List ℕ) → read_as (stl_told a) x k ≡ read_as (stl_told b) y l → ◌≡◌ {A = Result ℕ Why × List Float × List ℕ} (a, x, k) (b, y, l)
read_same a b x y k l e = let t = stl_told_lem a b (ap (λ (o : Read). o.answer) e) in λ z. (t z, (e z).triangles, (e z).materials)

pub read_fixed : FixesAll stl_read.Post {C = Result ℕ Why × List Float × List ℕ} (λ κs r e. (r, e.1.0.now, e.1.1.0.now))
read_fixed κs x r r' e e' p q = read_same r r' _ _ _ _ (p ∙ sym q)

-- the answer, and the file at the end
write_same : (a b : Result ℕ Why) (k l : List ℕ) → written_as (stl_told a) k ≡ written_as (stl_told b) l → ◌≡◌ {A = Result ℕ Why × List ℕ} (a, k) (b, l)
write_same a b k l e = let t = stl_told_lem a b (ap (λ (o : Written). o.answer) e) in λ z. (t z, (e z).file)

pub write_fixed : FixesAll stl_write.Post {C = Result ℕ Why × List ℕ} (λ κs r e. (r, e.1.0.now))
write_fixed κs x r r' e e' p q = write_same r r' _ _ (p ∙ sym q)
