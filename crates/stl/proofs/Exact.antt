-- The parts of a triangle whose numbers are exactly binary32s; and there is none that is not exactly where all are. Assumes nothing.
use Rattle.std.specs.Prelude.{Option, Some, None}
use mathlib.Core.Path.{◌≡◌, refl, ap}
use Prim.Native.Nat.{ℕ, ◌+◌, ◌≤◌, ◌<◌}
use mathlib.Core.Bool.{Bool, true, false, not, ◌&&◌, true≢false}
use mathlib.Core.List.{List}
use lib.Dec.{T}
use lib.Ieee.{Float}
use lib.Ieee.Bits.{is_true}
use lib.Ieee.Fits.{and_l, and_r}
use Rattle.lent.proofs.Lowest.{none_from, none_below}
use Rattle.float.specs.Single.{exactly32}
use Rattle.aabb.specs.declared.vector.Vec3.{Vec3}
use Rattle.aabb.specs.Vector.{all}
use Rattle.triangle.specs.declared.Triangle.{Triangle}
use Rattle.triangle.specs.Mesh.{triangle_at}
use Rattle.stl.specs.Writing.{exact_triangle, inexact_at, first_inexact, inexact}

-- ---- the parts of an exact triangle
pub exact_three : (a : Vec3) → T (all exactly32 a) → T (exactly32 a.x) × T (exactly32 a.y) × T (exactly32 a.z)
exact_three a p =
    let x = exactly32 a.x in
    let y = exactly32 a.y in
    let z = exactly32 a.z in
    (and_l x (y && z) p, and_l y z (and_r x (y && z) p), and_r y z (and_r x (y && z) p))

pub exact_four : (t : Triangle) → T (exact_triangle t) → T (all exactly32 t.v0) × T (all exactly32 t.v1) × T (all exactly32 t.v2) × T (all exactly32 t.normal)
unfolding exact_triangle
exact_four t p =
    let a = all exactly32 t.v0 in
    let b = all exactly32 t.v1 in
    let c = all exactly32 t.v2 in
    let d = all exactly32 t.normal in
    let q = and_r a (b && (c && d)) p in
    (and_l a (b && (c && d)) p, and_l b (c && d) q, and_l c d (and_r b (c && d) q), and_r c d (and_r b (c && d) q))

-- ---- there is no inexact triangle just where every one is exact
stands : (t : Bool) → not t ≡ false → T t
stands true e = tt
stands false e = absurd (true≢false e)

pub all_exact : (m : List Float) (k i j : ℕ) → first_inexact m i k ≡ None → i ≤ j → j < i + k → T (exact_triangle (triangle_at m j))
unfolding first_inexact
all_exact m k i j e p q = stands _ (none_from (inexact_at m) i k e j p q)

pub none_inexact : (m : List Float) (k i : ℕ) → ((j : ℕ) → i ≤ j → j < i + k → T (exact_triangle (triangle_at m j))) → first_inexact m i k ≡ None
unfolding first_inexact
none_inexact m k i h = none_below (inexact_at m) i k (λ j p q. ap not (is_true _ (h j p q)))

-- ---- check 17
pub passed_exact : (f : Option ℕ) → (inexact f).fails ≡ false → f ≡ None
unfolding inexact
passed_exact (Some i) e = absurd (true≢false e)
passed_exact None e = refl
