-- There is no triangle that isn't admitted exactly where all are; and check 5, the last of a ladder. Assumes nothing.
use Rattle.std.specs.Prelude.{Option, Some, None}
use mathlib.Core.Path.{◌≡◌, refl, ap}
use Prim.Native.Nat.{ℕ, ◌+◌, ◌≤◌, ◌<◌}
use mathlib.Core.Bool.{Bool, true, false, not, true≢false}
use mathlib.Core.List.{List, [], ◌∷◌}
use lib.Dec.{T}
use lib.Ieee.{Float}
use lib.Ieee.Bits.{is_true}
use Rattle.lent.proofs.Ladder.{Ends, goes, stops, serves}
use Rattle.lent.proofs.Lowest.{none_from, none_below}
use Rattle.triangle.specs.Mesh.{triangle_at, admitted_triangle, refused_at, first_refused, unadmitted}

stands : (t : Bool) → not t ≡ false → T t
stands true e = tt
stands false e = absurd (true≢false e)

pub none_refused : (m : List Float) (k i j : ℕ) → first_refused m i k ≡ None → i ≤ j → j < i + k → T (admitted_triangle (triangle_at m j))
unfolding first_refused
none_refused m k i j e p q = stands _ (none_from (refused_at m) i k e j p q)

pub all_admitted : (m : List Float) (k i : ℕ) → ((j : ℕ) → i ≤ j → j < i + k → T (admitted_triangle (triangle_at m j))) → first_refused m i k ≡ None
unfolding first_refused
all_admitted m k i h = none_below (refused_at m) i k (λ j p q. ap not (is_true _ (h j p q)))

-- ---- check 5, the last of a ladder
module _ {A : Type 0} {refused : ℕ → ℕ → A} {served x : A} {f : (Option ℕ)} where
  pub none_bad : f ≡ None → x ≡ served → Ends (unadmitted f ∷ []) refused served x
  unfolding unadmitted
  none_bad p e = rw p (goes refl (serves e))

pub none_unadmitted : (f : Option ℕ) → (unadmitted f).fails ≡ false → f ≡ None
unfolding unadmitted
none_unadmitted (Some i) e = absurd (true≢false e)
none_unadmitted None e = refl
