-- What the code of placing.rt cites: a loop over the numbers of an axis, at each of which a box grows by some points. Assumes nothing.
use mathlib.Core.Path.{◌≡◌, refl, sym, ap, ◌∙◌}
use mathlib.Core.List.{List, [], ◌∷◌, ◌++◌}
use Prim.Native.Nat.{ℕ, ◌+◌, ◌<◌, ◌≤◌}
use native.Mathlib.Numerals.{add-one}
use lib.ListN.{length, get_or, drop, drop_of_length-le}
use lib.Seq.{drop-cons}
use lib.Ieee.{Float, nan}
use Rattle.aabb.specs.declared.vector.Vec3.{Vec3}
use Rattle.aabb.specs.declared.bounds.Aabb.{Aabb}
use Rattle.aabb.specs.Vector.{vec}
use Rattle.aabb.specs.Bounds.{grown}
use Rattle.street.specs.declared.rows.Matrix.{Matrix}
use Rattle.street.specs.Rows.{point_by}
use Rattle.street.specs.Placing.{corners, grown_by}

-- the points of each number, one after the other
unfoldable pub at_each : (Float → List Vec3) → List Float → List Vec3
at_each f [] = []
at_each f (x ∷ xs) = f x ++ at_each f xs

-- those at x, y and z; at y and z; at z
abbrev pub spot : Float → Float → Float → List Vec3
spot y z x = vec x y z ∷ []

abbrev pub row : List Float → Float → Float → List Vec3
row xs z y = at_each (spot y z) xs

abbrev pub sheet : List Float → List Float → Float → List Vec3
sheet xs ys z = at_each (row xs z) ys

-- of a box's numbers they are its corners
pub corners_are : (b : Aabb) → at_each (sheet (b.min.x ∷ b.max.x ∷ []) (b.min.y ∷ b.max.y ∷ [])) (b.min.z ∷ b.max.z ∷ []) ≡ corners b
unfolding at_each corners
corners_are b = refl

here : (l : List Float) (i : ℕ) → i < length l → drop i l ≡ get_or l i nan ∷ drop (i + 1) l
here l i h = drop-cons l i nan h ∙ ap (λ (k : ℕ). get_or l i nan ∷ drop k l) (sym (add-one i))

module _ (m : Matrix) where
  grown_more : (b : Aabb) (ps qs : List Vec3) → grown_by m b (ps ++ qs) ≡ grown_by m (grown_by m b ps) qs
  unfolding grown_by
  grown_more b [] qs = refl
  grown_more b (p ∷ ps) qs = grown_more (grown b (point_by m p)) ps qs

  pub by_one : (b b' : Aabb) (v p : Vec3) → p ≡ point_by m v → b' ≡ grown b p → b' ≡ grown_by m b (v ∷ [])
  unfolding grown_by
  by_one b b' v p P B = B ∙ ap (grown b) P

  -- growing by what is left, from place i on, gives T
  module _ (T : Aabb) (f : Float → List Vec3) (xs : List Float) (b : Aabb) (i : ℕ) (left : grown_by m b (at_each f (drop i xs)) ≡ T) where
    pub turn : (b' : Aabb) → i < length xs → b' ≡ grown_by m b (f (get_or xs i nan)) → grown_by m b' (at_each f (drop (i + 1) xs)) ≡ T
    unfolding at_each
    turn b' h B =
        ap (λ (c : Aabb). grown_by m c (at_each f (drop (i + 1) xs))) B
        ∙ sym (grown_more b (f (get_or xs i nan)) (at_each f (drop (i + 1) xs)))
        ∙ sym (ap (λ (l : List Float). grown_by m b (at_each f l)) (here xs i h)) ∙ left

    pub over : length xs ≤ i → b ≡ T
    unfolding at_each grown_by
    over h = sym (ap (λ (l : List Float). grown_by m b (at_each f l)) (drop_of_length-le xs h)) ∙ left
