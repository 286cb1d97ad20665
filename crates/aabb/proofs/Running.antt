-- Beside a running box with no NaN one comparison a number does: `joined` is the union and `widened` is the grown box, and each is clear again, as the empty box is. Assumes nothing.
use mathlib.Core.Path.{◌≡◌, refl, ◌∙◌, ap, subst, subst⁻¹}
use Prim.Native.Nat.{ℕ, zero, suc}
use lib.Dec.{T}
use lib.Ieee.{neg}
use Rattle.float.specs.Number.{real}
use Rattle.float.specs.Pick.{lower, higher}
use Rattle.float.proofs.Numbers.{infinity_is}
use Rattle.float.proofs.Pick.{lower_is, higher_is, lower_real, higher_real}
use Rattle.aabb.specs.declared.vector.Vec3.{Vec3}
use Rattle.aabb.specs.declared.bounds.Aabb.{Aabb}
use Rattle.aabb.specs.Vector.{along, all, least, greatest, lowest, highest}
use Rattle.aabb.specs.Bounds.{empty_box, Clear, grown, union, widened, joined, of_three}
use Rattle.aabb.proofs.Axis.{all_along, all_from}

-- ---- vectors
module _ (run v : Vec3) where
  along_lowest : (k : ℕ) → along k (lowest run v) ≡ lower (along k run) (along k v)
  unfolding along lowest
  along_lowest zero = refl
  along_lowest (suc zero) = refl
  along_lowest (suc (suc k)) = refl

  along_highest : (k : ℕ) → along k (highest run v) ≡ higher (along k run) (along k v)
  unfolding along highest
  along_highest zero = refl
  along_highest (suc zero) = refl
  along_highest (suc (suc k)) = refl

  module _ (h : T (all real run)) where
    lowest_clear : T (all real (lowest run v))
    lowest_clear = all_from real (lowest run v) (λ k. rw (along_lowest k) (lower_real (along k run) (along k v) (all_along real run k h)))

    highest_clear : T (all real (highest run v))
    highest_clear = all_from real (highest run v) (λ k. rw (along_highest k) (higher_real (along k run) (along k v) (all_along real run k h)))

    lowest_is : lowest run v ≡ least run v
    unfolding along lowest least
    lowest_is = rw (lower_is run.x v.x (all_along real run 0 h), lower_is run.y v.y (all_along real run 1 h), lower_is run.z v.z (all_along real run 2 h))

    highest_is : highest run v ≡ greatest run v
    unfolding along highest greatest
    highest_is = rw (higher_is run.x v.x (all_along real run 0 h), higher_is run.y v.y (all_along real run 1 h), higher_is run.z v.z (all_along real run 2 h))

-- ---- boxes
module _ (b : Aabb) (h : Clear b) where
  pub widened_is : (p : Vec3) → widened b p ≡ grown b p
  unfolding widened grown
  widened_is p = rw (lowest_is b.min p h.low, highest_is b.max p h.high)

  pub widened_clear : (p : Vec3) → Clear (widened b p)
  unfolding widened
  widened_clear p = record { low = lowest_clear b.min p h.low; high = highest_clear b.max p h.high }

  pub joined_is : (o : Aabb) → joined b o ≡ union b o
  unfolding joined union
  joined_is o = rw (lowest_is b.min o.min h.low, highest_is b.max o.max h.high)

  pub joined_clear : (o : Aabb) → Clear (joined b o)
  unfolding joined
  joined_clear o = record { low = lowest_clear b.min o.min h.low; high = highest_clear b.max o.max h.high }

pub clear_as : (b o : Aabb) → b ≡ o → Clear o → Clear b
clear_as b o e c = subst⁻¹ (λ (z : Aabb). Clear z) e c

pub union_clear : (b o : Aabb) → Clear b → Clear (union b o)
union_clear b o h = subst (λ (z : Aabb). Clear z) (joined_is b h o) (joined_clear b h o)

pub empty_clear : Clear empty_box
unfolding empty_box neg
empty_clear = record { low = rw infinity_is tt; high = rw infinity_is tt }

-- ---- what the calls ensure of a result r, as code goes from box to box
pub union_by : (b o r : Aabb) → Clear b → r ≡ joined b o → (r ≡ union b o) × Clear r
union_by b o r h e = (e ∙ joined_is b h o, clear_as r (joined b o) e (joined_clear b h o))

pub grown_by_lem : (b : Aabb) (p : Vec3) (r : Aabb) → Clear b → r ≡ widened b p → (r ≡ grown b p) × Clear r
grown_by_lem b p r h e = (e ∙ widened_is b h p, clear_as r (widened b p) e (widened_clear b h p))

pub three_by : (p q r : Vec3) (e a b c : Aabb) → e ≡ empty_box → a ≡ widened e p → b ≡ widened a q → c ≡ widened b r → c ≡ of_three p q r
unfolding of_three
three_by p q r e a b c h i j k =
    let x = grown_by_lem e p a (clear_as e empty_box h empty_clear) i in
    let y = grown_by_lem a q b x.1 j in
    let z = grown_by_lem b r c y.1 k in
    z.0 ∙ ap (λ (w : Aabb). grown w r) (y.0 ∙ ap (λ (w : Aabb). grown w q) (x.0 ∙ ap (λ (w : Aabb). grown w p) h))
