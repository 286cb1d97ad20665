-- `lesser` and `greater` are bounds of what they pick from and keep its order, as each is a choice by one comparison; and code tells a NaN by its differing from itself.
-- Assumes nothing.
use mathlib.Core.Path.{◌≡◌, refl}
use mathlib.Core.Bool.{Bool, true, false, not, ◌||◌, cond}
use lib.Dec.{T}
use lib.Ieee.{Float, nan, inf, fin, lt, le, is_nan}
use Rattle.float.specs.Number.{real}
use Rattle.float.proofs.Cases.{not_l}
use Rattle.float.proofs.Order.{lt→le, le→real_l, le→real_r, not_lt→le, le_refl, le_trans}
use Rattle.float.specs.Pick.{greater, lesser, lower, higher}

-- a choice between a and b by a test: of the lesser, and of the greater
module _ (a b : Float) (p : T (real a)) (q : T (real b)) where
  low_left : (t : Bool) → (T t → T (lt b a)) → T (le (cond t b a) a)
  low_left true h = lt→le b a (h tt)
  low_left false h = le_refl a p

  low_right : (t : Bool) → (T (not t) → T (not (lt b a))) → T (le (cond t b a) b)
  low_right true h = le_refl b q
  low_right false h = not_lt→le a b p q (h tt)

  high_left : (t : Bool) → (T t → T (lt a b)) → T (le a (cond t b a))
  high_left true h = lt→le a b (h tt)
  high_left false h = le_refl a p

  high_right : (t : Bool) → (T (not t) → T (not (lt a b))) → T (le b (cond t b a))
  high_right true h = le_refl b q
  high_right false h = not_lt→le b a q p (h tt)

any : (t : Bool) (a b : Float) (P : Float → Type 0) → P a → P b → P (cond t a b)
any true a b P p q = p
any false a b P p q = q

-- a test beside one that fails
beside : (a : Float) (t : Bool) → T (real a) → T (t || is_nan a) → T t
unfolding is_nan
beside nan t p h = absurd p
beside (inf s) true p h = tt
beside (inf s) false p h = h
beside (fin s m e) true p h = tt
beside (fin s m e) false p h = h

-- ---- the greater and the lesser
module _ (run x : Float) (p : T (real run)) (q : T (real x)) where
  pub greater_left : T (le run (greater run x))
  unfolding greater
  greater_left = high_left run x p q (lt run x || is_nan run) (beside run (lt run x) p)

  pub greater_right : T (le x (greater run x))
  unfolding greater
  greater_right = high_right run x p q (lt run x || is_nan run) (not_l (lt run x) (is_nan run))

  pub lesser_left : T (le (lesser run x) run)
  unfolding lesser
  lesser_left = low_left run x p q (lt x run || is_nan run) (beside run (lt x run) p)

  pub lesser_right : T (le (lesser run x) x)
  unfolding lesser
  lesser_right = low_right run x p q (lt x run || is_nan run) (not_l (lt x run) (is_nan run))

pub greater_least : (run x z : Float) → T (le run z) → T (le x z) → T (le (greater run x) z)
unfolding greater
greater_least run x z h k = any (lt run x || is_nan run) x run (λ y. T (le y z)) k h

pub lesser_most : (run x z : Float) → T (le z run) → T (le z x) → T (le z (lesser run x))
unfolding lesser
lesser_most run x z h k = any (lt x run || is_nan run) x run (λ y. T (le z y)) k h

pub greater_mono : (run x run' x' : Float) → T (le run run') → T (le x x') → T (le (greater run x) (greater run' x'))
greater_mono run x run' x' h k =
    let p = le→real_r run run' h in
    let q = le→real_r x x' k in
    greater_least run x (greater run' x') (le_trans run run' (greater run' x') h (greater_left run' x' p q)) (le_trans x x' (greater run' x') k (greater_right run' x' p q))

pub lesser_mono : (run x run' x' : Float) → T (le run run') → T (le x x') → T (le (lesser run x) (lesser run' x'))
lesser_mono run x run' x' h k =
    let p = le→real_l run run' h in
    let q = le→real_l x x' k in
    lesser_most run' x' (lesser run x) (le_trans (lesser run x) run run' (lesser_left run x p q) h) (le_trans (lesser run x) x x' (lesser_right run x p q) k)

-- ---- beside a running number that is no NaN one comparison does, for the lesser and the greater alike: t is the comparison
beside_is : (t : Bool) (run x : Float) → T (real run) → cond t x run ≡ cond (t || is_nan run) x run
unfolding is_nan
beside_is true run x p = refl
beside_is false nan x p = absurd p
beside_is false (inf s) x p = refl
beside_is false (fin s m e) x p = refl

pub lower_is : (run x : Float) → T (real run) → lower run x ≡ lesser run x
unfolding lesser
lower_is run x p = beside_is (lt x run) run x p

pub higher_is : (run x : Float) → T (real run) → higher run x ≡ greater run x
unfolding greater
higher_is run x p = beside_is (lt run x) run x p

-- and what it picks is no NaN either
picks_real : (t : Bool) (run x : Float) → T (real run) → (T t → T (real x)) → T (real (cond t x run))
picks_real true run x p h = h tt
picks_real false run x p h = p

pub lower_real : (run x : Float) → T (real run) → T (real (lower run x))
lower_real run x p = picks_real (lt x run) run x p (λ h. le→real_l x run (lt→le x run h))

pub higher_real : (run x : Float) → T (real run) → T (real (higher run x))
higher_real run x p = picks_real (lt run x) run x p (λ h. le→real_r run x (lt→le run x h))
