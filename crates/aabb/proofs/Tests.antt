-- What the code of vectors and boxes tests is what the definitions say: one law for each kind of branch. Assumes nothing.
use mathlib.Core.Path.{◌≡◌, refl, sym, ◌∙◌}
use Prim.Native.Nat.{ℕ, ◌+◌, ◌≤◌, min}
use native.Mathlib.Nat.{add_assoc, add-zero}
use native.Mathlib.Omega.{arith, min_cases}
use mathlib.Core.Bool.{Bool, true, false, ◌&&◌, ◌||◌}
use mathlib.Core.List.{List}
use lib.Dec.{T}
use lib.IntN.{ℤ}
use lib.ListN.{length, get_or-eq_default}
use lib.Ieee.{Float, nan, inf, fin, binary64, of_bits, div, neg, lt, le}
use Rattle.float.specs.Number.{nought}
use Rattle.float.specs.Pick.{magnitude}
use Rattle.float.proofs.Order.{under→le, le_trans}
use Rattle.aabb.specs.declared.vector.Vec3.{Vec3}
use Rattle.aabb.specs.Vector.{vec, within, number_at, vector_at}

-- ---- vectors
-- a magnitude is at most a limit where the number and its opposite are
both : (a b : Bool) → (T a → T b) → a ≡ (a && b)
both true true f = refl
both true false f = absurd (f tt)
both false b f = refl

both_turned : (a b : Bool) → (T b → T a) → b ≡ (a && b)
both_turned true b f = refl
both_turned false true f = absurd (f tt)
both_turned false false f = refl

below : (m : ℕ) (e : ℤ) → T (le (fin true m e) (fin false m e))
below m e = under→le (fin true m e) (fin false m e) tt tt (omega arith)

infinities : T (le (inf true) (inf false))
infinities = unfold le in tt

pub sides : (x l : Float) → le (magnitude x) l ≡ (le x l && le (neg x) l)
unfolding neg
sides nan l = unfold le in refl
sides (inf true) l = both_turned (le (inf true) l) (le (inf false) l) (le_trans (inf true) (inf false) l infinities)
sides (inf false) l = both (le (inf false) l) (le (inf true) l) (le_trans (inf true) (inf false) l infinities)
sides (fin true m e) l = both_turned (le (fin true m e) l) (le (fin false m e) l) (le_trans (fin true m e) (fin false m e) l (below m e))
sides (fin false m e) l = both (le (fin false m e) l) (le (fin true m e) l) (le_trans (fin true m e) (fin false m e) l (below m e))

pub side_over : (x l : Float) → le x l ≡ false → false ≡ within l x
unfolding within
side_over x l h = rw (sides x l, h)

pub side_within : (x l : Float) → le x l ≡ true → le (neg x) l ≡ within l x
unfolding within
side_within x l h = rw (sides x l, h)

-- ---- boxes

abbrev pub Negative : Vec3 → Bool
Negative d = lt d.x nought || (lt d.y nought || lt d.z nought)

-- ---- numbers of a lent slice

pub beyond_end : (l : List Float) (k : ℕ) → length l ≤ k → of_bits binary64 0x7ff8_0000_0000_0000 ≡ number_at l k
unfolding of_bits
beyond_end l k h = sym (get_or-eq_default l nan h)

-- three places from `at` on that all lie beyond the end
pub beyond_three : (l : List Float) (at : ℕ) (x : Float) → x ≡ number_at l (length l) → length l ≤ at → vec x x x ≡ vector_at l at
unfolding vector_at
beyond_three l at x p h =
    let none : x ≡ nan = p ∙ get_or-eq_default l nan {n = length l} (omega arith) in
    rw (none, get_or-eq_default l nan {n = at} h, get_or-eq_default l nan {n = at + 1} (omega arith), get_or-eq_default l nan {n = at + 2} (omega arith))

-- from the end on there is no number, so a record that would start beyond it may as well start there
number_from : (l : List Float) (a k : ℕ) → number_at l (min a (length l) + k) ≡ number_at l (a + k)
number_from l a k =
    min_cases a (length l) (number_at l (min a (length l) + k) ≡ number_at l (a + k)) (λ h e. rw e)
    (λ h e. rw (e, get_or-eq_default l nan {n = length l + k} (omega arith), get_or-eq_default l nan {n = a + k} (omega arith)))

pub vector_from : (l : List Float) (a k : ℕ) → vector_at l (min a (length l) + k) ≡ vector_at l (a + k)
unfolding vector_at
vector_from l a k = simp add_assoc (rw (number_from l a k, number_from l a (k + 1), number_from l a (k + 2)))

pub vector_start : (l : List Float) (a : ℕ) → vector_at l (min a (length l)) ≡ vector_at l a
vector_start l a = rw (← add-zero (min a (length l)), vector_from l a 0, add-zero a)

-- ---- where a record starts

-- two vectors, one after the other, whatever they make
pub pair_starts : {A : Type 0} (f : Vec3 → Vec3 → A) (l : List Float) (a at : ℕ) (lo hi : Vec3) → at ≡ min a (length l) → lo ≡ vector_at l at → hi ≡ vector_at l (at + 3) → f lo hi ≡ f (vector_at l a) (vector_at l (a + 3))
pair_starts f l a at lo hi p q r = cc (vector_start l a, vector_from l a 3)
