-- Tests that two answers are the same in every number, and that what they find same is equal: what a table of expected answers is computed with. Assumes nothing.
use Rattle.std.specs.Prelude.{Option, Some, None}
use Prim.Native.Nat.{ℕ}
use mathlib.Core.Path.{◌≡◌, refl, ap}
use mathlib.Core.Bool.{Bool, true, false, ◌&&◌, beq}
use mathlib.Core.List.{List, [], ◌∷◌}
use lib.Dec.{T, eqb, eqb→eq}
use lib.IntN.{ℤ, pos, negsuc}
use lib.Ieee.{Float, nan, inf, fin}
use lib.Ieee.Fits.{and_l, and_r}
use Rattle.aabb.specs.declared.vector.Vec3.{Vec3}
use Rattle.aabb.specs.declared.slab.Span.{Span}
use Rattle.aabb.specs.Vector.{vec}
use Rattle.triangle.specs.declared.Hit.{Hit}
use Rattle.triangle.proofs.Steps.{hit}
use Rattle.builder.specs.Reply.{Reply}
use Rattle.builder.specs.declared.split.Split.{Split}
use Rattle.builder.specs.Build.{Outcome, outcome}
use Rattle.lent.specs.Ladder.{Refusal, none, numbered}
use Rattle.walk.specs.Answer.{Told}

-- ---- numbers
bool_is : (x y : Bool) → T (beq x y) → x ≡ y
bool_is true true h = refl
bool_is false false h = refl
bool_is true false h = absurd h
bool_is false true h = absurd h

abbrev same_int : ℤ → ℤ → Bool
same_int (pos m) (pos n) = eqb m n
same_int (negsuc m) (negsuc n) = eqb m n
same_int (pos m) (negsuc n) = false
same_int (negsuc m) (pos n) = false

int_is : (x y : ℤ) → T (same_int x y) → x ≡ y
int_is (pos m) (pos n) h = ap pos (eqb→eq m n h)
int_is (negsuc m) (negsuc n) h = ap negsuc (eqb→eq m n h)
int_is (pos m) (negsuc n) h = absurd h
int_is (negsuc m) (pos n) h = absurd h

abbrev pub same_float : Float → Float → Bool
same_float nan nan = true
same_float (inf s) (inf t) = beq s t
same_float (fin s m e) (fin t n d) = beq s t && (eqb m n && same_int e d)
same_float nan (inf t) = false
same_float nan (fin t n d) = false
same_float (inf s) nan = false
same_float (inf s) (fin t n d) = false
same_float (fin s m e) nan = false
same_float (fin s m e) (inf t) = false

congruent3 : {A B C D : Type 0} (f : A → B → C → D) {a a' : A} {b b' : B} {c c' : C} → a ≡ a' → b ≡ b' → c ≡ c' → f a b c ≡ f a' b' c'
congruent3 f p q r = rw (p, q, r)

pub float_is : (x y : Float) → T (same_float x y) → x ≡ y
float_is nan nan h = refl
float_is (inf s) (inf t) h = ap inf (bool_is s t h)
float_is (fin s m e) (fin t n d) h =
    congruent3 fin (bool_is s t (and_l (beq s t) (eqb m n && same_int e d) h)) (eqb→eq m n (search (and_l, and_r))) (int_is e d (search (and_l, and_r)))
float_is nan (inf t) h = absurd h
float_is nan (fin t n d) h = absurd h
float_is (inf s) nan h = absurd h
float_is (inf s) (fin t n d) h = absurd h
float_is (fin s m e) nan h = absurd h
float_is (fin s m e) (inf t) h = absurd h

-- ---- lists
module _ {A : Type 0} (same : A → A → Bool) (is : (x y : A) → T (same x y) → x ≡ y) where
  abbrev pub same_list : List A → List A → Bool
  same_list [] [] = true
  same_list [] (y ∷ ys) = false
  same_list (x ∷ xs) [] = false
  same_list (x ∷ xs) (y ∷ ys) = same x y && same_list xs ys

  pub list_is : (xs ys : List A) → T (same_list xs ys) → xs ≡ ys
  list_is [] [] h = refl
  list_is [] (y ∷ ys) h = absurd h
  list_is (x ∷ xs) [] h = absurd h
  list_is (x ∷ xs) (y ∷ ys) h = let p = is x y (and_l (same x y) (same_list xs ys) h) in let q = list_is xs ys (and_r (same x y) (same_list xs ys) h) in rw (p, q)

-- ---- spans
abbrev pub same_span : Option Span → Option Span → Bool
same_span None None = true
same_span (Some a) (Some b) = same_float a.enter b.enter && same_float a.exit b.exit
same_span None (Some b) = false
same_span (Some a) None = false

pub span_is : (x y : Option Span) → T (same_span x y) → x ≡ y
span_is None None h = refl
span_is (Some a) (Some b) h =
    let p = float_is a.enter b.enter (and_l (same_float a.enter b.enter) (same_float a.exit b.exit) h) in
    let q = float_is a.exit b.exit (and_r (same_float a.enter b.enter) (same_float a.exit b.exit) h) in
    λ i. Some (record { enter = p i; exit = q i })
span_is None (Some b) h = absurd h
span_is (Some a) None h = absurd h

-- ---- splits
abbrev pub same_split : Option Split → Option Split → Bool
same_split None None = true
same_split (Some a) (Some b) = eqb a.axis b.axis && same_float a.position b.position
same_split None (Some b) = false
same_split (Some a) None = false

pub split_is : (x y : Option Split) → T (same_split x y) → x ≡ y
split_is None None h = refl
split_is (Some a) (Some b) h =
    let p = eqb→eq a.axis b.axis (and_l (eqb a.axis b.axis) (same_float a.position b.position) h) in
    let q = float_is a.position b.position (and_r (eqb a.axis b.axis) (same_float a.position b.position) h) in
    λ i. Some (record { axis = p i; position = q i })
split_is None (Some b) h = absurd h
split_is (Some a) None h = absurd h

-- ---- hits
abbrev same_vector : Vec3 → Vec3 → Bool
same_vector a b = same_float a.x b.x && (same_float a.y b.y && same_float a.z b.z)

vector_is : (a b : Vec3) → T (same_vector a b) → a ≡ b
vector_is a b h = congruent3 vec (float_is a.x b.x (search (and_l, and_r))) (float_is a.y b.y (search (and_l, and_r))) (float_is a.z b.z (search (and_l, and_r)))

abbrev same_hit : Hit → Hit → Bool
same_hit a b = same_float a.t b.t && (same_vector a.point b.point && (same_vector a.normal b.normal && (same_float a.u b.u && (same_float a.v b.v && (beq a.front b.front && (eqb a.triangle b.triangle && eqb a.material b.material))))))

hit_is : (a b : Hit) → T (same_hit a b) → a ≡ b
hit_is a b h =
    let p = float_is a.t b.t (search (and_l, and_r) depth 10) in
    let q = vector_is a.point b.point (search (and_l, and_r) depth 10) in
    let r = vector_is a.normal b.normal (search (and_l, and_r) depth 10) in
    let x = float_is a.u b.u (search (and_l, and_r) depth 10) in
    let y = float_is a.v b.v (search (and_l, and_r) depth 10) in
    let s = bool_is a.front b.front (search (and_l, and_r) depth 10) in
    let k = eqb→eq a.triangle b.triangle (search (and_l, and_r) depth 10) in
    let m = eqb→eq a.material b.material (search (and_l, and_r) depth 10) in
    all p q r x y s k m
  where
    all : {t t' u u' v v' : Float} {p p' n n' : Vec3} {f f' : Bool} {k k' m m' : ℕ} → t ≡ t' → p ≡ p' → n ≡ n' → u ≡ u' → v ≡ v' → f ≡ f' → k ≡ k' → m ≡ m' → hit t p n u v f k m ≡ hit t' p' n' u' v' f' k' m'
    all a b c d e f g h = rw (a, b, c, d, e, f, g, h)

abbrev same_found : Option Hit → Option Hit → Bool
same_found None None = true
same_found (Some a) (Some b) = same_hit a b
same_found None (Some b) = false
same_found (Some a) None = false

found_is : (x y : Option Hit) → T (same_found x y) → x ≡ y
found_is None None h = refl
found_is (Some a) (Some b) h = ap Some (hit_is a b h)
found_is None (Some b) h = absurd h
found_is (Some a) None h = absurd h

-- ---- what a walk tells
abbrev same_refusal : Refusal → Refusal → Bool
same_refusal none none = true
same_refusal (numbered k i) (numbered l j) = eqb k l && eqb i j
same_refusal none (numbered l j) = false
same_refusal (numbered k i) none = false

refusal_is : (x y : Refusal) → T (same_refusal x y) → x ≡ y
refusal_is none none h = refl
refusal_is (numbered k i) (numbered l j) h = let p = eqb→eq k l (and_l (eqb k l) (eqb i j) h) in let q = eqb→eq i j (and_r (eqb k l) (eqb i j) h) in rw (p, q)
refusal_is none (numbered l j) h = absurd h
refusal_is (numbered k i) none h = absurd h

abbrev pub same_told : Told → Told → Bool
same_told a b = same_refusal a.refusal b.refusal && (same_found a.hit b.hit && (eqb a.boxes b.boxes && eqb a.triangles b.triangles))

abbrev tells : Refusal → Option Hit → ℕ → ℕ → Told
tells r f b c = record { refusal = r; hit = f; boxes = b; triangles = c }

congruent4 : {A B C D E : Type 0} (f : A → B → C → D → E) {a a' : A} {b b' : B} {c c' : C} {d d' : D} → a ≡ a' → b ≡ b' → c ≡ c' → d ≡ d' → f a b c d ≡ f a' b' c' d'
congruent4 f p q r s = rw (p, q, r, s)

pub told_is : (a b : Told) → T (same_told a b) → a ≡ b
told_is a b h =
    congruent4 tells (refusal_is a.refusal b.refusal (search (and_l, and_r))) (found_is a.hit b.hit (search (and_l, and_r))) (eqb→eq a.boxes b.boxes (search (and_l, and_r)))
    (eqb→eq a.triangles b.triangles (search (and_l, and_r)))

-- ---- what a build answers and leaves
abbrev same_reply : Reply → Reply → Bool
same_reply a b = same_refusal a.refusal b.refusal && (eqb a.nodes b.nodes && eqb a.leaves b.leaves)

abbrev replies : Refusal → ℕ → ℕ → Reply
replies r n l = record { refusal = r; nodes = n; leaves = l }

reply_is : (a b : Reply) → T (same_reply a b) → a ≡ b
reply_is a b h = congruent3 replies (refusal_is a.refusal b.refusal (search (and_l, and_r))) (eqb→eq a.nodes b.nodes (search (and_l, and_r))) (eqb→eq a.leaves b.leaves (search (and_l, and_r)))

abbrev pub same_outcome : Outcome → Outcome → Bool
same_outcome a b =
    same_reply a.answer b.answer
    && (same_list eqb eqb→eq a.index b.index && (same_list same_float float_is a.boxes b.boxes && same_list eqb eqb→eq a.links b.links))

pub outcome_is : (a b : Outcome) → T (same_outcome a b) → a ≡ b
outcome_is a b h =
    congruent4 outcome (reply_is a.answer b.answer (search (and_l, and_r))) (list_is eqb eqb→eq a.index b.index (search (and_l, and_r)))
    (list_is same_float float_is a.boxes b.boxes (search (and_l, and_r))) (list_is eqb eqb→eq a.links b.links (search (and_l, and_r)))
