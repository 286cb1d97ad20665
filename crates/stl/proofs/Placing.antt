-- Parts of a file, one after the other. Assumes nothing.
use mathlib.Core.Path.{◌≡◌, refl, sym, ap, ◌∙◌, subst}
use Prim.Native.Nat.{ℕ, zero, suc, ◌+◌, ◌-◌, ◌*◌, ◌≤◌, ◌<◌}
use native.Mathlib.Numerals.{add-one}
use native.Mathlib.Omega.{arith}
use mathlib.Core.List.{List, [], ◌∷◌, ◌++◌, append_assoc}
use lib.ListN.{length, take, drop, replicate, set, length-append, length-replicate, drop_of_length-le}
use lib.Seq.{sets-eq, take_all}
use lib.Ieee.{Float}
use borrow.Rule.Slice.PartMut.{put_mid, mid_len}
use Rattle.aabb.specs.declared.vector.Vec3.{Vec3}
use Rattle.triangle.specs.declared.Triangle.{Triangle}
use Rattle.triangle.specs.Mesh.{triangle_at}
use Rattle.lent.specs.Flat.{records}
use Rattle.stl.specs.Layout.{bytes_of, narrowed, vector_bytes, record_of, records_of, file_of}
use Rattle.stl.proofs.Parts.{part_more, part_length}

-- ---- lengths
bytes_length : (w : ℕ) → length (bytes_of w) ≡ 4
unfolding bytes_of
bytes_length w = refl

number_length : (x : Float) → length (narrowed x) ≡ 4
unfolding narrowed bytes_of
number_length x = refl

vector_length : (a : Vec3) → length (vector_bytes a) ≡ 12
unfolding vector_bytes narrowed bytes_of
vector_length a = refl

pub record_length : (t : Triangle) → length (record_of t) ≡ 50
unfolding record_of vector_bytes narrowed bytes_of
record_length t = refl

-- ---- parts of room of a known length
pub mid_is : (a e m : ℕ) (xs : List ℕ) → e ≤ m → length xs ≡ m → length (take (e - a) (drop a xs)) ≡ e - a
mid_is a e m xs h l = mid_len a e xs (subst (λ (z : ℕ). e ≤ z) (sym l) h)

pub number_long : (ys : List ℕ) (x : Float) → ys ≡ narrowed x → length ys ≡ 4
number_long ys x e = ap length e ∙ number_length x

pub vector_long : (ys : List ℕ) (a : Vec3) → ys ≡ vector_bytes a → length ys ≡ 12
vector_long ys a e = ap length e ∙ vector_length a

-- ---- three numbers
module _ (out x : List ℕ) (n : length out ≡ 12) (lx : length x ≡ 4) where
  abbrev v1 : List ℕ
  v1 = put_mid 0 4 out x

  pub length_v1 : length v1 ≡ 12
  length_v1 = part_length 0 4 out x (omega arith) lx ∙ n

  module _ (y : List ℕ) (ly : length y ≡ 4) where
    abbrev v2 : List ℕ
    v2 = put_mid 4 4 v1 y

    pub length_v2 : length v2 ≡ 12
    length_v2 = part_length 4 8 v1 y (omega (arith, length_v1)) ly ∙ length_v1

    module _ (z : List ℕ) (lz : length z ≡ 4) where
      abbrev v3 : List ℕ
      v3 = put_mid 8 4 v2 z

      pub length_v3 : length v3 ≡ 12
      length_v3 = part_length 8 12 v2 z (omega (arith, length_v2)) lz ∙ length_v2

      three_are : v3 ≡ x ++ (y ++ z)
      three_are =
          let m1 : take 4 v1 ≡ x = part_more 0 4 out x [] (omega arith) (omega arith) lx refl in
          let m2 : take 8 v2 ≡ x ++ y = part_more 4 8 v1 y x (omega arith) (omega (arith, length_v1)) ly m1 in
          let m3 : take 12 v3 ≡ (x ++ y) ++ z = part_more 8 12 v2 z (x ++ y) (omega arith) (omega (arith, length_v2)) lz m2 in
          sym (take_all 12 v3 (omega (arith, length_v3))) ∙ (m3 ∙ append_assoc x y z)

pub vector_is : (out x y z : List ℕ) (a : Vec3) → length out ≡ 12 → x ≡ narrowed a.x → y ≡ narrowed a.y → z ≡ narrowed a.z → put_mid 8 4 (put_mid 4 4 (put_mid 0 4 out x) y) z ≡ vector_bytes a
unfolding vector_bytes
vector_is out x y z a n px py pz =
    three_are out x n (number_long x a.x px) y (number_long y a.y py) z (number_long z a.z pz) ∙ rw (px, py, pz)

-- ---- four vectors and two bytes
module _ (out p : List ℕ) (n : length out ≡ 50) (lp : length p ≡ 12) where
  abbrev t1 : List ℕ
  t1 = put_mid 0 12 out p

  pub length_t1 : length t1 ≡ 50
  length_t1 = part_length 0 12 out p (omega arith) lp ∙ n

  module _ (q : List ℕ) (lq : length q ≡ 12) where
    abbrev t2 : List ℕ
    t2 = put_mid 12 12 t1 q

    pub length_t2 : length t2 ≡ 50
    length_t2 = part_length 12 24 t1 q (omega (arith, length_t1)) lq ∙ length_t1

    module _ (r : List ℕ) (lr : length r ≡ 12) where
      abbrev t3 : List ℕ
      t3 = put_mid 24 12 t2 r

      pub length_t3 : length t3 ≡ 50
      length_t3 = part_length 24 36 t2 r (omega (arith, length_t2)) lr ∙ length_t2

      module _ (s : List ℕ) (ls : length s ≡ 12) where
        abbrev t4 : List ℕ
        t4 = put_mid 36 12 t3 s

        pub length_t4 : length t4 ≡ 50
        length_t4 = part_length 36 48 t3 s (omega (arith, length_t3)) ls ∙ length_t3

        four_are : set (set t4 48 0) 49 0 ≡ p ++ (q ++ (r ++ (s ++ (0 ∷ (0 ∷ [])))))
        four_are =
            let m1 : take 12 t1 ≡ p = part_more 0 12 out p [] (omega arith) (omega arith) lp refl in
            let m2 : take 24 t2 ≡ p ++ q = part_more 12 24 t1 q p (omega arith) (omega (arith, length_t1)) lq m1 in
            let m3 : take 36 t3 ≡ (p ++ q) ++ r = part_more 24 36 t2 r (p ++ q) (omega arith) (omega (arith, length_t2)) lr m2 in
            let m4 : take 48 t4 ≡ ((p ++ q) ++ r) ++ s = part_more 36 48 t3 s ((p ++ q) ++ r) (omega arith) (omega (arith, length_t3)) ls m3 in
            sets-eq (0 ∷ 0 ∷ []) t4 48 (omega (arith, length_t4))
            ∙ (ap (λ (z : List ℕ). (take 48 t4 ++ (0 ∷ (0 ∷ []))) ++ z) (drop_of_length-le t4 {i = 48 + length {A = ℕ} (0 ∷ 0 ∷ [])} (omega (arith, length_t4)))
            ∙ (ap (λ (z : List ℕ). (z ++ (0 ∷ (0 ∷ []))) ++ []) m4
            ∙ simp append_assoc))

module _ (out p q r s : List ℕ) (t : Triangle) (n : length out ≡ 50) (pp : p ≡ vector_bytes t.normal) (pq : q ≡ vector_bytes t.v0) (pr : r ≡ vector_bytes t.v1) (ps : s ≡ vector_bytes t.v2) where
  abbrev placed : List ℕ
  placed = put_mid 36 12 (put_mid 24 12 (put_mid 12 12 (put_mid 0 12 out p) q) r) s

  pub record_is : set (set placed 48 0) 49 0 ≡ record_of t
  unfolding record_of
  record_is = four_are out p n (vector_long p t.normal pp) q (vector_long q t.v0 pq) r (vector_long r t.v1 pr) s (vector_long s t.v2 ps) ∙ rw (pp, pq, pr, ps)

-- ---- n triangles
module _ (mesh : List Float) where
  pub records_none : (out : List ℕ) → take (50 * 0) out ≡ records_of mesh 0
  unfolding records_of records
  records_none out = refl

  records_next : (i : ℕ) → records_of mesh i ++ record_of (triangle_at mesh i) ≡ records_of mesh (i + 1)
  unfolding records_of records
  records_next i = rw (add-one i)

  pub records_length : (n : ℕ) → length (records_of mesh n) ≡ 50 * n
  unfolding records_of records
  records_length zero = refl
  records_length (suc n) = length-append (records_of mesh n) (record_of (triangle_at mesh n)) ∙ omega (arith, records_length n, record_length (triangle_at mesh n))

  module _ (out ys : List ℕ) (i n : ℕ) (l : length out ≡ 50 * n) (h : i < n) (e : ys ≡ record_of (triangle_at mesh i)) where
    fifty_long : length ys ≡ 50 * i + 50 - 50 * i
    fifty_long = ap length e ∙ (record_length (triangle_at mesh i) ∙ omega arith)

    pub records_more : take (50 * i) out ≡ records_of mesh i → take (50 * (i + 1)) (put_mid (50 * i) (50 * i + 50 - 50 * i) out ys) ≡ records_of mesh (i + 1)
    records_more m =
        ap (λ (k : ℕ). take k (put_mid (50 * i) (50 * i + 50 - 50 * i) out ys)) by_fifty
        ∙ (part_more (50 * i) (50 * i + 50) out ys (records_of mesh i) (omega arith) (omega arith) fifty_long m
        ∙ (ap (λ (zs : List ℕ). records_of mesh i ++ zs) e ∙ records_next i))
      where
        by_fifty : 50 * (i + 1) ≡ 50 * i + 50
        by_fifty = omega arith

    pub records_same_length : length (put_mid (50 * i) (50 * i + 50 - 50 * i) out ys) ≡ length out
    records_same_length = part_length (50 * i) (50 * i + 50) out ys (omega arith) fifty_long

-- ---- the whole file
module _ (out z w r : List ℕ) (n : ℕ) (l : length out ≡ 84 + 50 * n) (lz : length z ≡ 80) (lw : length w ≡ 4) (lr : length r ≡ 50 * n) where
  abbrev f1 : List ℕ
  f1 = put_mid 0 80 out z

  abbrev f2 : List ℕ
  f2 = put_mid 80 4 f1 w

  abbrev f3 : List ℕ
  f3 = put_mid 84 (84 + 50 * n - 84) f2 r

  pub length_f1 : length f1 ≡ 84 + 50 * n
  length_f1 = part_length 0 80 out z (omega arith) lz ∙ l

  pub length_f2 : length f2 ≡ 84 + 50 * n
  length_f2 = part_length 80 84 f1 w (omega (arith, length_f1)) lw ∙ length_f1

  records_fit : length r ≡ 84 + 50 * n - 84
  records_fit = lr ∙ omega arith

  pub length_f3 : length f3 ≡ 84 + 50 * n
  length_f3 = part_length 84 (84 + 50 * n) f2 r (omega (arith, length_f2)) records_fit ∙ length_f2

  pub file_are : f3 ≡ z ++ (w ++ r)
  file_are =
      let m1 : take 80 f1 ≡ z = part_more 0 80 out z [] (omega arith) (omega arith) lz refl in
      let m2 : take 84 f2 ≡ z ++ w = part_more 80 84 f1 w z (omega arith) (omega (arith, length_f1)) lw m1 in
      let m3 : take (84 + 50 * n) f3 ≡ (z ++ w) ++ r = part_more 84 (84 + 50 * n) f2 r (z ++ w) (omega arith) (omega (arith, length_f2)) records_fit m2 in
      sym (take_all (84 + 50 * n) f3 (omega (arith, length_f3))) ∙ (m3 ∙ append_assoc z w r)

pub file_is : (mesh : List Float) (out z w r : List ℕ) (n k : ℕ) → length out ≡ 84 + 50 * n → z ≡ replicate 80 0 → w ≡ bytes_of k → k ≡ n → r ≡ records_of mesh n → put_mid 84 (84 + 50 * n - 84) (put_mid 80 4 (put_mid 0 80 out z) w) r ≡ file_of mesh n
unfolding file_of
file_is mesh out z w r n k l pz pw pk pr = file_are out z w r n l (ap length pz ∙ length-replicate {A = ℕ} 80 0) (ap length pw ∙ bytes_length k) (ap length pr ∙ records_length mesh n) ∙ rw (pz, pw, pk, pr)
