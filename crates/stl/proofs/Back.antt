-- What was written reads back: four bytes are their word, a record its triangle, and so on up to the whole file. Assumes nothing.
use mathlib.Core.Path.{◌≡◌, refl, sym, ap, ◌∙◌}
use Prim.Native.Nat.{ℕ, zero, suc, ◌+◌, ◌*◌, ◌/◌, ◌%◌, ◌≤◌, ◌<◌}
use native.Mathlib.Nat.{add_assoc, div-div-eq-div-mul, mod-eq_of_lt}
use native.Mathlib.Omega.{arith}
use mathlib.Core.Bool.{not}
use mathlib.Core.List.{List, ◌++◌, append_assoc}
use mathlib.Core.Logic.{◌⊎◌, inl, inr}
use lib.Dec.{T}
use lib.ListN.{length, replicate, length-append, length-replicate, get_or-append}
use lib.Seq.{get_or-append-add}
use lib.Ieee.{Float, binary32, of_bits, to_bits, fits, is_nan}
use lib.Ieee.Bits.{of_bits-to_bits, to_bits-lt}
use lib.Ieee.Fits.{and_l}
use Rattle.lent.specs.Limits.{most_triangles}
use Rattle.lent.specs.Flat.{records}
use Rattle.float.specs.Single.{exactly32}
use Rattle.float.proofs.Cases.{low_or_high}
use Rattle.triangle.specs.declared.Triangle.{Triangle}
use Rattle.triangle.specs.Mesh.{triangle_at}
use Rattle.stl.specs.Layout.{word, bytes_of, widened, narrowed, vector_in, triangle_in, vector_bytes, record_of, records_of, file_of}
use Rattle.stl.specs.Writing.{exact_triangle}
use Rattle.stl.proofs.Placing.{records_length}
use Rattle.stl.proofs.Exact.{exact_three, exact_four}

-- ---- a word, in a list with another behind it or before it
module _ (xs ys : List ℕ) where
  word_left : (at : ℕ) → at + 4 ≤ length xs → word (xs ++ ys) at ≡ word xs at
  unfolding word
  word_left at h = rw (get_or-append xs ys 0 at (omega arith), get_or-append xs ys 0 (at + 1) (omega arith), get_or-append xs ys 0 (at + 2) (omega arith), get_or-append xs ys 0 (at + 3) (omega arith))

  word_right : (k : ℕ) → word (xs ++ ys) (length xs + k) ≡ word ys k
  unfolding word
  word_right k = rw (add_assoc (length xs) k 1, add_assoc (length xs) k 2, add_assoc (length xs) k 3, get_or-append-add xs ys k 0, get_or-append-add xs ys (k + 1) 0, get_or-append-add xs ys (k + 2) 0, get_or-append-add xs ys (k + 3) 0)

  vector_left : (at : ℕ) → at + 12 ≤ length xs → vector_in (xs ++ ys) at ≡ vector_in xs at
  unfolding vector_in widened
  vector_left at h = rw (word_left at (omega arith), word_left (at + 4) (omega arith), word_left (at + 8) (omega arith))

  vector_right : (k : ℕ) → vector_in (xs ++ ys) (length xs + k) ≡ vector_in ys k
  unfolding vector_in widened
  vector_right k = rw (add_assoc (length xs) k 4, add_assoc (length xs) k 8, word_right k, word_right (k + 4), word_right (k + 8))

  triangle_left : (at : ℕ) → at + 48 ≤ length xs → triangle_in (xs ++ ys) at ≡ triangle_in xs at
  unfolding triangle_in
  triangle_left at h = rw (vector_left at (omega arith), vector_left (at + 12) (omega arith), vector_left (at + 24) (omega arith), vector_left (at + 36) (omega arith))

  triangle_right : (k : ℕ) → triangle_in (xs ++ ys) (length xs + k) ≡ triangle_in ys k
  unfolding triangle_in
  triangle_right k = rw (add_assoc (length xs) k 12, add_assoc (length xs) k 24, add_assoc (length xs) k 36, vector_right k, vector_right (k + 12), vector_right (k + 24), vector_right (k + 36))

-- ---- four bytes are their word, and those of a binary32 its number
four : (w : ℕ) → w < 4294967296 → w % 256 + 256 * (w / 256 % 256) + 65536 * (w / 65536 % 256) + 16777216 * (w / 16777216 % 256) ≡ w
four w h =
    digits w (w / 256) (w / 65536) (w / 16777216) (w % 256) (w / 256 % 256) (w / 65536 % 256) (w / 16777216 % 256) (split w (w / 256) refl) (split (w / 256) (w / 65536) (div-div-eq-div-mul w 256 256)) (split (w / 65536) (w / 16777216) (div-div-eq-div-mul w 65536 256)) (mod-eq_of_lt (omega arith))
  where
    split : (x q : ℕ) → x / 256 ≡ q → x ≡ 256 * q + x % 256
    split x q e = omega arith

    digits : (w a b c r s t u : ℕ) → w ≡ 256 * a + r → a ≡ 256 * b + s → b ≡ 256 * c + t → u ≡ c → r + 256 * s + 65536 * t + 16777216 * u ≡ w
    digits w a b c r s t u p q v z = omega arith

number_back : (x : Float) → T (exactly32 x) → of_bits binary32 (to_bits binary32 x % 256 + 256 * (to_bits binary32 x / 256 % 256) + 65536 * (to_bits binary32 x / 65536 % 256) + 16777216 * (to_bits binary32 x / 16777216 % 256)) ≡ x
unfolding exactly32
number_back x p = let f : T (fits binary32 x) = and_l (fits binary32 x) (not (is_nan x)) p in ap (of_bits binary32) (four (to_bits binary32 x) (to_bits-lt binary32 x f)) ∙ of_bits-to_bits binary32 x f

record_back : (t : Triangle) → T (exact_triangle t) → triangle_in (record_of t) 0 ≡ t
unfolding triangle_in vector_in widened word record_of vector_bytes narrowed bytes_of
record_back t p =
    let q = exact_four t p in
    let a = exact_three t.v0 q.0 in
    let b = exact_three t.v1 q.1 in
    let c = exact_three t.v2 q.2 in
    let d = exact_three t.normal q.3 in
    rw (
      number_back t.v0.x a.0,
      number_back t.v0.y a.1,
      number_back t.v0.z a.2,
      number_back t.v1.x b.0,
      number_back t.v1.y b.1,
      number_back t.v1.z b.2,
      number_back t.v2.x c.0,
      number_back t.v2.y c.1,
      number_back t.v2.z c.2,
      number_back t.normal.x d.0,
      number_back t.normal.y d.1,
      number_back t.normal.z d.2,
    )

-- ---- n records
records_back : (mesh : List Float) (n : ℕ) → ((j : ℕ) → j < n → T (exact_triangle (triangle_at mesh j))) → (j : ℕ) → j < n → triangle_in (records_of mesh n) (50 * j) ≡ triangle_at mesh j
unfolding records_of records
records_back mesh zero exact j h = absurd (omega arith)
records_back mesh (suc n) exact j h = go (low_or_high j n) (λ l. records_back mesh n (λ k g. exact k (omega arith)) j l)
  where
    behind : j ≡ n → triangle_in (records_of mesh n ++ record_of (triangle_at mesh n)) (50 * j) ≡ triangle_at mesh j
    behind e =
        ap (λ (k : ℕ). triangle_in (records_of mesh n ++ record_of (triangle_at mesh n)) k) (place e)
        ∙ (triangle_right (records_of mesh n) (record_of (triangle_at mesh n)) 0
        ∙ (record_back (triangle_at mesh n) (exact n (omega arith))
        ∙ ap (triangle_at mesh) (sym e)))
      where
        place : j ≡ n → 50 * j ≡ length (records_of mesh n) + 0
        place e = omega (arith, records_length mesh n)

    go : (j < n) ⊎ (n ≤ j) → (j < n → triangle_in (records_of mesh n) (50 * j) ≡ triangle_at mesh j) → triangle_in (records_of mesh n ++ record_of (triangle_at mesh n)) (50 * j) ≡ triangle_at mesh j
    go (inl l) before = triangle_left (records_of mesh n) (record_of (triangle_at mesh n)) (50 * j) (omega (arith, records_length mesh n)) ∙ before l
    go (inr l) before = behind (omega arith)

-- ---- the file
bytes_back : (n : ℕ) → n < 4294967296 → word (bytes_of n) 0 ≡ n
unfolding word bytes_of
bytes_back n h = four n h

module _ (mesh : List Float) (n : ℕ) where
  abbrev head : List ℕ
  head = replicate 80 0 ++ bytes_of n

  head_length : length head ≡ 84
  unfolding bytes_of
  head_length = length-append (replicate 80 0) (bytes_of n) ∙ ap (λ (k : ℕ). k + 4) (length-replicate {A = ℕ} 80 0)

  file_parts : file_of mesh n ≡ head ++ records_of mesh n
  unfolding file_of
  file_parts = sym (append_assoc (replicate 80 0) (bytes_of n) (records_of mesh n))

  pub file_length_lem : length (file_of mesh n) ≡ 84 + 50 * n
  file_length_lem = ap length file_parts ∙ (length-append head (records_of mesh n) ∙ omega (arith, head_length, records_length mesh n))

  pub count_back : n ≤ most_triangles → word (file_of mesh n) 80 ≡ n
  count_back few =
      ap (λ (s : List ℕ). word s 80) file_parts
      ∙ (word_left head (records_of mesh n) 80 (omega (arith, head_length))
      ∙ (ap (λ (k : ℕ). word head k) (place (length-replicate {A = ℕ} 80 0))
      ∙ (word_right (replicate 80 0) (bytes_of n) 0 ∙ bytes_back n (omega arith))))
    where
      place : length {A = ℕ} (replicate 80 0) ≡ 80 → 80 ≡ length {A = ℕ} (replicate 80 0) + 0
      place e = omega arith

  pub triangle_back : ((j : ℕ) → j < n → T (exact_triangle (triangle_at mesh j))) → (j : ℕ) → j < n → triangle_in (file_of mesh n) (84 + 50 * j) ≡ triangle_at mesh j
  triangle_back exact j h =
      ap (λ (s : List ℕ). triangle_in s (84 + 50 * j)) file_parts
      ∙ (ap (λ (k : ℕ). triangle_in (head ++ records_of mesh n) (k + 50 * j)) (sym head_length)
      ∙ (triangle_right head (records_of mesh n) (50 * j)
      ∙ records_back mesh n exact j h))
