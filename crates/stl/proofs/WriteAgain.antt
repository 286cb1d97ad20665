-- What reading gives is a mesh of admitted triangles whose numbers are exactly binary32s; so it can be built and written, and written it is the file with its header
-- and attributes zeroed. Assumes nothing.
use Rattle.std.specs.Prelude.{None}
use mathlib.Core.Path.{◌≡◌, refl, sym, ap, ◌∙◌, subst}
use Prim.Native.Nat.{ℕ, ◌+◌, ◌*◌, ◌/◌, ◌%◌, ◌≤◌, ◌<◌}
use native.Mathlib.Nat.{add_assoc, add-zero}
use native.Mathlib.Omega.{arith}
use mathlib.Core.Bool.{Bool, not, ◌&&◌}
use mathlib.Core.List.{List, [], ◌∷◌, ◌++◌, append_assoc}
use lib.Dec.{T}
use lib.ListN.{length, take, drop, get_or, replicate}
use lib.Seq.{take_at}
use lib.Ieee.{Float, binary32, of_bits, fits, is_nan, nan_bits}
use lib.Ieee.Bits.{of_bits-fits, to_bits-of_bits, nan_bits_is}
use lib.Ieee.Fits.{and_i}
use Rattle.lent.specs.Limits.{most_triangles}
use Rattle.lent.specs.Ladder.{triangle_count}
use Rattle.lent.specs.Flat.{records}
use Rattle.float.specs.Number.{two, two_to_40}
use Rattle.float.specs.Single.{exactly32}
use Rattle.aabb.specs.Vector.{all}
use Rattle.triangle.specs.declared.Triangle.{Triangle}
use Rattle.triangle.specs.Mesh.{triangle_at, first_refused}
use Rattle.stl.specs.Layout.{file_length, word, bytes_of, widened, narrowed, vector_in, triangle_in, vector_bytes, record_of, mesh_in, records_of, file_of}
use Rattle.stl.specs.Answers.{read_as, written_as, served}
use Rattle.stl.specs.Reading.{read_stl}
use Rattle.stl.specs.Writing.{exact_triangle, first_inexact, write_stl}
use Rattle.stl.specs.RoundTrip.{Bytes, bare_record, zeroed}
use Rattle.stl.proofs.Admits.{Three, Small, Twelve, twelve_parts, number_no_nan}
use Rattle.stl.proofs.Held.{mesh_length, own_triangle, held_admitted}
use Rattle.stl.proofs.Exact.{none_inexact}
use Rattle.stl.proofs.Runs.{joined, records_same, front}
use Rattle.stl.proofs.Served.{WasRead, was_read}
use Rattle.stl.proofs.WriteLadder.{is_written}

-- ---- the mesh that was read
module _ (file : List ℕ) (triangles : List Float) (materials : List ℕ) (n : ℕ) (x : List Float) (y : List ℕ) (done : read_stl file triangles materials ≡ read_as (served n) x y) where
  abbrev seen : WasRead file triangles materials n x y
  seen = was_read file triangles materials n x y done

  abbrev mesh : List Float
  mesh = mesh_in file 84 n

  -- it stands in front of the room
  pub mesh_read : take (12 * n) x ≡ mesh
  mesh_read = ap (take (12 * n)) seen.numbers ∙ take_at mesh (drop (12 * n) triangles) (12 * n) (mesh_length file 84 n ∙ omega arith)

  -- and passes the checks of a mesh: 1, 2 and 5
  pub twelves_read : length mesh % 12 ≡ 0
  twelves_read = omega (arith, mesh_length file 84 n)

  pub count_read : triangle_count mesh ≡ n
  count_read = omega (arith, mesh_length file 84 n)

  pub few_read : triangle_count mesh ≤ most_triangles
  few_read = omega (arith, count_read, seen.few)

  pub fine_read : first_refused mesh 0 (triangle_count mesh) ≡ None
  fine_read = ap (λ (k : ℕ). first_refused mesh 0 k) count_read ∙ seen.fine

-- ---- a number of a file that is no NaN
module _ (s : List ℕ) where
  single_exact : (k : ℕ) → T (not (nan_bits binary32 (word s k))) → T (exactly32 (widened s k))
  unfolding exactly32 widened
  single_exact k p =
      and_i (fits binary32 (of_bits binary32 (word s k))) (not (is_nan (of_bits binary32 (word s k)))) (of_bits-fits binary32 (word s k))
      (subst (λ (b : Bool). T (not b)) (nan_bits_is binary32 (word s k)) p)

  module _ (limit : Float) (at : ℕ) (p : Three (Small limit s) at) where
    three_exact : T (all exactly32 (vector_in s at))
    unfolding vector_in
    three_exact =
        let a = exactly32 (widened s at) in
        let b = exactly32 (widened s (at + 4)) in
        let c = exactly32 (widened s (at + 8)) in
        and_i a (b && c) (single_exact at (number_no_nan s at limit p.x))
        (and_i b c (single_exact (at + 4) (number_no_nan s (at + 4) limit p.y)) (single_exact (at + 8) (number_no_nan s (at + 8) limit p.z)))

  module _ (at : ℕ) (p : Twelve s at) where
    read_exact : T (exact_triangle (triangle_in s at))
    unfolding exact_triangle triangle_in
    read_exact =
        let a = all exactly32 (vector_in s (at + 12)) in
        let b = all exactly32 (vector_in s (at + 24)) in
        let c = all exactly32 (vector_in s (at + 36)) in
        let d = all exactly32 (vector_in s at) in
        and_i a (b && (c && d)) (three_exact two_to_40 (at + 12) p.v0)
        (and_i b (c && d) (three_exact two_to_40 (at + 24) p.v1) (and_i c d (three_exact two_to_40 (at + 36) p.v2) (three_exact two at p.normal)))

-- ---- its bytes are those of the file
first_byte : (a b c d w : ℕ) → a < 256 → b < 256 → c < 256 → d < 256 → w ≡ a + 256 * b + 65536 * c + 16777216 * d → w % 256 ≡ a
first_byte a b c d w p q r s e = omega arith

second_byte : (a b c d w : ℕ) → a < 256 → b < 256 → c < 256 → d < 256 → w ≡ a + 256 * b + 65536 * c + 16777216 * d → w / 256 % 256 ≡ b
second_byte a b c d w p q r s e = let f : w / 256 ≡ b + 256 * c + 65536 * d = omega arith in ap (λ (z : ℕ). z % 256) f ∙ omega arith

third_byte : (a b c d w : ℕ) → a < 256 → b < 256 → c < 256 → d < 256 → w ≡ a + 256 * b + 65536 * c + 16777216 * d → w / 65536 % 256 ≡ c
third_byte a b c d w p q r s e = let f : w / 65536 ≡ c + 256 * d = omega arith in ap (λ (z : ℕ). z % 256) f ∙ omega arith

fourth_byte : (a b c d w : ℕ) → a < 256 → b < 256 → c < 256 → d < 256 → w ≡ a + 256 * b + 65536 * c + 16777216 * d → w / 16777216 % 256 ≡ d
fourth_byte a b c d w p q r s e = let f : w / 16777216 ≡ d = omega arith in ap (λ (z : ℕ). z % 256) f ∙ omega arith

module _ (s : List ℕ) (bytes : Bytes s) where
  word_small : (k : ℕ) → word s k < 4294967296
  unfolding word
  word_small k = omega (arith, bytes k, bytes (k + 1), bytes (k + 2), bytes (k + 3))

  four_front : (k : ℕ) → k + 4 ≤ length s → take 4 (drop k s) ≡ get_or s k 0 ∷ get_or s (k + 1) 0 ∷ get_or s (k + 2) 0 ∷ get_or s (k + 3) 0 ∷ []
  four_front k h = ap (λ (i : ℕ). take 4 (drop i s)) (sym (add-zero k)) ∙ front s 0 k 4 0 (omega arith) ∙ ap (λ (i : ℕ). get_or s i 0 ∷ get_or s (k + 1) 0 ∷ get_or s (k + 2) 0 ∷ get_or s (k + 3) 0 ∷ []) (add-zero k)

  four_bytes : (k : ℕ) → k + 4 ≤ length s → bytes_of (word s k) ≡ take 4 (drop k s)
  unfolding bytes_of word
  four_bytes k h =
      let a = get_or s k 0 in
      let b = get_or s (k + 1) 0 in
      let c = get_or s (k + 2) 0 in
      let d = get_or s (k + 3) 0 in
      let w = a + 256 * b + 65536 * c + 16777216 * d in
      (λ i. first_byte a b c d w (bytes k) (bytes (k + 1)) (bytes (k + 2)) (bytes (k + 3)) refl i
      ∷ second_byte a b c d w (bytes k) (bytes (k + 1)) (bytes (k + 2)) (bytes (k + 3)) refl i
      ∷ third_byte a b c d w (bytes k) (bytes (k + 1)) (bytes (k + 2)) (bytes (k + 3)) refl i
      ∷ fourth_byte a b c d w (bytes k) (bytes (k + 1)) (bytes (k + 2)) (bytes (k + 3)) refl i
      ∷ [])
      ∙ sym (four_front k h)

  narrowed_back : (k : ℕ) → k + 4 ≤ length s → T (not (nan_bits binary32 (word s k))) → narrowed (widened s k) ≡ take 4 (drop k s)
  unfolding narrowed widened
  narrowed_back k h p =
      ap bytes_of (to_bits-of_bits binary32 (word s k) (word_small k) (subst (λ (b : Bool). T (not b)) (nan_bits_is binary32 (word s k)) p)) ∙ four_bytes k h

  module _ (limit : Float) (at : ℕ) (p : Three (Small limit s) at) (h : at + 12 ≤ length s) where
    vector_bytes_lem : vector_bytes (vector_in s at) ≡ take 12 (drop at s)
    unfolding vector_bytes vector_in
    vector_bytes_lem =
        let a = narrowed_back at (omega arith) (number_no_nan s at limit p.x) in
        let b = narrowed_back (at + 4) (omega arith) (number_no_nan s (at + 4) limit p.y) in
        let c = narrowed_back (at + 8) (omega arith) (number_no_nan s (at + 8) limit p.z) in
        (λ i. a i ++ (b i ++ c i))
        ∙ ap (λ (k : ℕ). take 4 (drop at s) ++ (take 4 (drop (at + 4) s) ++ take 4 (drop k s))) (sym (add_assoc at 4 4))
        ∙ ap (λ (z : List ℕ). take 4 (drop at s) ++ z) (joined s (at + 4) 4 4)
        ∙ joined s at 4 8

  module _ (at : ℕ) (p : Twelve s at) (h : at + 48 ≤ length s) where
    record_bytes : record_of (triangle_in s at) ≡ take 48 (drop at s) ++ (0 ∷ (0 ∷ []))
    unfolding record_of triangle_in
    record_bytes =
        let a = vector_bytes_lem two at p.normal (omega arith) in
        let b = vector_bytes_lem two_to_40 (at + 12) p.v0 (omega arith) in
        let c = vector_bytes_lem two_to_40 (at + 24) p.v1 (omega arith) in
        let d = vector_bytes_lem two_to_40 (at + 36) p.v2 (omega arith) in
        let none : List ℕ = 0 ∷ (0 ∷ []) in
        (λ i. a i ++ (b i ++ (c i ++ (d i ++ none))))
        ∙ five (take 12 (drop at s)) (take 12 (drop (at + 12) s)) (take 12 (drop (at + 24) s)) (take 12 (drop (at + 36) s)) none
        ∙ ap (λ (z : List ℕ). z ++ none)
        (ap (λ (k : ℕ). take 12 (drop at s) ++ (take 12 (drop (at + 12) s) ++ (take 12 (drop (at + 24) s) ++ take 12 (drop k s)))) (sym (add_assoc at 24 12))
        ∙ ap (λ (z : List ℕ). take 12 (drop at s) ++ (take 12 (drop (at + 12) s) ++ z)) (joined s (at + 24) 12 12)
        ∙ ap (λ (k : ℕ). take 12 (drop at s) ++ (take 12 (drop (at + 12) s) ++ take 24 (drop k s))) (sym (add_assoc at 12 12))
        ∙ ap (λ (z : List ℕ). take 12 (drop at s) ++ z) (joined s (at + 12) 12 24)
        ∙ joined s at 12 36)
      where
        five : (a b c d e : List ℕ) → a ++ (b ++ (c ++ (d ++ e))) ≡ (a ++ (b ++ (c ++ d))) ++ e
        five a b c d e = sym (append_assoc a (b ++ (c ++ d)) e ∙ ap (λ (z : List ℕ). a ++ z) (append_assoc b (c ++ d) e ∙ ap (λ (z : List ℕ). b ++ z) (append_assoc c d e)))

-- ---- the whole file
module _ (file : List ℕ) (triangles : List Float) (materials : List ℕ) (n : ℕ) (x : List Float) (y : List ℕ) (bytes : Bytes file) (done : read_stl file triangles materials ≡ read_as (served n) x y) where
  abbrev held : WasRead file triangles materials n x y
  held = seen file triangles materials n x y done

  abbrev kept : List Float
  kept = mesh_in file 84 n

  twelve : (j : ℕ) → j < n → Twelve file (84 + 50 * j)
  twelve j l = twelve_parts file (84 + 50 * j) (held_admitted file 84 n held.fine j l)

  exact_each : (j : ℕ) → j < n → T (exact_triangle (triangle_at kept j))
  exact_each j l = subst (λ (t : Triangle). T (exact_triangle t)) (sym (own_triangle file 84 n j l)) (read_exact file (84 + 50 * j) (twelve j l))

  exact_all : first_inexact kept 0 (triangle_count kept) ≡ None
  exact_all = none_inexact kept (triangle_count kept) 0 (λ j p q. exact_each j (omega (arith, q, count_read file triangles materials n x y done)))

  records_are : records_of kept n ≡ records (bare_record file) n
  unfolding records_of bare_record
  records_are = records_same (λ i. record_of (triangle_at kept i)) (λ i. take 48 (drop (84 + 50 * i) file) ++ (0 ∷ (0 ∷ []))) n (λ i l. ap record_of (own_triangle file 84 n i l) ∙ record_bytes file bytes (84 + 50 * i) (twelve i l) (omega (arith, held.long, l)))

  file_is : file_of kept n ≡ zeroed file n
  unfolding file_of zeroed
  file_is =
      let c = ap bytes_of (sym held.count) ∙ four_bytes file bytes 80 (omega (arith, held.long)) in
      λ i. replicate 80 0 ++ (c i ++ records_are i)

  -- Rule L6: writing what was read gives the file with its header and attributes zeroed
  pub writes_again : (room : List ℕ) → file_length n ≤ length room → write_stl (take (12 * n) x) room ≡ written_as (served (file_length n)) (zeroed file n ++ drop (file_length n) room)
  writes_again room roomy =
      let count = count_read file triangles materials n x y done in
      let whole = ap (λ (k : ℕ). file_length k) (sym count) in
      ap (λ (m : List Float). write_stl m room) (mesh_read file triangles materials n x y done)
      ∙ sym
      (ap (λ (k : ℕ). written_as (served k) (zeroed file n ++ drop (file_length n) room)) whole
      ∙ is_written kept room (twelves_read file triangles materials n x y done) (few_read file triangles materials n x y done) None (sym (fine_read file triangles materials n x y done)) refl None (sym exact_all) refl
      _ (subst (λ (k : ℕ). k ≤ length room) whole roomy)
      (ap (λ (z : List ℕ). z ++ drop (file_length n) room) (sym file_is ∙ ap (λ (k : ℕ). file_of kept k) (sym count)) ∙ ap (λ (k : ℕ). file_of kept (triangle_count kept) ++ drop k room) whole))
