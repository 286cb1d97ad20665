-- Each return of a reading is a step of its ladder. Assumes nothing.
use Rattle.std.specs.Prelude.{Option, Some, None}
use mathlib.Core.Path.{◌≡◌, refl, sym, ap, ◌∙◌}
use Prim.Native.Nat.{ℕ, ◌+◌, ◌*◌, ◌≤◌, ◌<◌}
use native.Mathlib.Omega.{arith}
use mathlib.Core.List.{List, ◌++◌}
use lib.ListN.{length, drop, replicate}
use lib.Ieee.{Float}
use Rattle.lent.specs.Limits.{most_triangles}
use Rattle.lent.proofs.Ladder.{ends, serves, stops, goes, differ, agree, below, not_below}
use Rattle.triangle.specs.Mesh.{first_refused, unadmitted}
use Rattle.stl.specs.Layout.{word, mesh_in}
use Rattle.stl.specs.Answers.{Read, read_as, served, refused}
use Rattle.stl.specs.Reading.{read_count, read_from}
use Rattle.stl.proofs.Rungs.{fails, passes}

module _ (file : List ℕ) (at n : ℕ) (triangles : List Float) (materials : List ℕ) where
  -- what is answered for n is answered for the count that is n
  pub counted : (r : Read) → n ≡ word file at → r ≡ read_count file at n triangles materials → r ≡ read_from file at triangles materials
  unfolding read_from
  counted r is e = e ∙ ap (λ (k : ℕ). read_count file at k triangles materials) is

  abbrev refusing : ℕ → ℕ → Read
  refusing number place = read_as (refused number place) triangles materials

  abbrev answer : Read
  answer = read_count file at n triangles materials

  pub cut : length file < at + 4 → refusing 15 0 ≡ answer
  unfolding read_count
  cut h = ends (stops (below h) refl)

  pub other_length : at + 4 ≤ length file → (length file ≡ at + 4 + 50 * n → ⊥) → refusing 15 0 ≡ answer
  unfolding read_count
  other_length h o = ends (goes (not_below h) (stops (differ o) refl))

  module _ (long : length file ≡ at + 4 + 50 * n) where
    whole : at + 4 ≤ length file
    whole = omega (arith, long)

    pub too_many : most_triangles < n → refusing 2 n ≡ answer
    unfolding read_count
    too_many h = ends (goes (not_below whole) (goes (agree long) (stops (below h) refl)))

    module _ (few : n ≤ most_triangles) where
      pub triangle_room : length triangles < 12 * n → refusing 16 0 ≡ answer
      unfolding read_count
      triangle_room h = ends (goes (not_below whole) (goes (agree long) (goes (not_below few) (stops (below h) refl))))

      module _ (ample : 12 * n ≤ length triangles) where
        pub material_room : length materials < n → refusing 16 0 ≡ answer
        unfolding read_count
        material_room h = ends (goes (not_below whole) (goes (agree long) (goes (not_below few) (goes (not_below ample) (stops (below h) refl)))))

        module _ (roomy : n ≤ length materials) (f : Option ℕ) (is : f ≡ first_refused (mesh_in file (at + 4) n) 0 n) where
          pub unfit : (i : ℕ) → f ≡ Some i → refusing 5 i ≡ answer
          unfolding read_count unadmitted
          unfit i p = ends (goes (not_below whole) (goes (agree long) (goes (not_below few) (goes (not_below ample) (goes (not_below roomy) (fails (ap unadmitted (sym is ∙ p)) refl))))))

          pub is_read : (x : List Float) (y : List ℕ) → f ≡ None → x ≡ mesh_in file (at + 4) n ++ drop (12 * n) triangles → y ≡ replicate n 0 ++ drop n materials → read_as (served n) x y ≡ answer
          unfolding read_count unadmitted
          is_read x y p q r =
              ends (goes (not_below whole) (goes (agree long) (goes (not_below few) (goes (not_below ample) (goes (not_below roomy) (passes (ap unadmitted (sym is ∙ p)) (serves (λ z. read_as (served n) (q z) (r z)))))))))
