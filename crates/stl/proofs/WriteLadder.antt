-- A writing that no check refuses writes the file. Assumes nothing.
use Rattle.std.specs.Prelude.{Option, None}
use mathlib.Core.Path.{◌≡◌, sym, ap, ◌∙◌}
use Prim.Native.Nat.{ℕ, ◌%◌, ◌≤◌}
use mathlib.Core.List.{List, ◌++◌}
use lib.ListN.{length, drop}
use lib.Ieee.{Float}
use Rattle.lent.specs.Limits.{most_triangles}
use Rattle.lent.specs.Ladder.{triangle_count}
use Rattle.lent.proofs.Ladder.{ends, serves, goes, agree, not_below}
use Rattle.triangle.specs.Mesh.{first_refused, unadmitted}
use Rattle.stl.specs.Layout.{file_length, file_of}
use Rattle.stl.specs.Answers.{written_as, served}
use Rattle.stl.specs.Writing.{first_inexact, inexact, write_count, write_stl}
use Rattle.stl.proofs.Rungs.{passes}

module _ (mesh : List Float) (file : List ℕ) where
  abbrev n : ℕ
  n = triangle_count mesh

  -- where no check fails, the file is written
  module _ (twelves : length mesh % 12 ≡ 0) (few : n ≤ most_triangles) (f : Option ℕ) (is : f ≡ first_refused mesh 0 n) (fit : f ≡ None) (g : Option ℕ) (lowest : g ≡ first_inexact mesh 0 n) (exact : g ≡ None) where
    pub is_written : (x : List ℕ) → file_length n ≤ length file → x ≡ file_of mesh n ++ drop (file_length n) file → written_as (served (file_length n)) x ≡ write_stl mesh file
    unfolding write_stl write_count unadmitted inexact
    is_written x h e =
        ends (goes (agree twelves) (goes (not_below few) (passes (ap unadmitted (sym is ∙ fit)) (passes (ap inexact (sym lowest ∙ exact)) (goes (not_below h) (serves (ap (written_as (served (file_length n))) e)))))))
