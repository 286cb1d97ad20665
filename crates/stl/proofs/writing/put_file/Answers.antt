-- The header, the count and the triangles, one after the other. Assumes nothing.
use Rattle.std.proofs.Common.{rules}
use mathlib.Core.Path.{refl, ap, ◌∙◌}
use Prim.Native.Nat.{ℕ, ◌+◌, ◌*◌}
use native.Mathlib.Omega.{arith}
use lib.ListN.{replicate}
use Rattle.stl.proofs.Placing.{mid_is, file_is}
use Rattle.stl.proofs.writing.put_file.Goals as goal

pub returns : goal.returns
returns c =
    let a = c.args in
    let p = c.requires in
    file_is a.mesh.now a.out.now c.fill.new.self c.put_word.new.out c.put_triangles.new.out a.n a.n p.1
    (c.fill.ensures.after (λ y e. search rules) ∙ ap (λ (k : ℕ). replicate k 0) (mid_is 0 80 (84 + 50 * a.n) a.out.now (omega arith) p.1)) c.put_word.ensures refl c.put_triangles.ensures
