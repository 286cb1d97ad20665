-- What `put_file` asks, by what was tested. Assumes nothing.
use mathlib.Core.Path.{sym, ◌∙◌}
use Prim.Native.Nat.{◌+◌, ◌-◌, ◌*◌}
use native.Mathlib.Omega.{arith}
use lib.Seq.{length-take-le}
use Rattle.stl.proofs.Exact.{all_exact}
use Rattle.stl.proofs.write.Goals as goal

pub put_file-requires : goal.put_file-requires
put_file-requires c =
    let a = c.args in
    let n = c.in_ok-n.n in (
      c.in_ok-n.ensures.few,
      length-take-le (84 + 50 * n - 0) a.file.now (omega (arith, c.if-file-whole.false)) ∙ omega arith,
      λ j h. all_exact a.triangles.now n 0 j (sym c.first_inexact.ensures ∙ c.in_default-first_inexact.is) (omega arith) (omega (arith, h)),
    )
