-- Each return is a step of the ladder. Assumes nothing.
use Rattle.std.proofs.Common.{rules}
use mathlib.Core.Path.{refl, sym, ap, ◌∙◌}
use Prim.Native.Nat.{ℕ, ◌+◌, ◌-◌, ◌*◌}
use native.Mathlib.Nat.{sub-zero}
use native.Mathlib.Omega.{arith}
use lib.Seq.{length-take-le}
use lib.ListN.{replicate}
use Rattle.stl.specs.Layout.{mesh_in}
use Rattle.stl.specs.Answers.{told}
use Rattle.stl.proofs.Held.{held_admitted}
use Rattle.stl.proofs.Rungs.{front_room}
use Rattle.stl.proofs.ReadLadder.{counted, cut, other_length, too_many, triangle_room, material_room, unfit, is_read}
use Rattle.stl.proofs.reading.read_from.Goals.{then-length-lt4-via-then-length-lt4, then-length-lt4-via-else-length-lt4+then-length-at, then-triangles-numbers-via-then-triangles-numbers, then-triangles-numbers-via-else-triangles-numbers+then-materials-n}
use Rattle.stl.proofs.reading.read_from.Goals as goal

pub returns-then-length-lt4 : goal.returns-then-length-lt4
unfolding told
returns-then-length-lt4 c =
    let a = c.args in
    counted a.file.now a.at _ a.triangles.now a.materials.now _ refl (cut a.file.now a.at _ a.triangles.now a.materials.now
    (elim c.then-length-lt4.branch [ then-length-lt4-via-then-length-lt4 w ↦ omega (arith, w.if-length-lt4.true) | then-length-lt4-via-else-length-lt4+then-length-at w ↦ omega (arith, w.if-length-lt4.false, w.if-length-at.true) ]))

pub returns-then-length-first : goal.returns-then-length-first
unfolding told
returns-then-length-first c =
    let a = c.args in
    let n = c.word-n.result in
    counted a.file.now a.at n a.triangles.now a.materials.now _ c.word-n.ensures (other_length a.file.now a.at n a.triangles.now a.materials.now (omega (arith, c.if-length-at.false, c.if-length-lt4.false)) (λ e. c.if-length-first.true (omega (arith, e))))

pub returns-then-n-gt-MOST_TRIANGLES : goal.returns-then-n-gt-MOST_TRIANGLES
unfolding told
returns-then-n-gt-MOST_TRIANGLES c =
    let a = c.args in
    let n = c.word-n.result in
    counted a.file.now a.at n a.triangles.now a.materials.now _ c.word-n.ensures (too_many a.file.now a.at n a.triangles.now a.materials.now (omega (arith, c.if-length-first.false, c.if-length-at.false, c.if-length-lt4.false)) c.if-n-gt-MOST_TRIANGLES.true)

pub returns-then-triangles-numbers : goal.returns-then-triangles-numbers
unfolding told
returns-then-triangles-numbers c =
    let a = c.args in
    let n = c.word-n.result in
    counted a.file.now a.at n a.triangles.now a.materials.now _ c.word-n.ensures
    (elim c.then-triangles-numbers.branch [
      | then-triangles-numbers-via-then-triangles-numbers w ↦ triangle_room a.file.now a.at n a.triangles.now a.materials.now (omega (arith, c.if-length-first.false, c.if-length-at.false, c.if-length-lt4.false)) c.if-n-gt-MOST_TRIANGLES.false w.if-triangles-numbers.true
      | then-triangles-numbers-via-else-triangles-numbers+then-materials-n w ↦ material_room a.file.now a.at n a.triangles.now a.materials.now (omega (arith, c.if-length-first.false, c.if-length-at.false, c.if-length-lt4.false)) c.if-n-gt-MOST_TRIANGLES.false w.if-triangles-numbers.false w.if-materials-n.true
    ])

pub returns-in-Some : goal.returns-in-Some
unfolding told
returns-in-Some c =
    let a = c.args in
    let n = c.word-n.result in
    counted a.file.now a.at n a.triangles.now a.materials.now _ c.word-n.ensures
    (unfit a.file.now a.at n a.triangles.now a.materials.now (omega (arith, c.if-length-first.false, c.if-length-at.false, c.if-length-lt4.false)) c.if-n-gt-MOST_TRIANGLES.false c.if-triangles-numbers.false c.if-materials-n.false c.first_refused.result c.first_refused.ensures _ c.in-Some.is)

pub fill-requires : goal.fill-requires
fill-requires c =
    let a = c.args in
    let n = c.word-n.result in (
      omega (arith, c.if-length-first.false, c.if-length-at.false, c.if-length-lt4.false),
      length-take-le (12 * n - 0) a.triangles.now (omega (arith, c.if-triangles-numbers.false)) ∙ omega arith,
      held_admitted a.file.now (a.at + 4) n (sym c.first_refused.ensures ∙ c.in_default.is),
    )

pub returns : goal.returns
unfolding told
returns c =
    let a = c.args in
    let n = c.word-n.result in
    counted a.file.now a.at n a.triangles.now a.materials.now _ c.word-n.ensures
    (is_read a.file.now a.at n a.triangles.now a.materials.now (omega (arith, c.if-length-first.false, c.if-length-at.false, c.if-length-lt4.false)) c.if-n-gt-MOST_TRIANGLES.false c.if-triangles-numbers.false c.if-materials-n.false c.first_refused.result c.first_refused.ensures _ _ c.in_default.is
    (front_room _ (mesh_in a.file.now (a.at + 4) n) a.triangles.now (12 * n) c.fill.ensures)
    (front_room _ (replicate n 0) a.materials.now n (c.fill-2.ensures.after (λ y e. search rules) ∙ ap (λ (k : ℕ). replicate k 0) (length-take-le (n - 0) a.materials.now (omega (arith, c.if-materials-n.false)) ∙ sub-zero n))))
