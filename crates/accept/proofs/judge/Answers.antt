-- Each condition in its turn: what breaks decides, what holds leaves the verdict to those after it. Assumes nothing.
use mathlib.Core.Path.{sym, ◌∙◌, ap}
use native.Mathlib.Omega.{arith}
use Prim.Native.Nat.{◌≤◌}
use Rattle.std.proofs.lemmas.Result.{err_from_is_err_and}
use Rattle.lent.specs.Limits.{most_nodes}
use Rattle.tree.specs.Lent.{Lists, node_count}
use Rattle.accept.specs.Conditions.{foreign}
use Rattle.accept.specs.Accept.{from_2, from_6}
use Rattle.accept.proofs.Verdicts.{says_1, says_2, says_3, says_4, says_5, says_6, family}
use Rattle.accept.proofs.judge.Goals as goal

pub returns-in_err-met-clause-value : goal.returns-in_err-met-clause-value
returns-in_err-met-clause-value c =
    let a = c.args in
    let t = a.tree.now in
    let s = foreign a.triangles.now t.index t.boxes t.links in
    let m1 = says_1 s _ c.first_faulty.ensures in
    let p = err_from_is_err_and c.from_residual.result c.from_residual.ensures.1 in
    rw (p.1, p.2) (m1.broken c.met.ensures c.in_err-met.was)

pub returns-in_err-met-2-clause-value : goal.returns-in_err-met-2-clause-value
returns-in_err-met-2-clause-value c =
    let a = c.args in
    let t = a.tree.now in
    let s = foreign a.triangles.now t.index t.boxes t.links in
    let m1 = says_1 s _ c.first_faulty.ensures in
    let i = c.tree.inside in
    let s' = foreign a.triangles.now i.index.now i.boxes.now i.links.now in
    let few : node_count i.links.now ≤ most_nodes = omega (arith, ap (λ (t : Lists). node_count t.links) c.tree.view_is) in
    let w2 = ap (λ (t : Lists). from_2 (foreign a.triangles.now t.index t.boxes t.links)) c.tree.view_is ∙ (m1.holds c.met.ensures c.in_ok-met.was).1 in
    let m2 = says_2 s' _ few c.name_parents.new.work c.name_parents.ensures.by_index c.first_orphan.ensures in
    let p = err_from_is_err_and c.from_residual-in_err-met-2.result c.from_residual-in_err-met-2.ensures.1 in
    rw (p.1, p.2) (m2.broken c.met-2.ensures c.in_err-met-2.was ∙ w2)

pub returns-in_err-met-3-clause-value : goal.returns-in_err-met-3-clause-value
returns-in_err-met-3-clause-value c =
    let a = c.args in
    let t = a.tree.now in
    let s = foreign a.triangles.now t.index t.boxes t.links in
    let m1 = says_1 s _ c.first_faulty.ensures in
    let i = c.tree.inside in
    let s' = foreign a.triangles.now i.index.now i.boxes.now i.links.now in
    let few : node_count i.links.now ≤ most_nodes = omega (arith, ap (λ (t : Lists). node_count t.links) c.tree.view_is) in
    let w2 = ap (λ (t : Lists). from_2 (foreign a.triangles.now t.index t.boxes t.links)) c.tree.view_is ∙ (m1.holds c.met.ensures c.in_ok-met.was).1 in
    let m2 = says_2 s' _ few c.name_parents.new.work c.name_parents.ensures.by_index c.first_orphan.ensures in
    let h2 = m2.holds c.met-2.ensures c.in_ok-met-2.was in
    let w3 = h2.1 ∙ w2 in
    let m3 = says_3 s' _ few c.name_parents.new.work c.name_parents.ensures.by_index (family s' _ few c.name_parents.new.work c.name_parents.ensures.by_index c.first_orphan.ensures h2.0) c.first_unreached.ensures in
    let p = err_from_is_err_and c.from_residual-in_err-met-3.result c.from_residual-in_err-met-3.ensures.1 in
    rw (p.1, p.2) (m3.broken c.met-3.ensures c.in_err-met-3.was ∙ w3)

pub returns-in_err-met-4-clause-value : goal.returns-in_err-met-4-clause-value
returns-in_err-met-4-clause-value c =
    let a = c.args in
    let t = a.tree.now in
    let s = foreign a.triangles.now t.index t.boxes t.links in
    let m1 = says_1 s _ c.first_faulty.ensures in
    let i = c.tree.inside in
    let s' = foreign a.triangles.now i.index.now i.boxes.now i.links.now in
    let few : node_count i.links.now ≤ most_nodes = omega (arith, ap (λ (t : Lists). node_count t.links) c.tree.view_is) in
    let w2 = ap (λ (t : Lists). from_2 (foreign a.triangles.now t.index t.boxes t.links)) c.tree.view_is ∙ (m1.holds c.met.ensures c.in_ok-met.was).1 in
    let m2 = says_2 s' _ few c.name_parents.new.work c.name_parents.ensures.by_index c.first_orphan.ensures in
    let h2 = m2.holds c.met-2.ensures c.in_ok-met-2.was in
    let w3 = h2.1 ∙ w2 in
    let m3 = says_3 s' _ few c.name_parents.new.work c.name_parents.ensures.by_index (family s' _ few c.name_parents.new.work c.name_parents.ensures.by_index c.first_orphan.ensures h2.0) c.first_unreached.ensures in
    let w4 = (m3.holds c.met-3.ensures c.in_ok-met-3.was).1 ∙ w3 in
    let m4 = says_4 s' _ c.first_uncovered.ensures.value in
    let p = err_from_is_err_and c.from_residual-in_err-met-4.result c.from_residual-in_err-met-4.ensures.1 in
    rw (p.1, p.2) (m4.broken c.met-4.ensures c.in_err-met-4.was ∙ w4)

pub returns-in_err-met-5-clause-value : goal.returns-in_err-met-5-clause-value
returns-in_err-met-5-clause-value c =
    let a = c.args in
    let t = a.tree.now in
    let s = foreign a.triangles.now t.index t.boxes t.links in
    let m1 = says_1 s _ c.first_faulty.ensures in
    let i = c.tree.inside in
    let s' = foreign a.triangles.now i.index.now i.boxes.now i.links.now in
    let few : node_count i.links.now ≤ most_nodes = omega (arith, ap (λ (t : Lists). node_count t.links) c.tree.view_is) in
    let w2 = ap (λ (t : Lists). from_2 (foreign a.triangles.now t.index t.boxes t.links)) c.tree.view_is ∙ (m1.holds c.met.ensures c.in_ok-met.was).1 in
    let m2 = says_2 s' _ few c.name_parents.new.work c.name_parents.ensures.by_index c.first_orphan.ensures in
    let h2 = m2.holds c.met-2.ensures c.in_ok-met-2.was in
    let w3 = h2.1 ∙ w2 in
    let m3 = says_3 s' _ few c.name_parents.new.work c.name_parents.ensures.by_index (family s' _ few c.name_parents.new.work c.name_parents.ensures.by_index c.first_orphan.ensures h2.0) c.first_unreached.ensures in
    let w4 = (m3.holds c.met-3.ensures c.in_ok-met-3.was).1 ∙ w3 in
    let m4 = says_4 s' _ c.first_uncovered.ensures.value in
    let w5 = (m4.holds c.met-4.ensures c.in_ok-met-4.was).1 ∙ w4 in
    let m5 = says_5 s' _ c.first_misplaced.ensures.value in
    let p = err_from_is_err_and c.from_residual-in_err-met-5.result c.from_residual-in_err-met-5.ensures.1 in
    rw (p.1, p.2) (m5.broken c.met-5.ensures c.in_err-met-5.was ∙ w5)

pub returns-clause-value : goal.returns-clause-value
returns-clause-value c =
    let a = c.args in
    let t = a.tree.now in
    let s = foreign a.triangles.now t.index t.boxes t.links in
    let m1 = says_1 s _ c.first_faulty.ensures in
    let i = c.tree.inside in
    let s' = foreign a.triangles.now i.index.now i.boxes.now i.links.now in
    let few : node_count i.links.now ≤ most_nodes = omega (arith, ap (λ (t : Lists). node_count t.links) c.tree.view_is) in
    let w2 = ap (λ (t : Lists). from_2 (foreign a.triangles.now t.index t.boxes t.links)) c.tree.view_is ∙ (m1.holds c.met.ensures c.in_ok-met.was).1 in
    let m2 = says_2 s' _ few c.name_parents.new.work c.name_parents.ensures.by_index c.first_orphan.ensures in
    let h2 = m2.holds c.met-2.ensures c.in_ok-met-2.was in
    let w3 = h2.1 ∙ w2 in
    let m3 = says_3 s' _ few c.name_parents.new.work c.name_parents.ensures.by_index (family s' _ few c.name_parents.new.work c.name_parents.ensures.by_index c.first_orphan.ensures h2.0) c.first_unreached.ensures in
    let w4 = (m3.holds c.met-3.ensures c.in_ok-met-3.was).1 ∙ w3 in
    let m4 = says_4 s' _ c.first_uncovered.ensures.value in
    let w5 = (m4.holds c.met-4.ensures c.in_ok-met-4.was).1 ∙ w4 in
    let m5 = says_5 s' _ c.first_misplaced.ensures.value in
    let w6 = (m5.holds c.met-5.ensures c.in_ok-met-5.was).1 ∙ w5 in
    c.met-6.ensures ∙ says_6 s _ c.first_loose.ensures ∙ sym (ap (λ (t : Lists). from_6 (foreign a.triangles.now t.index t.boxes t.links)) c.tree.view_is) ∙ w6
