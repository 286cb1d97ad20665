-- The call answers that the lists are accepted exactly where no check fails and no condition breaks. Assumes nothing.
use mathlib.Core.Path.{◌≡◌, refl, sym, ◌∙◌, ap}
use mathlib.Core.Bool.{Bool, true, false, cond}
use mathlib.Core.List.{List}
use Prim.Native.Nat.{ℕ, ◌+◌, ◌%◌, ◌≤◌, ◌<◌}
use native.Mathlib.Omega.{arith}
use lib.Dec.{ltb, eqb}
use lib.ListN.{length, replicate}
use borrow.Author.Tests.{eqb-true, not-false, ltb-false, le-ltb}
use Rattle.lent.specs.Limits.{most_triangles}
use Rattle.lent.proofs.Ladder.{all_passed, ends, goes, agree, not_below}
use Rattle.triangle.specs.Mesh.{first_refused}
use Rattle.triangle.proofs.Admitting.{none_refused, all_admitted, none_unadmitted, none_bad}
use Rattle.tree.specs.Lent.{Lent}
use Rattle.std.specs.Prelude.{Option, Some, None, Ok, Err}
use Rattle.lent.specs.Ladder.{none, numbered}
use Rattle.lent.specs.Lowest.{lowest}
use Rattle.lent.proofs.Lowest.{none_from, none_below}
use Rattle.accept.specs.declared.rejection.Condition.{Condition}
use Rattle.accept.specs.declared.rejection.Condition.TheVariants.{Faultless, OneParent, Reached, Covered, Permutation, Enclosed}
use Rattle.accept.specs.declared.rejection.Rejection.TheVariants.{Refused, Broken}
use Rattle.accept.specs.Conditions.{nodes, meshed, breaks_1, breaks_2, breaks_3, breaks_4, breaks_5, breaks_6}
use Rattle.accept.specs.Accept.{Verdict, fine, else, lacking, from_2, from_3, from_4, from_5, from_6, judged, Ruling, ruling, other, Outcome, outcome, accepted}
use Rattle.trusted.specs.Meets.{Sound, Roomy, Meets}

-- ---- where the verdict is good, no condition breaks
kept : (c : Condition) (p : Option ℕ) (v : Verdict) → else c p v ≡ fine → (p ≡ None) × (v ≡ fine)
kept c (Some i) v e = let z : ◌≡◌ {A = ℕ} 0 1 = cc in absurd (omega arith)
kept c None v e = (refl, e)

nothing_lacks : (n : ℕ) (index : List ℕ) (p : Option ℕ) → lacking n index p ≡ None → (p ≡ None) × (n ≤ length index)
unfolding lacking
nothing_lacks n index (Some p) e = let z : ◌≡◌ {A = ℕ} 0 1 = cc in absurd (omega arith)
nothing_lacks n index None e = (refl, ltb-false (length index) n (go (ltb (length index) n) e))
  where
    go : (t : Bool) → cond t (Some (length index)) None ≡ None → t ≡ false
    go true w = let z : ◌≡◌ {A = ℕ} 0 1 = cc in absurd (omega arith)
    go false w = refl

clear : (p : ℕ → Bool) (n : ℕ) → lowest p 0 n ≡ None → (i : ℕ) → i < n → p i ≡ false
clear p n e i l = none_from p 0 n e i (omega arith) (omega arith)

judged_meets : (s : Lent) → judged s ≡ fine → Meets s
unfolding judged from_2 from_3 from_4 from_5 from_6
judged_meets s e =
    let a = kept Faultless (lowest (breaks_1 s) 0 (nodes s)) (from_2 s) e in
    let b = kept OneParent (lowest (breaks_2 s) 0 (nodes s)) (from_3 s) a.1 in
    let c = kept Reached (lowest (breaks_3 s) 0 (nodes s)) (from_4 s) b.1 in
    let d = kept Covered (lowest (breaks_4 s) 0 (length s.tree.index)) (from_5 s) c.1 in
    let f = kept Permutation (lacking (meshed s) s.tree.index (lowest (breaks_5 s) 0 (length s.tree.index))) (from_6 s) d.1 in
    let g = nothing_lacks (meshed s) s.tree.index (lowest (breaks_5 s) 0 (length s.tree.index)) f.0 in
    let h = kept Enclosed (lowest (breaks_6 s) 0 (nodes s)) fine f.1 in
    record {
      one = clear (breaks_1 s) (nodes s) a.0;
      two = clear (breaks_2 s) (nodes s) b.0;
      three = clear (breaks_3 s) (nodes s) c.0;
      four = clear (breaks_4 s) (length s.tree.index) d.0;
      five = clear (breaks_5 s) (length s.tree.index) g.0;
      long = g.1;
      six = clear (breaks_6 s) (nodes s) h.0;
    }

-- ---- and the other way
none_of : (p : ℕ → Bool) (n : ℕ) → ((j : ℕ) → j < n → p j ≡ false) → lowest p 0 n ≡ None
none_of p n f = none_below p 0 n (λ j l m. f j (omega arith))

meets_judged : (s : Lent) → Meets s → judged s ≡ fine
unfolding judged from_2 from_3 from_4 from_5 from_6 lacking
meets_judged s K =
    rw
    (none_of (breaks_1 s) (nodes s) K.one, none_of (breaks_2 s) (nodes s) K.two, none_of (breaks_3 s) (nodes s) K.three, none_of (breaks_4 s) (length s.tree.index) K.four, none_of (breaks_5 s) (length s.tree.index) K.five, le-ltb (length s.tree.index) (meshed s) K.long, none_of (breaks_6 s) (nodes s) K.six)

-- ---- the call
refused_not : (number at : ℕ) → numbered number at ≡ none → ⊥
refused_not number at e = let z : ◌≡◌ {A = ℕ} 0 1 = cc in omega arith

pub fine_is : (v : Verdict) → ruling v ≡ ruling fine → v ≡ fine
unfolding ruling
fine_is (Ok tt) e = refl
fine_is (Err (Refused r)) e = absurd (refused_not _ r.at (ap (λ (r : Ruling). r.refusal) e))
fine_is (Err (Broken c at)) e = absurd (refused_not 19 at (ap (λ (r : Ruling). r.refusal) e))

not_refused : (n i : ℕ) → other (numbered n i) ≡ ruling fine → ⊥
unfolding ruling
not_refused n i e = refused_not n i (ap (λ (r : Ruling). r.refusal) e)

module _ (s : Lent) (work : List ℕ) where
  pub accepted_meets : (accepted s work).answer ≡ ruling fine → Sound s × Roomy s work × Meets s
  unfolding accepted
  accepted_meets e =
      let p = all_passed _ _ _ (accepted s work) refl (λ n i f. not_refused n i (ap (λ (o : Outcome). o.answer) f ∙ e)) in
      let q = p.0 in (
        record {
          whole = eqb-true (length s.mesh.triangles % 12) 0 (not-false (eqb (length s.mesh.triangles % 12) 0) q.0);
          few = ltb-false most_triangles (meshed s) q.1.0;
          fitted = q.1.1.0;
          admitted = λ k l. none_refused s.mesh.triangles (meshed s) 0 k (none_unadmitted (first_refused s.mesh.triangles 0 (meshed s)) q.1.1.1.1.0) (omega arith) (omega arith);
        },
        ltb-false (length work) (nodes s + meshed s) q.1.1.1.0,
        judged_meets s (fine_is (judged s) (ap (λ (o : Outcome). o.answer) p.1 ∙ e)),
      )

  pub meets_accepted : Sound s → Roomy s work → Meets s → accepted s work ≡ outcome (ruling fine) (replicate (length work) 0)
  unfolding accepted
  meets_accepted A room K =
      sym
      (ends
      (goes (agree A.whole)
      (goes (not_below A.few)
      (goes A.fitted
      (goes (not_below room)
      (none_bad (all_admitted s.mesh.triangles (meshed s) 0 (λ k l m. A.admitted k (omega arith))) (ap (λ (v : Verdict). outcome (ruling v) (replicate (length work) 0)) (sym (meets_judged s K)))))))))
