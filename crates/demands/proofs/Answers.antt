-- The numbers that an answer tells fix the answer, by its cases. Assumes nothing.
use mathlib.Core.Path.{◌≡◌, refl, sym, ap, ◌∙◌}
use Prim.Native.Nat.{ℕ}
use mathlib.Core.Bool.{cond}
use lib.Dec.{eqb}
use native.Mathlib.Omega.{arith}
use Rattle.std.specs.Prelude.{Result, Ok, Err}
use Rattle.lent.specs.Ladder.{Refusal, none, numbered}
use Rattle.lent.specs.Refusals.{number, refusal_of}
use Rattle.lent.specs.declared.refusal.Refused.{Refused}
use Rattle.lent.proofs.Ladder.{apart}
use Rattle.lent.proofs.Refusals.{refused_is, answer_is}
use Rattle.builder.specs.declared.Built.{Built}
use Rattle.builder.specs.Reply.{Reply, reply}
use Rattle.accept.specs.declared.rejection.Condition.{Condition}
use Rattle.accept.specs.declared.rejection.Condition.TheVariants.{Faultless, OneParent, Reached, Covered, Permutation, Enclosed}
use Rattle.accept.specs.declared.rejection.Rejection.TheVariants.{Refused as Other, Broken}
use Rattle.accept.specs.Accept.{number as condition_number, Verdict, Ruling, ruling}
use Rattle.watts.specs.declared.sums.Figures.{Figures}
use Rattle.watts.specs.declared.fraction.Terms.{Terms}
use Rattle.watts.specs.declared.Report.{Report as Sheet}
use Rattle.watts.specs.Watts.{Counted, Report, Refused as Unweighed, counted, watts_refusal}
use Rattle.stl.specs.Answers.{Told, told}

pub refill_told : (a b : Result (Unit {0}) Refused) → refusal_of a ≡ refusal_of b → a ≡ b
refill_told a b e = answer_is a b e

pub sky_told : (a b : Result (Unit {0}) Refused) → refusal_of a ≡ refusal_of b → a ≡ b
sky_told a b e = answer_is a b e

pub build_told : (a b : Result Built Refused) → reply a ≡ reply b → a ≡ b
unfolding reply
build_told (Ok a) (Ok b) e = λ i. Ok (record { nodes = (e i).nodes; leaves = (e i).leaves })
build_told (Err r) (Err s) e = ap Err (refused_is r s (ap (λ (t : Reply). t.refusal) e))
build_told (Ok a) (Err s) e = apart (number s.reason) s.at (ap (λ (t : Reply). t.refusal) e)
build_told (Err r) (Ok b) e = apart (number r.reason) r.at (ap (λ (t : Reply). t.refusal) (sym e))

pub stl_told_lem : (a b : Result ℕ Refused) → told a ≡ told b → a ≡ b
unfolding told
stl_told_lem (Ok n) (Ok m) e = λ i. Ok (e i).count
stl_told_lem (Err r) (Err s) e = ap Err (refused_is r s (ap (λ (t : Told). t.refusal) e))
stl_told_lem (Ok n) (Err s) e = apart (number s.reason) s.at (ap (λ (t : Told). t.refusal) e)
stl_told_lem (Err r) (Ok m) e = apart (number r.reason) r.at (ap (λ (t : Told). t.refusal) (sym e))

condition_is : (c d : Condition) → condition_number c ≡ condition_number d → c ≡ d
condition_is c d e = sym (found c) ∙ ap of_number e ∙ found d
  where
    of_number : ℕ → Condition
    of_number n = cond (eqb n 1) Faultless (cond (eqb n 2) OneParent (cond (eqb n 3) Reached (cond (eqb n 4) Covered (cond (eqb n 5) Permutation Enclosed))))

    found : (c : Condition) → of_number (condition_number c) ≡ c
    found Faultless = refl
    found OneParent = refl
    found Reached = refl
    found Covered = refl
    found Permutation = refl
    found Enclosed = refl

-- no condition has the number 0
none_of : (c : Condition) → 0 ≡ condition_number c → ⊥
none_of Faultless e = omega (arith, e)
none_of OneParent e = omega (arith, e)
none_of Reached e = omega (arith, e)
none_of Covered e = omega (arith, e)
none_of Permutation e = omega (arith, e)
none_of Enclosed e = omega (arith, e)

at_of : Refusal → ℕ
at_of none = 0
at_of (numbered n at) = at

pub accept_told : (a b : Verdict) → ruling a ≡ ruling b → a ≡ b
unfolding ruling at_of
accept_told (Ok x) (Ok y) e = refl
accept_told (Ok x) (Err (Other r)) e = apart (number r.reason) r.at (ap (λ (t : Ruling). t.refusal) e)
accept_told (Ok x) (Err (Broken c i)) e = apart 19 i (ap (λ (t : Ruling). t.refusal) e)
accept_told (Err (Other r)) (Ok y) e = apart (number r.reason) r.at (ap (λ (t : Ruling). t.refusal) (sym e))
accept_told (Err (Broken c i)) (Ok y) e = apart 19 i (ap (λ (t : Ruling). t.refusal) (sym e))
accept_told (Err (Other r)) (Err (Other s)) e = ap (λ (w : Refused). Err (Other w)) (refused_is r s (ap (λ (t : Ruling). t.refusal) e))
accept_told (Err (Broken c i)) (Err (Broken d j)) e =
    let p = condition_is c d (ap (λ (t : Ruling). t.condition) e) in
    let q = ap (λ (t : Ruling). at_of t.refusal) e in
    λ z. Err (Broken (p z) (q z))
accept_told (Err (Other r)) (Err (Broken d j)) e = absurd (none_of d (ap (λ (t : Ruling). t.condition) e))
accept_told (Err (Broken c i)) (Err (Other s)) e = absurd (none_of c (ap (λ (t : Ruling). t.condition) (sym e)))

figures_of : Figures → Counted → Figures
figures_of d (Report f t) = f
figures_of d (Unweighed n at) = d

terms_of : Terms → Counted → Terms
terms_of d (Report f t) = t
terms_of d (Unweighed n at) = d

pub counted_told : (a b : Result Sheet Refused) → counted a ≡ counted b → a ≡ b
unfolding watts_refusal figures_of terms_of
counted_told (Ok r) (Ok s) e = λ i. Ok (record { figures = figures_of r.figures (e i); share = terms_of r.share (e i) })
counted_told (Err r) (Err s) e = ap Err (refused_is r s (ap watts_refusal e))
counted_told (Ok r) (Err s) e = apart (number s.reason) s.at (ap watts_refusal e)
counted_told (Err r) (Ok s) e = apart (number r.reason) r.at (ap watts_refusal (sym e))
