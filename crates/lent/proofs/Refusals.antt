-- A refusal's number and its `at` tell the refusal: each reason has a number of its own, by which it is found again. Assumes nothing.
use mathlib.Core.Path.{◌≡◌, refl, sym, ap, ◌∙◌}
use mathlib.Core.Bool.{false, cond}
use Prim.Native.Nat.{ℕ}
use lib.Dec.{eqb}
use Rattle.std.specs.Prelude.{Result, Ok, Err, IfOk}
use Rattle.lent.specs.Ladder.{Refusal, none, numbered}
use Rattle.lent.specs.Refusals.{number, refusal, refusal_of}
use Rattle.lent.specs.declared.refusal.Reason.{Reason}
use Rattle.lent.specs.declared.refusal.Reason.TheVariants.{Ragged, Crowded, ShortIndex, ShortTree, BadTriangle, Deep, BadRay, Misfit, BadNode, BadEntry, Full, Endless, ShortAnswers, RaggedRays, BadFile, ShortRoom, Inexact, Unlabelled, BadPlacements, BadMatrix, BadHouse, BadPlace, Unweighed, CrowdedRays}
use Rattle.lent.specs.declared.refusal.Refused.{Refused}
use Rattle.lent.proofs.Ladder.{apart}

-- the reason with this number
of_number : ℕ → Reason
of_number n =
    cond (eqb n 1) Ragged (cond (eqb n 2) Crowded (cond (eqb n 3) ShortIndex (cond (eqb n 4) ShortTree (cond (eqb n 5) BadTriangle
    (cond (eqb n 6) Deep (cond (eqb n 7) BadRay (cond (eqb n 8) Misfit (cond (eqb n 9) BadNode (cond (eqb n 10) BadEntry
    (cond (eqb n 11) Full (cond (eqb n 12) Endless (cond (eqb n 13) ShortAnswers (cond (eqb n 14) RaggedRays (cond (eqb n 15) BadFile
    (cond (eqb n 16) ShortRoom (cond (eqb n 17) Inexact (cond (eqb n 18) Unlabelled (cond (eqb n 23) BadPlacements
    (cond (eqb n 24) BadMatrix (cond (eqb n 25) BadHouse (cond (eqb n 26) BadPlace (cond (eqb n 27) Unweighed CrowdedRays))))))))))))))))))))))

found : (r : Reason) → of_number (number r) ≡ r
unfolding of_number
found Ragged = refl
found Crowded = refl
found ShortIndex = refl
found ShortTree = refl
found BadTriangle = refl
found Deep = refl
found BadRay = refl
found Misfit = refl
found BadNode = refl
found BadEntry = refl
found Full = refl
found Endless = refl
found ShortAnswers = refl
found RaggedRays = refl
found BadFile = refl
found ShortRoom = refl
found Inexact = refl
found Unlabelled = refl
found BadPlacements = refl
found BadMatrix = refl
found BadHouse = refl
found BadPlace = refl
found Unweighed = refl
found CrowdedRays = refl

pub reason_is : (r s : Reason) → number r ≡ number s → r ≡ s
reason_is r s e = sym (found r) ∙ ap of_number e ∙ found s

-- a refusal as a record, and what it tells
number_of : Refusal → ℕ
number_of none = 0
number_of (numbered n at) = n

at_of : Refusal → ℕ
at_of none = 0
at_of (numbered n at) = at

pub refused_is : (r s : Refused) → refusal r ≡ refusal s → r ≡ s
unfolding number_of at_of
refused_is r s e =
    let p = reason_is r.reason s.reason (ap number_of e) in
    let q = ap at_of e in
    λ i. record { reason = p i; at = q i }

-- a call that answers a Result with nothing in it
pub answer_is : (a b : Result (Unit {0}) Refused) → refusal_of a ≡ refusal_of b → a ≡ b
answer_is (Ok x) (Ok y) e = refl
answer_is (Ok x) (Err s) e = apart (number s.reason) s.at e
answer_is (Err r) (Ok y) e = apart (number r.reason) r.at (sym e)
answer_is (Err r) (Err s) e = ap Err (refused_is r s e)

-- and one that answers a number which is known
pub count_is : (a b : Result ℕ Refused) (k : ℕ) → refusal_of a ≡ refusal_of b → IfOk a (λ n. n ≡ k) → IfOk b (λ n. n ≡ k) → a ≡ b
count_is (Ok x) (Ok y) k e p q = ap Ok (p ∙ sym q)
count_is (Ok x) (Err s) k e p q = apart (number s.reason) s.at e
count_is (Err r) (Ok y) k e p q = apart (number r.reason) r.at (sym e)
count_is (Err r) (Err s) k e p q = ap Err (refused_is r s e)

-- 19 is none of them: it says that a condition is broken
pub no_condition : (r : Reason) → eqb (number r) 19 ≡ false
no_condition Ragged = refl
no_condition Crowded = refl
no_condition ShortIndex = refl
no_condition ShortTree = refl
no_condition BadTriangle = refl
no_condition Deep = refl
no_condition BadRay = refl
no_condition Misfit = refl
no_condition BadNode = refl
no_condition BadEntry = refl
no_condition Full = refl
no_condition Endless = refl
no_condition ShortAnswers = refl
no_condition RaggedRays = refl
no_condition BadFile = refl
no_condition ShortRoom = refl
no_condition Inexact = refl
no_condition Unlabelled = refl
no_condition BadPlacements = refl
no_condition BadMatrix = refl
no_condition BadHouse = refl
no_condition BadPlace = refl
no_condition Unweighed = refl
no_condition CrowdedRays = refl
