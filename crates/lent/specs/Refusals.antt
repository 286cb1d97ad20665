-- The refusals of the code by their numbers in documents 01 and 02 (section R of docs/RULES.md). Definitions only.
use Rattle.std.specs.Prelude.{ℕ, Result, Ok, Err}
use Rattle.lent.specs.Ladder.{Refusal, none, numbered}
use Rattle.lent.specs.declared.refusal.Reason.{Reason}
use Rattle.lent.specs.declared.refusal.Reason.TheVariants.{Ragged, Crowded, ShortIndex, ShortTree, BadTriangle, Deep, BadRay, Misfit, BadNode, BadEntry, Full, Endless, ShortAnswers, RaggedRays, BadFile, ShortRoom, Inexact, Unlabelled, BadPlacements, BadMatrix, BadHouse, BadPlace, Unweighed, CrowdedRays}
use Rattle.lent.specs.declared.refusal.Refused.{Refused}

abbrev pub number : Reason → ℕ
number Ragged = 1
number Crowded = 2
number ShortIndex = 3
number ShortTree = 4
number BadTriangle = 5
number Deep = 6
number BadRay = 7
number Misfit = 8
number BadNode = 9
number BadEntry = 10
number Full = 11
number Endless = 12
number ShortAnswers = 13
number RaggedRays = 14
number BadFile = 15
number ShortRoom = 16
number Inexact = 17
number Unlabelled = 18
number BadPlacements = 23
number BadMatrix = 24
number BadHouse = 25
number BadPlace = 26
number Unweighed = 27
number CrowdedRays = 28

abbrev pub refusal : Refused → Refusal
refusal r = numbered (number r.reason) r.at

-- what a call that answers a Result tells: its refusal, or none
abbrev pub refusal_of : {A : Type 0} → Result A Refused → Refusal
refusal_of (Ok a) = none
refusal_of (Err r) = refusal r
