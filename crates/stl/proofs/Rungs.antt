-- The steps of the two ladders that are this crate's own, and what stands in front of the rest of a lent room. Assumes nothing.
use mathlib.Core.Path.{◌≡◌, refl, ap, ◌∙◌}
use Prim.Native.Nat.{ℕ, ◌-◌}
use native.Mathlib.Nat.{sub-zero}
use mathlib.Core.Bool.{true, false}
use mathlib.Core.List.{List, ◌∷◌, ◌++◌}
use lib.ListN.{drop}
use Rattle.lent.specs.Ladder.{Check, check}
use Rattle.lent.proofs.Ladder.{Ends, goes, stops}

-- ---- a check of which only this much is known, as one of what was looked for is
module _ {A : Type 0} {checks : List Check} {refused : ℕ → ℕ → A} {served x : A} {c : Check} {number at : ℕ} where
  pub fails : c ≡ check true number at → x ≡ refused number at → Ends (c ∷ checks) refused served x
  fails p e = rw p (stops refl e)

  pub passes : c ≡ check false number at → Ends checks refused served x → Ends (c ∷ checks) refused served x
  passes p e = rw p (goes refl e)

-- what is written in front of the rest of a room
pub front_room : {X : Type 0} (ys zs room : List X) (k : ℕ) → ys ≡ zs → ys ++ drop (k - 0) room ≡ zs ++ drop k room
front_room {X} ys zs room k e = ap (λ (l : List X). l ++ drop (k - 0) room) e ∙ ap (λ (m : ℕ). zs ++ drop m room) (sub-zero k)
