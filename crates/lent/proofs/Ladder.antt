-- A call's answer is read off its ladder check by check: one that fails stops, one that passes goes on, and where none is left the call is
-- served. So the proof of a return is a chain, `ends (goes .. (goes .. (stops ..)))`, of what the code's tests said. Assumes nothing.
use mathlib.Core.Path.{◌≡◌, refl, sym, ap, ◌∙◌}
use mathlib.Core.Bool.{Bool, true, false, cond, not}
use mathlib.Core.List.{List, [], ◌∷◌, ◌++◌}
use Prim.Native.Nat.{ℕ, ◌≤◌, ◌<◌}
use native.Mathlib.Omega.{arith}
use borrow.Author.Tests.{eq-eqb, ne_eqb, eqb-true, lt-ltb, le-ltb}
use lib.Dec.{eqb, ltb}
use Rattle.lent.specs.Ladder.{Refusal, none, Check, numbered, check, first_failed, answered, unless}
use Rattle.lent.specs.Members.{Every}

-- x is what a call with these checks answers
pub record Ends {A : Type 0} (checks : List Check) (refused : ℕ → ℕ → A) (served x : A) : Type 0 where
  pub so : x ≡ unless checks refused served

pub ends : {A : Type 0} {checks : List Check} {refused : ℕ → ℕ → A} {served x : A} → Ends checks refused served x → x ≡ unless checks refused served
ends e = e.so

pub serves : {A : Type 0} {refused : ℕ → ℕ → A} {served x : A} → x ≡ served → Ends [] refused served x
unfolding unless first_failed answered
serves e = record { so = e }

pub stops : {A : Type 0} {checks : List Check} {refused : ℕ → ℕ → A} {served x : A} {t : Bool} {number at : ℕ} → t ≡ true → x ≡ refused number at → Ends (check t number at ∷ checks) refused served x
unfolding unless first_failed answered
stops p e = record { so = rw p e }

pub goes : {A : Type 0} {checks : List Check} {refused : ℕ → ℕ → A} {served x : A} {t : Bool} {number at : ℕ} → t ≡ false → Ends checks refused served x → Ends (check t number at ∷ checks) refused served x
unfolding unless first_failed answered
goes p e = record { so = rw p e.so }

-- the other way round: where the answer is no refusal, every check passed, and it is what is served
pub all_passed : {A : Type 0} (checks : List Check) (refused : ℕ → ℕ → A) (served x : A) → unless checks refused served ≡ x → ((number at : ℕ) → refused number at ≡ x → ⊥)
    → Every (λ c. c.fails ≡ false) checks × (served ≡ x)
unfolding unless first_failed answered
all_passed [] refused served x e never = (tt, e)
all_passed (c ∷ cs) refused served x e never = go c.fails e (λ f. all_passed cs refused served x f never)
  where
    go : (t : Bool) → answered (cond t (numbered c.number c.at) (first_failed cs)) refused served ≡ x → (answered (first_failed cs) refused served ≡ x → Every (λ d. d.fails ≡ false) cs × (served ≡ x))
        → ((t ≡ false) × Every (λ d. d.fails ≡ false) cs) × (served ≡ x)
    go true f rest = absurd (never c.number c.at f)
    go false f rest = ((refl, (rest f).0), (rest f).1)

-- ---- a ladder that is judged by a function of its own
-- which answers the first check that fails
itself : (r : Refusal) → answered r numbered none ≡ r
unfolding answered
itself none = refl
itself (numbered number at) = refl

pub judges : {checks : List Check} {r : Refusal} → Ends checks numbered none r → r ≡ first_failed checks
unfolding unless
judges {checks} e = e.so ∙ itself (first_failed checks)

-- so the call that has it judged answers by that
pub judged : {A : Type 0} {checks : List Check} {refused : ℕ → ℕ → A} {served x : A} (r : Refusal) → r ≡ first_failed checks → x ≡ answered r refused served → Ends checks refused served x
unfolding unless
judged {refused = refused} {served = served} r is e = record { so = e ∙ ap (λ (f : Refusal). answered f refused served) is }

pub apart : {A : Type 0} (number at : ℕ) → none ≡ numbered number at → A
apart number at e = absurd (let z : ◌≡◌ {A = ℕ} 0 1 = cc in omega arith)

-- where none failed, each passed
pub each_passed : (checks : List Check) → first_failed checks ≡ none → Every (λ c. c.fails ≡ false) checks
unfolding unless
each_passed checks p = (all_passed checks numbered none none (itself (first_failed checks) ∙ p) (λ number at e. apart number at (sym e))).0

-- ---- a ladder whose first checks are another call's
pub further : (checks others : List Check) → first_failed (checks ++ others) ≡ answered (first_failed checks) numbered (first_failed others)
unfolding first_failed answered
further [] others = refl
further (c ∷ cs) others = go c.fails (further cs others)
  where
    go : (t : Bool) → first_failed (cs ++ others) ≡ answered (first_failed cs) numbered (first_failed others)
        → cond t (numbered c.number c.at) (first_failed (cs ++ others)) ≡ answered (cond t (numbered c.number c.at) (first_failed cs)) numbered (first_failed others)
    go true e = refl
    go false e = e

pub both_passed : (checks others : List Check) → first_failed (checks ++ others) ≡ none → (first_failed checks ≡ none) × (first_failed others ≡ none)
unfolding answered
both_passed checks others p = go (first_failed checks) refl (sym (further checks others) ∙ p)
  where
    go : (r : Refusal) → first_failed checks ≡ r → answered r numbered (first_failed others) ≡ none → (first_failed checks ≡ none) × (first_failed others ≡ none)
    go none e q = (e, q)
    go (numbered number at) e q = apart number at (sym q)

-- ---- what the tests of code say of those of a check
pub differ : {a b : ℕ} → (a ≡ b → ⊥) → not (eqb a b) ≡ true
differ {a} {b} n = ap not (ne_eqb a b n)

pub agree : {a b : ℕ} → a ≡ b → not (eqb a b) ≡ false
agree {a} {b} e = ap not (eq-eqb a b e)

pub agreed : {a b : ℕ} → not (eqb a b) ≡ false → a ≡ b
agreed {a} {b} p = eqb-true a b (even (eqb a b) p)
  where
    even : (t : Bool) → not t ≡ false → t ≡ true
    even true q = refl
    even false q = sym q

pub below : {a b : ℕ} → a < b → ltb a b ≡ true
below {a} {b} h = lt-ltb a b h

pub not_below : {a b : ℕ} → b ≤ a → ltb a b ≡ false
not_below {a} {b} h = le-ltb a b h
