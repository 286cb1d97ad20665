-- A condition that breaks decides the verdict, and one that holds leaves it to those after it. Assumes nothing.
use mathlib.Core.Path.{◌≡◌, refl, sym, ◌∙◌, ap}
use mathlib.Core.Bool.{false, not}
use mathlib.Core.List.{List}
use Prim.Native.Nat.{ℕ, ◌≤◌, ◌<◌}
use native.Mathlib.Omega.{arith}
use lib.ListN.{length, get_or}
use Rattle.lent.specs.Limits.{most_nodes, deepest}
use Rattle.tree.specs.Lent.{Lent}
use Rattle.std.specs.Prelude.{Option, Some, None, Ok, Err}
use Rattle.accept.specs.declared.rejection.Condition.{Condition}
use Rattle.accept.specs.declared.rejection.Condition.TheVariants.{Faultless, OneParent, Reached, Covered, Permutation, Enclosed}
use Rattle.accept.specs.declared.rejection.Rejection.{Rejection}
use Rattle.lent.specs.Lowest.{lowest}
use Rattle.accept.specs.Conditions.{nodes, meshed, breaks_1, breaks_2, breaks_3, breaks_5, breaks_6}
use Rattle.accept.specs.inner.Room.{named, orphan, adrift, uneven}
use Rattle.accept.specs.Accept.{Verdict, fine, else, lacking, from_2, from_3, from_4, from_5, from_6, judged, ruling, outcome}
use Rattle.lent.proofs.Lowest.{agree, none_from}
use Rattle.accept.proofs.Family.{orphan_is, climbs_is}
use Rattle.accept.proofs.Ranges.{cover_is}

-- the verdict of a condition that breaks first at q, if anywhere, and of those after it, by what `met` says of it
pub record Says (c : Condition) (q : Option ℕ) (after whole : Verdict) : Type 0 where
  pub broken : {r : Verdict} {e : Rejection} → r ≡ else c q fine → r ≡ Err e → Err e ≡ whole
  pub holds : {r : Verdict} {u : Unit} → r ≡ else c q fine → r ≡ Ok u → (q ≡ None) × (after ≡ whole)

says : (c : Condition) (p q : Option ℕ) (after whole : Verdict) → whole ≡ else c p after → q ≡ p → Says c q after whole
says c p (Some i) after whole e f = record {
  broken = λ g h. sym h ∙ g ∙ ap (λ (z : Option ℕ). else c z after) f ∙ sym e;
  holds = λ g h. absurd (omega (arith, apart (sym h ∙ g)));
}
  where
    apart : {u : Unit} {x : Rejection} → ◌≡◌ {A = Verdict} (Ok u) (Err x) → ◌≡◌ {A = ℕ} 0 1
    apart e = cc
says c p None after whole e f = record {
  broken = λ g h. absurd (omega (arith, apart (sym h ∙ g)));
  holds = λ g h. (refl, ap (λ (z : Option ℕ). else c z after) f ∙ sym e);
}
  where
    apart : {u : Unit} {x : Rejection} → ◌≡◌ {A = Verdict} (Err x) (Ok u) → ◌≡◌ {A = ℕ} 0 1
    apart e = cc

module _ (s : Lent) (q : Option ℕ) where
  pub says_1 : q ≡ lowest (breaks_1 s) 0 (nodes s) → Says Faultless q (from_2 s) (judged s)
  unfolding judged
  says_1 f = says Faultless _ q (from_2 s) (judged s) refl f

  pub says_5 : q ≡ lacking (meshed s) s.tree.index (lowest (breaks_5 s) 0 (length s.tree.index)) → Says Permutation q (from_6 s) (from_5 s)
  unfolding from_5
  says_5 f = says Permutation _ q (from_6 s) (from_5 s) refl f

  pub says_6 : q ≡ lowest (breaks_6 s) 0 (nodes s) → else Enclosed q fine ≡ from_6 s
  unfolding from_6
  says_6 f = ap (λ (z : Option ℕ). else Enclosed z fine) f

  pub says_4 : q ≡ lowest (uneven s.tree.links) 0 (length s.tree.index) → Says Covered q (from_5 s) (from_4 s)
  unfolding from_4
  says_4 f = says Covered _ q (from_5 s) (from_4 s) refl (f ∙ sym (cover_is s (length s.tree.index)))

  module _ (few : nodes s ≤ most_nodes) (work : List ℕ) (writes : (j : ℕ) → j < nodes s → get_or work j 0 ≡ named s.tree.links j (nodes s)) where
    orphans : lowest (breaks_2 s) 0 (nodes s) ≡ lowest (orphan work) 0 (nodes s)
    orphans = agree (breaks_2 s) (orphan work) (nodes s) (orphan_is s few work writes)

    pub says_2 : q ≡ lowest (orphan work) 0 (nodes s) → Says OneParent q (from_3 s) (from_2 s)
    unfolding from_2
    says_2 f = says OneParent _ q (from_3 s) (from_2 s) refl (f ∙ sym orphans)

    pub family : q ≡ lowest (orphan work) 0 (nodes s) → q ≡ None → (j : ℕ) → j < nodes s → breaks_2 s j ≡ false
    family f g j l = none_from (breaks_2 s) 0 (nodes s) (orphans ∙ sym f ∙ g) j (omega arith) (omega arith)

    pub says_3 : ((j : ℕ) → j < nodes s → breaks_2 s j ≡ false) → q ≡ lowest (adrift work) 0 (nodes s) → Says Reached q (from_4 s) (from_3 s)
    unfolding from_3 adrift breaks_3
    says_3 h f = says Reached _ q (from_4 s) (from_3 s) refl (f ∙ sym (agree (breaks_3 s) (adrift work) (nodes s) (λ j l. ap not (sym (climbs_is s h work writes deepest j l)))))

-- ---- the answer and the room
pub both_are : {v w : Verdict} {xs ys : List ℕ} → v ≡ w → xs ≡ ys → outcome (ruling v) xs ≡ outcome (ruling w) ys
both_are e f = λ i. outcome (ruling (e i)) (f i)
