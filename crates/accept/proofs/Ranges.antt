-- Condition (iv) by how many leaves begin and end at each place. Assumes nothing.
use mathlib.Core.Path.{◌≡◌, refl, ◌∙◌, ap}
use mathlib.Core.Bool.{Bool, true, false, not, ◌&&◌}
use mathlib.Core.Logic.{⊎_elim}
use Prim.Native.Nat.{ℕ, zero, suc, ◌+◌, ◌≤◌, ◌<◌}
use native.Mathlib.Omega.{arith}
use lib.Dec.{leb, ltb, eqb}
use borrow.Author.Tests.{eq-eqb, ne_eqb, eqb-true, not-false, lt-ltb, le-ltb, le-leb, lt-leb}
use Rattle.float.proofs.Cases.{same?, low_or_high}
use Rattle.tree.specs.Lent.{Lent}
use Rattle.tree.specs.Node.{left_or_first, node_at, linked}
use Rattle.tree.specs.Node.{node_of}
use Rattle.lent.specs.Lowest.{lowest}
use Rattle.accept.specs.Count.{tick, count}
use Rattle.accept.specs.Conditions.{nodes, covered, breaks_4}
use Rattle.accept.specs.inner.Room.{begins, ends, uneven}
use Rattle.accept.proofs.Count.{count_pairs}
use Rattle.lent.proofs.Lowest.{same}

-- ---- a range from f up to g: a place in it, its begin and its end
below : (a g : ℕ) → tick (ltb (suc a) g) + tick (eqb (suc a) g) ≡ tick (ltb a g)
below a g = ⊎_elim (λ h. ⊎_elim (λ e. at h e) (λ n. before h n) (same? (suc a) g)) beyond (low_or_high a g)
  where
    at : a < g → suc a ≡ g → tick (ltb (suc a) g) + tick (eqb (suc a) g) ≡ tick (ltb a g)
    at h e = rw (le-ltb (suc a) g (omega arith), eq-eqb (suc a) g e, lt-ltb a g h)

    before : a < g → (suc a ≡ g → ⊥) → tick (ltb (suc a) g) + tick (eqb (suc a) g) ≡ tick (ltb a g)
    before h n = rw (lt-ltb (suc a) g (omega arith), ne_eqb (suc a) g n, lt-ltb a g h)

    beyond : g ≤ a → tick (ltb (suc a) g) + tick (eqb (suc a) g) ≡ tick (ltb a g)
    beyond h = rw (le-ltb (suc a) g (omega arith), ne_eqb (suc a) g (λ e. omega arith), le-ltb a g h)

-- the next place is in the range or its end as often as this one is in it or the next its begin
along : (f g p : ℕ) → f ≤ g → tick (leb f (suc p) && ltb (suc p) g) + tick (eqb (suc p) g) ≡ tick (leb f p && ltb p g) + tick (eqb (suc p) f)
along f g p h = ⊎_elim (λ l. ⊎_elim (λ e. at l e) (λ n. before l n) (same? (suc p) f)) inside (low_or_high p f)
  where
    before : p < f → (suc p ≡ f → ⊥) → tick (leb f (suc p) && ltb (suc p) g) + tick (eqb (suc p) g) ≡ tick (leb f p && ltb p g) + tick (eqb (suc p) f)
    before l n = rw (lt-leb f (suc p) (omega arith), ne_eqb (suc p) g (λ e. omega arith), lt-leb f p l, ne_eqb (suc p) f n)

    at : p < f → suc p ≡ f → tick (leb f (suc p) && ltb (suc p) g) + tick (eqb (suc p) g) ≡ tick (leb f p && ltb p g) + tick (eqb (suc p) f)
    at l e = rw (le-leb f (suc p) (omega arith), lt-leb f p l, eq-eqb (suc p) f e) (below p g ∙ ap tick (lt-ltb p g (omega arith)))

    inside : f ≤ p → tick (leb f (suc p) && ltb (suc p) g) + tick (eqb (suc p) g) ≡ tick (leb f p && ltb p g) + tick (eqb (suc p) f)
    inside l = rw (le-leb f (suc p) (omega arith), le-leb f p l, ne_eqb (suc p) f (λ e. omega arith)) (below p g ∙ omega arith)

-- and so place 0
outset : (f g : ℕ) → f ≤ g → tick (leb f 0 && ltb 0 g) + tick (eqb 0 g) ≡ tick (eqb 0 f)
outset f g h = ⊎_elim (λ e. start e) (λ n. later n) (same? 0 f)
  where
    start : 0 ≡ f → tick (leb f 0 && ltb 0 g) + tick (eqb 0 g) ≡ tick (eqb 0 f)
    start e = ⊎_elim (λ y. rw (le-leb f 0 (omega arith), eq-eqb 0 f e, le-ltb 0 g (omega arith), eq-eqb 0 g y)) (λ y. rw (le-leb f 0 (omega arith), eq-eqb 0 f e, lt-ltb 0 g (omega arith), ne_eqb 0 g y)) (same? 0 g)

    later : (0 ≡ f → ⊥) → tick (leb f 0 && ltb 0 g) + tick (eqb 0 g) ≡ tick (eqb 0 f)
    later n = rw (lt-leb f 0 (omega arith), ne_eqb 0 f n, ne_eqb 0 g (λ e. omega arith))

-- ---- all leaves
guarded : (t a b c d : Bool) → tick a + tick b ≡ tick c + tick d → tick (t && a) + tick (t && b) ≡ tick (t && c) + tick (t && d)
guarded true a b c d e = e
guarded false a b c d e = refl

guarded_0 : (t a b c : Bool) → tick a + tick b ≡ tick c → tick (t && a) + tick (t && b) ≡ tick (t && c) + 0
guarded_0 true a b c e = omega (arith, e)
guarded_0 false a b c e = refl

never : ℕ → Bool
never i = false

count_never : (n : ℕ) → count never n ≡ 0
unfolding count never
count_never zero = refl
count_never (suc n) = omega (arith, count_never n)

module _ (s : Lent) where
  each : (p i : ℕ) → tick (covered s (suc p) i) + tick (ends s.tree.links (suc p) i) ≡ tick (covered s p i) + tick (begins s.tree.links (suc p) i)
  unfolding covered ends begins node_at linked
  each p i = guarded (eqb (node_of s.tree i).kind 1) _ _ _ _ (along (left_or_first (node_of s.tree i)) (left_or_first (node_of s.tree i) + (node_of s.tree i).count) p (omega arith))

  each_0 : (i : ℕ) → tick (covered s 0 i) + tick (ends s.tree.links 0 i) ≡ tick (begins s.tree.links 0 i) + tick (never i)
  unfolding covered ends begins node_at linked never
  each_0 i = guarded_0 (eqb (node_of s.tree i).kind 1) _ _ _ (outset (left_or_first (node_of s.tree i)) (left_or_first (node_of s.tree i) + (node_of s.tree i).count) (omega arith))

  onward : (p n : ℕ) → count (covered s (suc p)) n + count (ends s.tree.links (suc p)) n ≡ count (covered s p) n + count (begins s.tree.links (suc p)) n
  onward p n = count_pairs (covered s (suc p)) (ends s.tree.links (suc p)) (covered s p) (begins s.tree.links (suc p)) n (each p)

  outward : (n : ℕ) → count (covered s 0) n + count (ends s.tree.links 0) n ≡ count (begins s.tree.links 0) n
  outward n = count_pairs (covered s 0) (ends s.tree.links 0) (begins s.tree.links 0) never n each_0 ∙ omega (arith, count_never n)

  -- one covers a place if as many begin as end there, and one covers the place before it
  shifted : (c e b k : ℕ) → c + e + k ≡ b + 1 → not (eqb c 1) ≡ not (eqb b (e + k))
  shifted c e b k h = ⊎_elim (λ z. rw (eq-eqb c 1 z, eq-eqb b (e + k) (omega arith))) (λ z. rw (ne_eqb c 1 z, ne_eqb b (e + k) (λ y. z (omega arith)))) (same? c 1)

  alone : (p : ℕ) → breaks_4 s p ≡ false → count (covered s p) (nodes s) ≡ 1
  unfolding breaks_4
  alone p e = eqb-true _ _ (not-false _ e)

  pub even_is : (p : ℕ) → ((q : ℕ) → 0 ≤ q → q < p → breaks_4 s q ≡ false) → breaks_4 s p ≡ uneven s.tree.links p
  unfolding breaks_4 uneven
  even_is zero f = shifted (count (covered s 0) (nodes s)) (count (ends s.tree.links 0) (nodes s)) (count (begins s.tree.links 0) (nodes s)) 1 (omega (arith, outward (nodes s)))
  even_is (suc p) f =
      rw (ne_eqb (suc p) 0 (λ e. omega arith))
      (shifted (count (covered s (suc p)) (nodes s)) (count (ends s.tree.links (suc p)) (nodes s)) (count (begins s.tree.links (suc p)) (nodes s)) 0
      (omega (arith, onward p (nodes s), alone p (f p (omega arith) (omega arith)))))

  pub cover_is : (n : ℕ) → lowest (breaks_4 s) 0 n ≡ lowest (uneven s.tree.links) 0 n
  cover_is n = same (breaks_4 s) (uneven s.tree.links) 0 n (λ j l m g. even_is j g)
