-- Condition (i) at one node, by one test after the other. Assumes nothing.
use mathlib.Core.Path.{◌≡◌, refl, sym, ◌∙◌, ap}
use mathlib.Core.Bool.{Bool, true, false, not, ◌&&◌, ◌||◌, cond}
use mathlib.Core.Logic.{⊎_elim}
use Prim.Native.Nat.{ℕ, ◌+◌, ◌≤◌, ◌<◌}
use native.Mathlib.Omega.{arith}
use lib.Dec.{leb, ltb, eqb}
use lib.ListN.{length}
use borrow.Author.Tests.{eq-eqb, ne_eqb, le-leb, lt-leb}
use Rattle.float.proofs.Cases.{low_or_high}
use Rattle.aabb.specs.Bounds.{bounded, is_empty, usable, box_at}
use Rattle.tree.specs.Lent.{Lent, node_count}
use Rattle.tree.specs.Node.{node_at, linked, sound, left_of, right_of}
use Rattle.tree.specs.Node.{node_of}
use Rattle.accept.specs.Conditions.{meshed, bad, faulty, single, breaks_1}
use Rattle.accept.specs.inner.Room.{first_at, count_at, kind_at}

-- the whole test, over plain numbers and tests
abbrev nine : (b e : Bool) (m n f c k : ℕ) → Bool
nine b e m n f c k = not ((b || e) && (eqb k 1 || (eqb k 0 && eqb c 0))) || cond (eqb k 1) (ltb m (f + c)) (leb n f || leb n (f + 1))

abbrev fault : (b e : Bool) (m n f c k : ℕ) → Bool
fault b e m n f c k = nine b e m n f c k || (not b || (eqb k 1 && eqb c 0))

or_true : (a : Bool) → (a || true) ≡ true
or_true true = refl
or_true false = refl

or_false : (a : Bool) → (a || false) ≡ a
or_false true = refl
or_false false = refl

or_last : (a t : Bool) → t ≡ true → (a || t) ≡ true
or_last a t p = ap (λ (z : Bool). a || z) p ∙ or_true a

fault_box : (b e : Bool) (m n f c k : ℕ) → b ≡ false → fault b e m n f c k ≡ true
fault_box b e m n f c k p = or_last (nine b e m n f c k) (not b || (eqb k 1 && eqb c 0)) (ap (λ (z : Bool). not z || (eqb k 1 && eqb c 0)) p)

fault_hollow : (b e : Bool) (m n f c k : ℕ) → k ≡ 1 → c ≡ 0 → fault b e m n f c k ≡ true
fault_hollow b e m n f c k p q =
    or_last (nine b e m n f c k) (not b || (eqb k 1 && eqb c 0)) (or_last (not b) (eqb k 1 && eqb c 0) (rw (eq-eqb k 1 p, eq-eqb c 0 q)))

fault_leaf : (b e : Bool) (m n f c k : ℕ) → b ≡ true → k ≡ 1 → (c ≡ 0 → ⊥) → fault b e m n f c k ≡ ltb m (f + c)
fault_leaf b e m n f c k p q r = rw (p, eq-eqb k 1 q, ne_eqb c 0 r) (or_false (ltb m (f + c)))

fault_kind : (b e : Bool) (m n f c k : ℕ) → b ≡ true → (k ≡ 1 → ⊥) → (k ≡ 0 → ⊥) → fault b e m n f c k ≡ true
fault_kind b e m n f c k p q r = rw (p, ne_eqb k 1 q, ne_eqb k 0 r)

fault_count : (b e : Bool) (m n f c k : ℕ) → b ≡ true → (k ≡ 1 → ⊥) → (c ≡ 0 → ⊥) → fault b e m n f c k ≡ true
fault_count b e m n f c k p q r = rw (p, ne_eqb k 1 q, ne_eqb c 0 r) (by_kind (eqb k 0))
  where
    by_kind : (a : Bool) → ((not (a && false) || (leb n f || leb n (f + 1))) || false) ≡ true
    by_kind true = refl
    by_kind false = refl

fault_inner : (b e : Bool) (m n f c k : ℕ) → b ≡ true → k ≡ 0 → c ≡ 0 → fault b e m n f c k ≡ leb n (f + 1)
fault_inner b e m n f c k p q r = rw (p, ne_eqb k 1 (λ z. omega arith), eq-eqb k 0 q, eq-eqb c 0 r) (or_false (leb n f || leb n (f + 1)) ∙ ⊎_elim beyond within (low_or_high f n))
  where
    within : n ≤ f → (leb n f || leb n (f + 1)) ≡ leb n (f + 1)
    within h = rw (le-leb n f h, le-leb n (f + 1) (omega arith))

    beyond : f < n → (leb n f || leb n (f + 1)) ≡ leb n (f + 1)
    beyond h = rw (lt-leb n f h)

module _ (s : Lent) (i : ℕ) where
  abbrev m : ℕ
  m = length s.tree.index

  abbrev n : ℕ
  n = node_count s.tree.links

  abbrev f : ℕ
  f = first_at s.tree.links i

  abbrev c : ℕ
  c = count_at s.tree.links i

  abbrev k : ℕ
  k = kind_at s.tree.links i

  abbrev b : Bool
  b = bounded (box_at s.tree.boxes i)

  abbrev e : Bool
  e = is_empty (box_at s.tree.boxes i)

  pub faulty_is : faulty s i (node_of s.tree i) ≡ fault b e m n f c k
  unfolding faulty bad sound usable node_at linked left_of right_of
  faulty_is = refl

  pub bad_box : b ≡ false → true ≡ faulty s i (node_of s.tree i)
  bad_box p = sym (faulty_is ∙ fault_box b e m n f c k p)

  pub hollow : k ≡ 1 → c ≡ 0 → true ≡ faulty s i (node_of s.tree i)
  hollow p q = sym (faulty_is ∙ fault_hollow b e m n f c k p q)

  pub of_leaf : b ≡ true → k ≡ 1 → (c ≡ 0 → ⊥) → ltb m (f + c) ≡ faulty s i (node_of s.tree i)
  of_leaf p q r = sym (faulty_is ∙ fault_leaf b e m n f c k p q r)

  pub bad_kind : b ≡ true → (k ≡ 1 → ⊥) → (k ≡ 0 → ⊥) → true ≡ faulty s i (node_of s.tree i)
  bad_kind p q r = sym (faulty_is ∙ fault_kind b e m n f c k p q r)

  pub bad_count : b ≡ true → (k ≡ 1 → ⊥) → (c ≡ 0 → ⊥) → true ≡ faulty s i (node_of s.tree i)
  bad_count p q r = sym (faulty_is ∙ fault_count b e m n f c k p q r)

  pub of_inner : b ≡ true → k ≡ 0 → c ≡ 0 → leb n (f + 1) ≡ faulty s i (node_of s.tree i)
  of_inner p q r = sym (faulty_is ∙ fault_inner b e m n f c k p q r)

-- ---- the empty mesh, and any other
pub of_empty : (s : Lent) (t : Bool) (i : ℕ) → meshed s ≡ 0 → t ≡ single s (node_of s.tree 0) → breaks_1 s i ≡ not t
unfolding breaks_1
of_empty s t i p q = rw (eq-eqb (meshed s) 0 p) (ap not (sym q))

pub of_mesh : (s : Lent) (i : ℕ) → (meshed s ≡ 0 → ⊥) → breaks_1 s i ≡ faulty s i (node_of s.tree i)
unfolding breaks_1
of_mesh s i p = rw (ne_eqb (meshed s) 0 p)
