-- Laws for the loops that fill, count and write down. Assumes nothing.
use mathlib.Core.Path.{◌≡◌, refl, sym, ◌∙◌, ap}
use mathlib.Core.Bool.{Bool, true, false, ◌||◌, cond}
use mathlib.Core.List.{List}
use mathlib.Core.Logic.{◌⊎◌, inl, inr, ⊎_elim}
use Prim.Native.Nat.{ℕ, zero, suc, ◌+◌, ◌-◌, ◌≤◌, ◌<◌}
use native.Mathlib.Omega.{arith}
use native.Mathlib.Numerals.{add-one}
use lib.Dec.{eqb}
use lib.ListN.{length, get_or, set, replicate, length-set, length-replicate, get_or-replicate}
use lib.Seq.{get_or-set_same, get_or-set_other}
use borrow.Author.Tests.{eq-eqb, ne_eqb, le-leb, lt-leb}
use Rattle.float.proofs.Cases.{same?}
use Rattle.tree.specs.Lent.{node_count}
use Rattle.accept.specs.Count.{tick, any, count}
use Rattle.accept.specs.Conditions.{misplaced}
use Rattle.accept.specs.inner.Room.{first_at, count_at, kind_at, parent_at, adopted, named, climbs, begins, ends, uneven, Balanced}
use Rattle.accept.proofs.Count.{count_more}

-- ---- up from a node
module _ (work : List ℕ) where
  pub climb_there : (d j : ℕ) → 0 < d → j ≡ 0 → climbs work d j ≡ true
  unfolding climbs
  climb_there zero j h e = absurd (omega arith)
  climb_there (suc d) j h e = rw (eq-eqb j 0 e)

  pub climb_none : (d j : ℕ) → 0 < d → (j ≡ 0 → ⊥) → get_or work j 0 ≡ 0 → climbs work d j ≡ false
  unfolding climbs
  climb_none zero j h n e = absurd (omega arith)
  climb_none (suc d) j h n e = rw (ne_eqb j 0 n, eq-eqb (get_or work j 0) 0 e)

  pub climb_on : (d j : ℕ) → 0 < d → (j ≡ 0 → ⊥) → (get_or work j 0 ≡ 0 → ⊥) → climbs work d j ≡ climbs work (d - 1) (get_or work j 0 - 1)
  unfolding climbs
  climb_on zero j h n e = absurd (omega arith)
  climb_on (suc d) j h n e = rw (ne_eqb j 0 n, ne_eqb (get_or work j 0) 0 e) (ap (λ (k : ℕ). climbs work k (get_or work j 0 - 1)) (less d))
    where
      less : (d : ℕ) → d ≡ suc d - 1
      less d = omega arith

  pub climb_end : (d j : ℕ) → d ≤ 0 → climbs work d j ≡ eqb j 0
  unfolding climbs
  climb_end zero j h = refl
  climb_end (suc d) j h = absurd (omega arith)

-- ---- the children of a node
adopt_at : (work : List ℕ) (child i j : ℕ) → j < length work → get_or (set work child (adopted (get_or work child 0) i)) j 0 ≡ cond (eqb j child) (adopted (get_or work j 0) i) (get_or work j 0)
adopt_at work child i j l = ⊎_elim here there (same? j child)
  where
    here : j ≡ child → get_or (set work child (adopted (get_or work child 0) i)) j 0 ≡ cond (eqb j child) (adopted (get_or work j 0) i) (get_or work j 0)
    here e =
        rw (eq-eqb j child e)
        (ap (λ (k : ℕ). get_or (set work child (adopted (get_or work child 0) i)) k 0) e
        ∙ get_or-set_same work child _ 0 (omega arith)
        ∙ ap (λ (k : ℕ). adopted (get_or work k 0) i) (sym e))

    there : (j ≡ child → ⊥) → get_or (set work child (adopted (get_or work child 0) i)) j 0 ≡ cond (eqb j child) (adopted (get_or work j 0) i) (get_or work j 0)
    there n = rw (ne_eqb j child n) (get_or-set_other work child j _ 0 n)

pub both_adopt : (links work after last : List ℕ) (i : ℕ) → kind_at links i ≡ 0
    → after ≡ set work (first_at links i) (adopted (get_or work (first_at links i) 0) i)
    → last ≡ set after (first_at links i + 1) (adopted (get_or after (first_at links i + 1) 0) i)
    → (j : ℕ) → j < length work → get_or last j 0 ≡ cond (parent_at links j i) (adopted (get_or work j 0) i) (get_or work j 0)
unfolding parent_at
both_adopt links work after last i k e f j l =
    ap (λ (z : List ℕ). get_or z j 0) f
    ∙ adopt_at after (first_at links i + 1) i j (omega (arith, ap length e, length-set work (first_at links i) (adopted (get_or work (first_at links i) 0) i)))
    ∙ ap (λ (z : ℕ). cond (eqb j (first_at links i + 1)) (adopted z i) z) (ap (λ (z : List ℕ). get_or z j 0) e ∙ adopt_at work (first_at links i) i j l)
    ∙ rw (eq-eqb (kind_at links i) 0 k) (cases (same? j (first_at links i)))
  where
    x : ℕ
    x = get_or work j 0

    cases : (j ≡ first_at links i) ⊎ (j ≡ first_at links i → ⊥)
        → cond (eqb j (first_at links i + 1)) (adopted (cond (eqb j (first_at links i)) (adopted x i) x) i) (cond (eqb j (first_at links i)) (adopted x i) x)
        ≡ cond (eqb j (first_at links i) || eqb j (first_at links i + 1)) (adopted x i) x
    cases (inl p) = rw (eq-eqb j (first_at links i) p, ne_eqb j (first_at links i + 1) (λ q. omega arith))
    cases (inr n) = rw (ne_eqb j (first_at links i) n)

pub no_child : (links : List ℕ) (x i : ℕ) → (kind_at links i ≡ 0 → ⊥) → (j : ℕ) → x ≡ cond (parent_at links j i) (adopted x i) x
unfolding parent_at
no_child links x i n j = rw (ne_eqb (kind_at links i) 0 n)

pub named_more : (links : List ℕ) (j i w : ℕ) → w ≡ named links j i → cond (parent_at links j i) (adopted w i) w ≡ named links j (i + 1)
unfolding named
named_more links j i w e = rw (add-one, e)

pub named_none : (links : List ℕ) (j : ℕ) → named links j 0 ≡ 0
unfolding named
named_none links j = refl

-- ---- where leaves begin and end
module _ (links : List ℕ) (from i : ℕ) where
  begin_is : (k : ℕ) → kind_at links i ≡ 1 → begins links (from + k) i ≡ eqb (from + k) (first_at links i)
  unfolding begins
  begin_is k e = rw (eq-eqb (kind_at links i) 1 e)

  end_is : (k : ℕ) → kind_at links i ≡ 1 → ends links (from + k) i ≡ eqb (from + k) (first_at links i + count_at links i)
  unfolding ends
  end_is k e = rw (eq-eqb (kind_at links i) 1 e)

  none_begins : (k : ℕ) → (kind_at links i ≡ 1 → ⊥) → begins links (from + k) i ≡ false
  unfolding begins
  none_begins k e = rw (ne_eqb (kind_at links i) 1 e)

  none_ends : (k : ℕ) → (kind_at links i ≡ 1 → ⊥) → ends links (from + k) i ≡ false
  unfolding ends
  none_ends k e = rw (ne_eqb (kind_at links i) 1 e)

  next_begins : (k : ℕ) → count (begins links (from + k)) (i + 1) ≡ count (begins links (from + k)) i + tick (begins links (from + k) i)
  next_begins k = ap (λ (z : ℕ). count (begins links (from + k)) z) (add-one i) ∙ count_more (begins links (from + k)) i

  next_ends : (k : ℕ) → count (ends links (from + k)) (i + 1) ≡ count (ends links (from + k)) i + tick (ends links (from + k) i)
  next_ends k = ap (λ (z : ℕ). count (ends links (from + k)) z) (add-one i) ∙ count_more (ends links (from + k)) i

  pub balance_leaf : (work after last : List ℕ) → kind_at links i ≡ 1 → Balanced links i work from → length after ≡ length work → length last ≡ length work
      → ((k : ℕ) → k < length work → get_or after k 0 ≡ get_or work k 0 + tick (eqb (from + k) (first_at links i)))
      → ((k : ℕ) → k < length after → get_or last k 0 + tick (eqb (from + k) (first_at links i + count_at links i)) ≡ get_or after k 0)
      → Balanced links (i + 1) last from
  balance_leaf work after last e b m n f g k l =
      omega (arith, b k (omega arith), f k (omega arith), g k (omega arith), next_begins k, next_ends k, ap tick (begin_is k e), ap tick (end_is k e))

  pub balance_none : (work : List ℕ) → (kind_at links i ≡ 1 → ⊥) → Balanced links i work from → Balanced links (i + 1) work from
  balance_none work e b k l =
      omega (arith, b k l, next_begins k, next_ends k, ap tick (none_begins k e), ap tick (none_ends k e))

-- ---- an uneven place
module _ (links work : List ℕ) (from p even : ℕ) (b : Balanced links (node_count links) work from) (h : from ≤ p) (l : p - from < length work) (e : even ≡ node_count links + tick (eqb p 0)) where
  at_p : from + (p - from) ≡ p
  at_p = omega arith

  told : get_or work (p - from) 0 + count (ends links p) (node_count links) ≡ node_count links + count (begins links p) (node_count links)
  told = rw at_p at (b (p - from) l)

  pub uneven_yes : (get_or work (p - from) 0 ≡ even → ⊥) → uneven links p ≡ true
  unfolding uneven
  uneven_yes n = rw (ne_eqb (count (begins links p) (node_count links)) (count (ends links p) (node_count links) + tick (eqb p 0)) (λ q. n (omega (arith, told))))

  pub uneven_no : get_or work (p - from) 0 ≡ even → uneven links p ≡ false
  unfolding uneven
  uneven_no n = rw (eq-eqb (count (begins links p) (node_count links)) (count (ends links p) (node_count links) + tick (eqb p 0)) (omega (arith, told)))

pub balance_start : (links work : List ℕ) (from m : ℕ) → work ≡ replicate m (node_count links) → Balanced links 0 work from
unfolding count
balance_start links work from m e k l =
    let n : k < m = omega (arith, ap length e, length-replicate m (node_count links)) in
    omega (arith, ap (λ (z : List ℕ). get_or z k 0) e ∙ get_or-replicate m k (node_count links) 0 n)

-- ---- an entry of the index list
module _ (n : ℕ) (index : List ℕ) where
  abbrev pub Seen : ℕ → ℕ → Bool
  Seen k p = any (λ q. eqb (get_or index q 0) k) p

  pub seen_none : (k : ℕ) → Seen k 0 ≡ false
  unfolding any
  seen_none k = refl

  pub far : (p : ℕ) → n ≤ get_or index p 0 → misplaced n index p ≡ true
  unfolding misplaced
  far p h = rw (le-leb n (get_or index p 0) h)

  pub near : (p : ℕ) → get_or index p 0 < n → misplaced n index p ≡ Seen (get_or index p 0) p
  unfolding misplaced
  near p h = rw (lt-leb n (get_or index p 0) h)

  seen_more : (k p : ℕ) → Seen k (p + 1) ≡ Seen k p || eqb (get_or index p 0) k
  unfolding any
  seen_more k p = ap (λ (z : ℕ). Seen k z) (add-one p)

  or_false : (a : Bool) → (a || false) ≡ a
  or_false true = refl
  or_false false = refl

  or_true : (a : Bool) → (a || true) ≡ true
  or_true true = refl
  or_true false = refl

  pub seen_set : (work : List ℕ) (p k : ℕ) → k < length work → get_or index p 0 < length work → get_or work k 0 ≡ tick (Seen k p)
      → get_or (set work (get_or index p 0) 1) k 0 ≡ tick (Seen k (p + 1))
  seen_set work p k l m e = ⊎_elim here there (same? k (get_or index p 0))
    where
      here : k ≡ get_or index p 0 → get_or (set work (get_or index p 0) 1) k 0 ≡ tick (Seen k (p + 1))
      here q =
          ap (λ (z : ℕ). get_or (set work (get_or index p 0) 1) z 0) q
          ∙ get_or-set_same work (get_or index p 0) 1 0 m
          ∙ sym (ap tick (seen_more k p ∙ ap (λ (t : Bool). Seen k p || t) (eq-eqb (get_or index p 0) k (sym q)) ∙ or_true (Seen k p)))

      there : (k ≡ get_or index p 0 → ⊥) → get_or (set work (get_or index p 0) 1) k 0 ≡ tick (Seen k (p + 1))
      there q =
          get_or-set_other work (get_or index p 0) k 1 0 q
          ∙ e
          ∙ sym (ap tick (seen_more k p ∙ ap (λ (t : Bool). Seen k p || t) (ne_eqb (get_or index p 0) k (λ w. q (sym w))) ∙ or_false (Seen k p)))

tick_yes : (t : Bool) → (tick t ≡ 0 → ⊥) → t ≡ true
tick_yes true h = refl
tick_yes false h = absurd (h refl)

tick_no : (t : Bool) → tick t ≡ 0 → t ≡ false
tick_no true h = absurd (omega arith)
tick_no false h = refl

pub ticked : (w : ℕ) (t : Bool) → w ≡ tick t → (w ≡ 0 → ⊥) → t ≡ true
ticked w t e h = tick_yes t (λ z. h (e ∙ z))

pub unticked : (w : ℕ) (t : Bool) → w ≡ tick t → w ≡ 0 → t ≡ false
unticked w t e h = tick_no t (sym e ∙ h)
