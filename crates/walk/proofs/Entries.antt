-- A leaf's entries: what stays true of the loop of each pass, and that the two passes give what one pass gives. Assumes nothing.
use mathlib.Core.Path.{◌≡◌, refl, sym, ap, ◌∙◌}
use mathlib.Core.Bool.{Bool, true, false, cond}
use mathlib.Core.List.{List}
use Prim.Native.Nat.{ℕ, zero, suc, ◌+◌, ◌-◌, ◌≤◌, ◌<◌}
use native.Mathlib.Nat.{add-zero}
use native.Mathlib.Omega.{arith}
use borrow.Author.Tests.{le-leb, lt-leb}
use lib.Dec.{leb}
use lib.ListN.{get_or}
use lib.Ieee.{Float}
use Rattle.aabb.specs.declared.vector.Ray.{Ray}
use Rattle.triangle.specs.Mesh.{triangle_at, admitted_triangle}
use Rattle.std.specs.Prelude.{Option, Result, Ok, Err, ⊤}
use Rattle.lent.specs.declared.refusal.Reason.TheVariants.{BadTriangle, BadEntry}
use Rattle.lent.specs.declared.refusal.Refused.{Refused}
use Rattle.walk.specs.declared.tally.Met.{Met}
use Rattle.walk.specs.declared.tally.Tally.{Tally}
use Rattle.walk.specs.declared.turn.Turn.{Turn}
use Rattle.walk.specs.declared.turn.Turn.TheVariants.{Down}
use Rattle.lent.specs.Ladder.{triangle_count}
use Rattle.walk.specs.Walk.{after, tested}
use Rattle.walk.specs.inner.Turns.{scan}
use Rattle.walk.specs.inner.State.{refuse, verdict, nearest_of}

-- ---- the first pass
pub record Judging (mesh : List Float) (index : List ℕ) (first count place : ℕ) : Type 0 where
  pub same : verdict mesh index (first + count - place) place ≡ verdict mesh index count first

module _ (mesh : List Float) (index : List ℕ) where
  none_judged : (left p : ℕ) → left ≡ 0 → verdict mesh index left p ≡ Ok tt
  unfolding verdict
  none_judged left p e = rw e

  one_judged : (left more p : ℕ) → left ≡ suc more → verdict mesh index left p
      ≡ cond (leb (triangle_count mesh) (get_or index p 0)) (refuse BadEntry p) (cond (admitted_triangle (triangle_at mesh (get_or index p 0))) (verdict mesh index more (suc p)) (refuse BadTriangle (get_or index p 0)))
  unfolding verdict
  one_judged left more p e = rw e

  module _ (first count place : ℕ) (G : Judging mesh index first count place) where
    pub judging_over : first + count ≤ place → Ok tt ≡ verdict mesh index count first
    judging_over h = sym (none_judged (first + count - place) place (omega arith)) ∙ G.same

    module _ (some : place < first + count) (number : ℕ) (e : number ≡ get_or index place 0) where
      here : cond (leb (triangle_count mesh) number) (refuse BadEntry place) (cond (admitted_triangle (triangle_at mesh number)) (verdict mesh index (first + count - (place + 1)) (suc place)) (refuse BadTriangle number)) ≡ verdict mesh index count first
      here = rw e (sym (one_judged (first + count - place) (first + count - (place + 1)) place (omega arith)) ∙ G.same)

      pub judging_ten : triangle_count mesh ≤ number → refuse BadEntry place ≡ verdict mesh index count first
      judging_ten h = rw (le-leb (triangle_count mesh) number h) at here

      module _ (h : number < triangle_count mesh) where
        pub judging_five : admitted_triangle (triangle_at mesh number) ≡ false → refuse BadTriangle number ≡ verdict mesh index count first
        judging_five a = rw (lt-leb (triangle_count mesh) number h, a) at here

        pub judging_again : admitted_triangle (triangle_at mesh number) ≡ true → Judging mesh index first count (place + 1)
        judging_again a =
            record {
              same = let q : place + 1 ≡ suc place = omega arith in ap (λ (p : ℕ). verdict mesh index (first + count - (place + 1)) p) q ∙ rw (lt-leb (triangle_count mesh) number h, a) at here;
            }

-- ---- the second pass
pub record Testing (mesh : List Float) (index : List ℕ) (r : Ray) (first count : ℕ) (best : Option Met) (place : ℕ) (found : Option Met) : Type 0 where
  pub same : nearest_of mesh index r (first + count - place) place found ≡ nearest_of mesh index r count first best

module _ (mesh : List Float) (index : List ℕ) (r : Ray) where
  none_tested : (left p : ℕ) (best : Option Met) → left ≡ 0 → nearest_of mesh index r left p best ≡ best
  unfolding nearest_of
  none_tested left p best e = rw e

  one_tested : (left more p : ℕ) (best : Option Met) → left ≡ suc more → nearest_of mesh index r left p best ≡ nearest_of mesh index r more (suc p) (after mesh r (get_or index p 0) best)
  unfolding nearest_of
  one_tested left more p best e = rw e

  module _ (first count : ℕ) (best : Option Met) (place : ℕ) (found : Option Met) (G : Testing mesh index r first count best place found) where
    pub testing_over : first + count ≤ place → found ≡ nearest_of mesh index r count first best
    testing_over h = sym (none_tested (first + count - place) place found (omega arith)) ∙ G.same

    pub testing_again : place < first + count → (next : Option Met) → next ≡ after mesh r (get_or index place 0) found → Testing mesh index r first count best (place + 1) next
    testing_again some next e = record {
      same =
          let q : place + 1 ≡ suc place = omega arith in
          ap (λ (p : ℕ). nearest_of mesh index r (first + count - (place + 1)) p next) q
          ∙ ap (λ (b : Option Met). nearest_of mesh index r (first + count - (place + 1)) (suc place) b) e
          ∙ sym (one_tested (first + count - place) (first + count - (place + 1)) place found (omega arith))
          ∙ G.same;
    }

  -- ---- the two together
  abbrev onward : Result ⊤ Refused → Turn → Result Turn Refused
  onward (Ok u) t = Ok t
  onward (Err r) t = Err r

  abbrev counted : ℕ → ℕ → Tally → Tally
  counted count p a = record { boxes = a.boxes; triangles = a.triangles + count; nearest = nearest_of mesh index r count p a.nearest }

  either : (ten fit : Bool) (p k : ℕ) (v : Result ⊤ Refused) (t : Turn) (u : Result Turn Refused) → onward v t ≡ u
      → onward (cond ten (refuse BadEntry p) (cond fit v (refuse BadTriangle k))) t ≡ cond ten (refuse BadEntry p) (cond fit u (refuse BadTriangle k))
  either true fit p k v t u e = refl
  either false true p k v t u e = e
  either false false p k v t u e = refl

  both : (count p : ℕ) (a : Tally) → onward (verdict mesh index count p) (Down (counted count p a)) ≡ scan mesh index r count p a
  unfolding verdict nearest_of scan tested
  both zero p a = ap (λ (k : ℕ). Ok (Down (record { boxes = a.boxes; triangles = k; nearest = a.nearest }))) (add-zero a.triangles)
  both (suc count) p a =
      let k = get_or index p 0 in
      let e : a.triangles + suc count ≡ (a.triangles + 1) + count = omega arith in
      either (leb (triangle_count mesh) k) (admitted_triangle (triangle_at mesh k)) p k (verdict mesh index count (suc p)) (Down (counted (suc count) p a)) (scan mesh index r count (suc p) (tested mesh r k a))
      (ap (λ (m : ℕ). onward (verdict mesh index count (suc p)) (Down (record { boxes = a.boxes; triangles = m; nearest = nearest_of mesh index r (suc count) p a.nearest }))) e
      ∙ both count (suc p) (tested mesh r k a))

  pub scan_unfit : (count p : ℕ) (a : Tally) (why : Refused) → verdict mesh index count p ≡ Err why → Err why ≡ scan mesh index r count p a
  scan_unfit count p a why e = (rw e at (both count p a))

  pub scan_fit : (count p : ℕ) (a : Tally) (u : ⊤) → verdict mesh index count p ≡ Ok u → (best : Option Met) → best ≡ nearest_of mesh index r count p a.nearest
      → Ok (Down (record { boxes = a.boxes; triangles = a.triangles + count; nearest = best })) ≡ scan mesh index r count p a
  scan_fit count p a u e best n =
      ap (λ (b : Option Met). Ok (Down (record { boxes = a.boxes; triangles = a.triangles + count; nearest = b }))) n ∙ rw e at (both count p a)
