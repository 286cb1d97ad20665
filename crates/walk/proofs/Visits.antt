-- What a visit leaves where it goes on: no box test and few triangle tests more, and children that there are and that there is room for.
-- Assumes nothing.
use mathlib.Core.Path.{◌≡◌, refl}
use mathlib.Core.Bool.{Bool, true, false, ◌||◌, cond}
use mathlib.Core.List.{List}
use Prim.Native.Nat.{ℕ, zero, suc, ◌+◌, ◌≤◌}
use native.Mathlib.Omega.{arith}
use borrow.Author.Tests.{leb-false, ltb-false}
use lib.Dec.{leb, ltb}
use lib.ListN.{length, get_or}
use lib.Ieee.{Float}
use Rattle.float.proofs.Cases.{neither}
use Rattle.aabb.specs.declared.vector.Ray.{Ray}
use Rattle.triangle.specs.Mesh.{triangle_at, admitted_triangle}
use Rattle.walk.specs.declared.tally.Tally.{Tally}
use Rattle.walk.specs.declared.turn.Turn.{Turn}
use Rattle.walk.specs.declared.turn.Turn.TheVariants.{Open}
use Rattle.std.specs.Prelude.{Result, Ok}
use Rattle.lent.specs.declared.refusal.Reason.TheVariants.{BadTriangle, BadNode, BadEntry, Full}
use Rattle.lent.specs.declared.refusal.Refused.{Refused}
use Rattle.walk.specs.inner.State.{refuse}
use Rattle.tree.specs.declared.Node.{Node}
use Rattle.lent.specs.Limits.{most_pending}
use Rattle.lent.specs.Ladder.{triangle_count}
use Rattle.tree.specs.Node.{left_or_first, left_of, right_of}
use Rattle.walk.specs.Walk.{tested}
use Rattle.walk.specs.inner.Turns.{Counted, Leaves, scan, open_leaf, open_internal}

either : (P : Result Turn Refused → Type 0) (d : Bool) (t u : Result Turn Refused) → (d ≡ true → P t) → (d ≡ false → P u) → P (cond d t u)
either P true t u f g = f refl
either P false t u f g = g refl

module _ (nodes besides boxes most : ℕ) where
  abbrev pub P : Result Turn Refused → Type 0
  P t = Leaves nodes besides boxes most t

  one_more : (mesh : List Float) (r : Ray) (k t : ℕ) (a : Tally) → Counted boxes t a → Counted boxes (t + 1) (tested mesh r k a)
  unfolding tested
  one_more mesh r k t a h = record { tests = h.tests; most = omega (arith, h.most) }

  scanned : (mesh : List Float) (index : List ℕ) (r : Ray) (t count p : ℕ) (a : Tally) → Counted boxes t a → t + count ≤ most → P (scan mesh index r count p a)
  unfolding scan
  scanned mesh index r t zero p a h l = record { tests = h.tests; most = omega (arith, h.most) }
  scanned mesh index r t (suc count) p a h l =
      let k = get_or index p 0 in
      let fit = admitted_triangle (triangle_at mesh k) in
      let rest = scan mesh index r count (suc p) (tested mesh r k a) in
      either P (leb (triangle_count mesh) k) (refuse BadEntry p) (cond fit rest (refuse BadTriangle k)) (λ e. tt)
      (λ e. either P fit rest (refuse BadTriangle k) (λ f. scanned mesh index r (t + 1) count (suc p) (tested mesh r k a) (one_more mesh r k t a h) (omega arith)) (λ f. tt))

  pub leaf_opened : (mesh : List Float) (index : List ℕ) (r : Ray) (i t : ℕ) (x : Node) (a : Tally) → Counted boxes t a → t + x.count ≤ most → P (open_leaf mesh index r i x a)
  unfolding open_leaf
  leaf_opened mesh index r i t x a h l =
      either P (ltb (length index) (left_or_first x + x.count)) (refuse BadNode i) (scan mesh index r x.count (left_or_first x) a) (λ e. tt)
      (λ e. scanned mesh index r t x.count (left_or_first x) a h l)

  pub internal_opened : (i : ℕ) (x : Node) → P (open_internal nodes i x besides)
  unfolding open_internal
  internal_opened i x =
      let l = leb nodes (left_of i x) in
      let r = leb nodes (right_of i x) in
      let full = ltb most_pending (besides + 2) in
      let put : Result Turn Refused = Ok (Open (left_of i x) (right_of i x)) in
      either P (l || r) (refuse BadNode i) (cond full (refuse Full i) put) (λ e. tt)
      (λ e. either P full (refuse Full i) put (λ f. tt)
      (λ f. record {
        left_there = leb-false nodes (left_of i x) (neither l r e).0;
        right_there = leb-false nodes (right_of i x) (neither l r e).1;
        room = ltb-false most_pending (besides + 2) f;
      }))
