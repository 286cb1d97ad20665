-- What stays true of the walk's loop: what is left of the walk gives the whole walk's answer. Assumes nothing.
use mathlib.Core.Path.{◌≡◌, refl, sym, ap, ◌∙◌}
use mathlib.Core.List.{List, [], ◌∷◌}
use mathlib.Core.Logic.{◌⊎◌, inl, inr}
use Prim.Native.Nat.{ℕ, suc, ◌+◌, ◌-◌, ◌*◌, ◌^◌, ◌≤◌, ◌<◌}
use native.Mathlib.Omega.{arith}
use lib.ListN.{length, get_or}
use Rattle.aabb.specs.declared.vector.Ray.{Ray}
use Rattle.walk.specs.declared.pending.Pending.{Pending}
use Rattle.walk.specs.declared.tally.Tally.{Tally}
use Rattle.walk.specs.declared.turn.Turn.{Turn}
use Rattle.walk.specs.declared.turn.Turn.TheVariants.{Missed, Down, Open}
use Rattle.std.specs.Prelude.{Result, Ok, Err}
use Rattle.lent.specs.declared.refusal.Refused.{Refused}
use Rattle.lent.specs.Refusals.{number}
use Rattle.tree.specs.Lent.{Lent, node_count}
use Rattle.lent.specs.Limits.{most_pending, most_nodes}
use Rattle.walk.specs.Walk.{start, boxed, refused, over, run}
use Rattle.walk.specs.inner.Turns.{Counted, Opens, Leaves, visit, onward}
use Rattle.walk.specs.inner.State.{top, pending, besides, Ready}
use Rattle.walk.proofs.PendingList.{taken, length_top}
use Rattle.walk.proofs.OneMesh.{next_step, none_pending, none_left}

-- each number is below n
abbrev pub Each : ℕ → List ℕ → Type 0
Each n [] = Unit {0}
Each n (x ∷ xs) = (x < n) × Each n xs

pub record Going (s : Lent) (r : Ray) (n : ℕ) (p : Pending) (a : Tally) : Type 0 where
  pub whole : n ≡ node_count s.tree.links
  pub few : n ≤ most_nodes
  pub room : p.len ≤ most_pending
  pub below : Each n (pending p)
  pub most : a.boxes ≤ n
  pub counted : a.triangles ≤ a.boxes * 2 ^ 32
  pub same : run s r (n - a.boxes) (pending p) a ≡ run s r n (0 ∷ []) start

pub one_left : (s : Lent) (r : Ray) (left more i : ℕ) (rest : List ℕ) (a : Tally) → left ≡ suc more → run s r left (i ∷ rest) a ≡ onward (visit s.mesh.triangles s.tree r i (length rest) (boxed a)) rest (boxed a) (run s r more)
one_left s r left more i rest a e = ap (λ (k : ℕ). run s r k (i ∷ rest) a) e ∙ next_step s r more rest i a

-- nothing is pending
pub ended : {s : Lent} {r : Ray} {n : ℕ} {p : Pending} {a : Tally} → Going s r n p a → p.len ≡ 0 → over s.mesh r a ≡ run s r n (0 ∷ []) start
ended {s} {r} {n} {p} {a} G e =
    sym (none_pending s r (n - a.boxes) a)
    ∙ ap (λ (k : ℕ). run s r (n - a.boxes) (top p.nodes k) a) (sym e)
    ∙ G.same

abbrev pub last_of : Pending → ℕ
last_of p = get_or p.nodes (p.len - 1) 0

-- the last one is taken
module _ {s : Lent} {r : Ray} {n : ℕ} {p : Pending} {a : Tally} (G : Going s r n p a) (some : 0 < p.len) where
  pub apart : run s r (n - a.boxes) (last_of p ∷ besides p) a ≡ run s r n (0 ∷ []) start
  apart = rw (← (taken p.nodes p.len some)) G.same

  pub all_below : (last_of p < n) × Each n (besides p)
  all_below = rw (taken p.nodes p.len some) at G.below

  -- and no box test is left
  pub spent : n ≤ a.boxes → refused 12 (last_of p) ≡ run s r n (0 ∷ []) start
  spent h = let z : n - a.boxes ≡ 0 = omega arith in sym (ap (λ (k : ℕ). run s r k (last_of p ∷ besides p) a) z ∙ none_left s r (last_of p) (besides p) a) ∙ apart

-- its box test is counted
pub record Counting (s : Lent) (r : Ray) (n : ℕ) (p : Pending) (a b : Tally) : Type 0 where
  pub going : Going s r n p a
  pub some : 0 < p.len
  pub more : a.boxes < n
  pub one : b ≡ boxed a

module _ {s : Lent} {r : Ray} {n : ℕ} {p : Pending} {a b : Tally} (C : Counting s r n p a b) where
  pub one_box : b.boxes ≡ a.boxes + 1
  unfolding boxed
  one_box = ap (λ (t : Tally). t.boxes) C.one

  no_triangle : b.triangles ≡ a.triangles
  unfolding boxed
  no_triangle = ap (λ (t : Tally). t.triangles) C.one

  pub ready : Ready s.tree.links (last_of p) (p.len - 1) b
  ready =
      let G = C.going in
      let w = G.whole in
      let f = G.few in
      let c = G.counted in
      let m = G.room in
      let l = C.more in record {
        here = omega (arith, (all_below G C.some).0);
        few = omega arith;
        room = omega arith;
        triangles = omega (arith, no_triangle);
      }

  -- and it is visited
  module _ {t : Result Turn Refused} (e : t ≡ visit s.mesh.triangles s.tree r (last_of p) (p.len - 1) b) where
    next : onward t (besides p) b (run s r (n - (a.boxes + 1))) ≡ run s r n (0 ∷ []) start
    next =
        ap (λ (u : Result Turn Refused). onward u (besides p) b (run s r (n - (a.boxes + 1)))) e
        ∙ ap (λ (k : ℕ). onward (visit s.mesh.triangles s.tree r (last_of p) k b) (besides p) b (run s r (n - (a.boxes + 1)))) (sym (length_top p.nodes (p.len - 1)))
        ∙ ap (λ (c : Tally). onward (visit s.mesh.triangles s.tree r (last_of p) (length (besides p)) c) (besides p) c (run s r (n - (a.boxes + 1)))) C.one
        ∙ sym (one_left s r (n - a.boxes) (n - (a.boxes + 1)) (last_of p) (besides p) a (omega (arith, C.more)))
        ∙ apart C.going C.some

    pub stopped : (why : Refused) → t ≡ Err why → refused (number why.reason) why.at ≡ run s r n (0 ∷ []) start
    stopped why g = rw g at next

    went : (q : Pending) (c : Tally) → q.len ≤ most_pending → Each n (pending q) → Counted b.boxes (b.triangles + 2 ^ 32) c
        → run s r (n - (a.boxes + 1)) (pending q) c ≡ run s r n (0 ∷ []) start → Going s r n q c
    went q c l k m h = record {
      whole = C.going.whole;
      few = C.going.few;
      room = l;
      below = k;
      most = omega (arith, m.tests, one_box, C.more);
      counted = omega (arith, m.tests, m.most, one_box, no_triangle, C.going.counted);
      same = ap (λ (k : ℕ). run s r (n - k) (pending q) c) (m.tests ∙ one_box) ∙ h;
    }

    unchanged : Counted b.boxes (b.triangles + 2 ^ 32) b
    unchanged = record { tests = refl; most = omega arith }

    -- its box is missed
    missed : t ≡ Ok Missed → (q : Pending) → q.len ≡ p.len - 1 → pending q ≡ besides p → Going s r n q b
    missed g q l h = went q b (omega (arith, C.going.room)) (rw h (all_below C.going C.some).1) unchanged (rw h (rw g at next))

    module _ (bounds : Leaves (node_count s.tree.links) (p.len - 1) b.boxes (b.triangles + 2 ^ 32) t) where
      -- a leaf is done with
      module _ {c : Tally} (g : t ≡ Ok (Down c)) where
        counts : Counted b.boxes (b.triangles + 2 ^ 32) c
        counts = rw g at bounds

        down_box : c.boxes ≡ a.boxes + 1
        down_box = counts.tests ∙ one_box

        down : (q : Pending) → q.len ≡ p.len - 1 → pending q ≡ besides p → Going s r n q c
        down q l h = went q c (omega (arith, C.going.room)) (rw h (all_below C.going C.some).1) counts (rw h (rw g at next))

      -- its children take its place
      module _ {left right : ℕ} (g : t ≡ Ok (Open left right)) where
        opened : Opens (node_count s.tree.links) (p.len - 1) left right
        opened = rw g at bounds

        pub open_room : p.len < most_pending
        open_room = omega (arith, opened.room, C.some)

        pub opens : (q : Pending) → q.len ≡ p.len + 1 → pending q ≡ left ∷ right ∷ besides p → Going s r n q b
        opens q l h =
            let w = C.going.whole in
            went q b (omega (arith, open_room)) (rw h (omega (arith, opened.left_there), (omega (arith, opened.right_there), (all_below C.going C.some).1))) unchanged (rw h (rw g at next))

      -- whether it was a leaf or a box that is missed, its node is dropped
      pub dropped : (c : Tally) → (t ≡ Ok (Down c)) ⊎ ((t ≡ Ok Missed) × (c ≡ b)) → (c.boxes ≡ a.boxes + 1) × ((q : Pending) → q.len ≡ p.len - 1 → pending q ≡ besides p → Going s r n q c)
      dropped c (inl g) = (down_box g, down g)
      dropped c (inr g) = rw g.1 (one_box, missed g.0)
