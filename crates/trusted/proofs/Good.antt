-- What condition (i) says of each node, where there are triangles. Assumes nothing.
use mathlib.Core.Path.{◌≡◌, refl, sym, ◌∙◌}
use mathlib.Core.Bool.{Bool, true, false, true≢false}
use mathlib.Core.Logic.{◌⊎◌, inl, inr}
use Prim.Native.Nat.{ℕ, ◌+◌, ◌≤◌, ◌<◌}
use native.Mathlib.Omega.{arith}
use lib.Dec.{T}
use lib.ListN.{length}
use borrow.Author.Tests.{ltb-false, leb-false}
use Rattle.float.proofs.Cases.{same?, true_is}
use Rattle.aabb.specs.Bounds.{bounded, box_at}
use Rattle.tree.specs.Lent.{Lent}
use Rattle.accept.specs.Conditions.{nodes, meshed, breaks_1}
use Rattle.accept.specs.inner.Room.{first_at, count_at, kind_at}
use Rattle.accept.proofs.Faults.{bad_box, hollow, of_leaf, bad_kind, bad_count, of_inner, of_mesh}

pub data Good (s : Lent) (i : ℕ) : Type 0 where
  leafy : kind_at s.tree.links i ≡ 1 → first_at s.tree.links i + count_at s.tree.links i ≤ length s.tree.index → 0 < count_at s.tree.links i → T (bounded (box_at s.tree.boxes i)) → Good s i
  inner : kind_at s.tree.links i ≡ 0 → count_at s.tree.links i ≡ 0 → first_at s.tree.links i + 1 < nodes s → T (bounded (box_at s.tree.boxes i)) → Good s i

pub good : (s : Lent) (i : ℕ) → (meshed s ≡ 0 → ⊥) → breaks_1 s i ≡ false → Good s i
good s i n e = by_box (bounded (box_at s.tree.boxes i)) refl
  where
    no : true ≡ breaks_1 s i → ⊥
    no w = true≢false (w ∙ e)

    by_kind : bounded (box_at s.tree.boxes i) ≡ true → (kind_at s.tree.links i ≡ 1) ⊎ (kind_at s.tree.links i ≡ 1 → ⊥) → (kind_at s.tree.links i ≡ 0) ⊎ (kind_at s.tree.links i ≡ 0 → ⊥)
        → (count_at s.tree.links i ≡ 0) ⊎ (count_at s.tree.links i ≡ 0 → ⊥) → Good s i
    by_kind b (inl p) k (inl c) = absurd (no (hollow s i p c ∙ sym (of_mesh s i n)))
    by_kind b (inl p) k (inr c) = leafy p (ltb-false _ _ (of_leaf s i b p c ∙ sym (of_mesh s i n) ∙ e)) (omega arith) (true_is _ b)
    by_kind b (inr p) (inl k) (inl c) = inner k c (leb-false _ _ (of_inner s i b k c ∙ sym (of_mesh s i n) ∙ e)) (true_is _ b)
    by_kind b (inr p) (inl k) (inr c) = absurd (no (bad_count s i b p c ∙ sym (of_mesh s i n)))
    by_kind b (inr p) (inr k) c = absurd (no (bad_kind s i b p k ∙ sym (of_mesh s i n)))

    by_box : (t : Bool) → bounded (box_at s.tree.boxes i) ≡ t → Good s i
    by_box true b = by_kind b (same? _ 1) (same? _ 0) (same? _ 0)
    by_box false b = absurd (no (bad_box s i b ∙ sym (of_mesh s i n)))
