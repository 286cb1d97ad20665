-- A record copied into its part of the room is the record written. Assumes nothing.
use mathlib.Core.Path.{◌≡◌, refl, sym, ap, ◌∙◌}
use mathlib.Core.List.{List, ◌++◌, append_assoc}
use Prim.Native.Nat.{ℕ, ◌+◌, ◌*◌, ◌-◌, ◌≤◌}
use native.Mathlib.Omega.{arith}
use lib.ListN.{length, take, drop}
use lib.Seq.{sets-eq, drop-drop}
use borrow.Rule.Slice.PartMut.{put_mid}
use Rattle.lent.specs.Flat.{put}
use Rattle.sky.proofs.put.Goals as goal

part_put : {A : Type 0} (width i : ℕ) (list vs new : List A) → new ≡ vs → length vs ≡ width → i * width + width ≤ length list
    → put_mid (i * width) (i * width + width - i * width) list new ≡ put width list i vs
unfolding put
part_put {A} width i list vs new e l h =
    let k : i * width + width - i * width ≡ length vs = omega arith in
    ap (λ (n : ℕ). put_mid (i * width) n list new) k
    ∙ ap (λ (ys : List A). put_mid (i * width) (length vs) list ys) e
    ∙ ap (λ (rest : List A). take (i * width) list ++ (vs ++ rest)) (drop-drop (length vs) (i * width) list)
    ∙ sym (sets-eq vs list (i * width) (omega arith) ∙ append_assoc (take (i * width) list) vs (drop (i * width + length vs) list))

pub returns : goal.returns
returns c = record {
  times_after = part_put 3 c.args.k c.args.times.now _ _ c.copy_from_slice.ensures.after refl c.requires.0;
  told_after = part_put 5 c.args.k c.args.told.now _ _ c.copy_from_slice-2.ensures.after refl c.requires.1;
}
