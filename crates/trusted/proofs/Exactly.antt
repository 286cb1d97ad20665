-- The call's own answer is that the lists are accepted exactly where they hold a tree as rule G2 asks of one. Assumes nothing.
use mathlib.Core.Path.{◌≡◌, sym, ◌∙◌, ap}
use mathlib.Core.List.{List}
use Prim.Native.Nat.{ℕ}
use Rattle.lent.specs.Limits.{deepest}
use Rattle.tree.specs.Lent.{Lent}
use Rattle.accept.specs.Conditions.{foreign}
use Rattle.accept.specs.Accept.{Verdict, fine, ruling, Outcome, outcome, accepted}
use Rattle.accept.proofs.accept.Reads as accept_call
use Rattle.trusted.specs.Meets.{Sound, Roomy, Meets}
use Rattle.trusted.specs.Exactly.{Gives, Trusted, Exactly}
use Rattle.trusted.proofs.Growing.{grow}
use Rattle.trusted.proofs.Accepting.{meets_tree}
use Rattle.trusted.proofs.Unbroken.{tree_meets}
use Rattle.trusted.proofs.Judged.{fine_is, accepted_meets, meets_accepted}

module _ (s : Lent) (work : List ℕ) (v : Verdict) (after : List ℕ) (e : outcome (ruling v) after ≡ accepted s work) where
  meets : v ≡ fine → Sound s × Roomy s work × Meets s
  meets f = accepted_meets s work (sym (ap (λ (o : Outcome). o.answer) e) ∙ ap ruling f)

  is_fine : Sound s → Roomy s work → Meets s → v ≡ fine
  is_fine A room K = fine_is v (ap (λ (o : Outcome). o.answer) (e ∙ meets_accepted s work A room K))

  sound : Trusted s → Sound s
  sound h = let w = h.accepted.walkable in record { whole = w.whole; few = w.few; fitted = w.fitted; admitted = w.admitted }

  exactly : Exactly s work v after
  exactly = record {
    breaks_none = meets;
    none_breaks = is_fine;
    holds_tree = λ f. let m = meets f in record { tree = grow s deepest 0; accepted = meets_tree s m.0 m.2 };
    tree_held = λ h room. is_fine (sound h) room (tree_meets s h.tree h.accepted);
    zeroed = λ f. let m = meets f in ap (λ (o : Outcome). o.work) (e ∙ meets_accepted s work m.0 m.1 m.2);
  }

pub accept_exactly : Gives accept_call.Post (λ κs x r e. Exactly (foreign x.0.now x.1.0.now.index x.1.0.now.boxes x.1.0.now.links) x.1.1.0.now r e.1.1.0.now)
accept_exactly κs x r e p = exactly _ _ r _ p
