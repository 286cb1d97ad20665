-- `all` over the places is the definition's recursion over them. Assumes nothing.
use Rattle.std.proofs.Common.{◌≡◌, ℕ, zero, suc, ◌+◌, ◌-◌, ◌&&◌, Bool, List, Float, get_or, add-one, refl, ◌∙◌, ap, arith, rules, tests}
use Rattle.std.specs.List.{list_all, range_with_len}
use Rattle.std.proofs.lemmas.Iterator.{YieldsList-from_range}
use Rattle.std.proofs.lemmas.Iterator.Search.{all_from_yields_List}
use Rattle.aabb.specs.declared.bounds.Aabb.{Aabb}
use Rattle.triangle.specs.Mesh.{triangle_at}
use Rattle.accept.specs.Conditions.{holds_all, holds_each}
use Rattle.accept.proofs.boxes.holds_each.Goals as goal

abbrev held : List Float → List ℕ → Aabb → ℕ → Bool
held mesh index b p = holds_all b (triangle_at mesh (get_or index p 0))

each : (mesh : List Float) (index : List ℕ) (b : Aabb) (k p : ℕ) → list_all (held mesh index b) (range_with_len p k) ≡ holds_each mesh index b k p
unfolding holds_each
each mesh index b zero p = refl
each mesh index b (suc k) p = rw add-one (ap (λ (t : Bool). held mesh index b p && t) (each mesh index b k (suc p)))

long : (p k : ℕ) → p + k - p ≡ k
long p k = omega arith

pub returns : goal.returns
returns c =
    let a = c.args in
    all_from_yields_List (held a.triangles.now a.index.now a.b) _ _ _ c.all.ensures.ran (YieldsList-from_range a.first (a.first + a.count) a.count refl (long a.first a.count)) (λ x b q k. search (rules, tests)) ∙ each a.triangles.now a.index.now a.b a.count a.first
