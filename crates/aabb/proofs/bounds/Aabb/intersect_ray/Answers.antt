-- By what the two calls ensure. Assumes nothing.
use mathlib.Core.Path.{ap, ◌∙◌}
use Rattle.aabb.specs.declared.slab.Aim.{Aim}
use Rattle.aabb.specs.Slab.{through, slab}
use Rattle.aabb.proofs.bounds.Aabb.intersect_ray.Goals as goal

pub returns : goal.returns
unfolding slab
returns c = c.through.ensures ∙ ap (λ (m : Aim). through m c.args.self) c.of.ensures
