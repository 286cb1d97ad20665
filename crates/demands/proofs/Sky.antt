-- Demand 3 for every place of a sky of rays over a built tree: a place tells what the single walk answers, and that meets it. Assumes nothing.
use Rattle.std.specs.Prelude.{Option, Some, None}
use mathlib.Core.Path.{◌≡◌, refl, ap, ◌∙◌}
use mathlib.Core.Logic.{inl, inr}
use mathlib.Core.List.{List}
use Prim.Native.Nat.{ℕ, ◌*◌, ◌%◌, ◌≤◌}
use native.Mathlib.Omega.{arith}
use lib.ListN.{length}
use lib.Ieee.{Float}
use Rattle.float.specs.Number.{nought}
use Rattle.aabb.specs.declared.vector.Ray.{Ray}
use Rattle.aabb.specs.Vector.{ray_at}
use Rattle.triangle.specs.declared.Hit.{Hit}
use Rattle.builder.specs.Reply.{served_reply}
use Rattle.builder.specs.Build.{built}
use Rattle.sky.specs.declared.Place.{Place}
use Rattle.tree.specs.Lent.{Lent, Labelled}
use Rattle.lent.specs.Ladder.{none, triangle_count}
use Rattle.walk.specs.Answer.{Told}
use Rattle.walk.specs.Walk.{walk}
use Rattle.tree.specs.Tree.{Tree}
use Rattle.sky.specs.Sky.{ray_count, placed, place_of, place_at, sky}
use Rattle.sky.proofs.Room.{place_k, served}
use Rattle.demands.specs.Handed.{handed}
use Rattle.demands.specs.Demand.{Demand3, Signed}
use Rattle.demands.specs.Sky.{Demand3At, SignedSky}
use Rattle.demands.proofs.Demand.{labelled, built_walk}

-- ---- what a place tells of a walk that is served
hit_place : (a : Told) (h : Hit) → a.refusal ≡ none → a.hit ≡ Some h → place_of a ≡ record { outcome = 100; which = h.triangle; t = h.t; u = h.u; v = h.v; boxes = a.boxes; triangles = a.triangles; material = h.material }
unfolding place_of placed
hit_place a h e f = rw (e, f)

miss_place : (a : Told) → a.refusal ≡ none → a.hit ≡ None → place_of a ≡ record { outcome = 0; which = 0; t = nought; u = nought; v = nought; boxes = a.boxes; triangles = a.triangles; material = 0 }
unfolding place_of placed
miss_place a e f = rw (e, f)

module _ (s : Lent) (t : Tree) (r : Ray) (D : Demand3 s t r) where
  by_hit : (f : Option Hit) → (walk s r).hit ≡ f → Demand3At s t r (place_of (walk s r))
  by_hit (Some h) e =
      let q = hit_place (walk s r) h D.served e in
      let out = ap (λ (p : Place). p.outcome) q in
      let boxes = ap (λ (p : Place). p.boxes) q in
      let tests = ap (λ (p : Place). p.triangles) q in
      record {
        served = inl out;
        box_tests = boxes ∙ D.box_tests;
        triangle_tests = tests ∙ D.triangle_tests;
        most_boxes = omega (arith, boxes, D.most_boxes);
        most_triangles = omega (arith, tests, D.most_triangles);
        hit = λ o. record { hit = h; triangle = ap (λ (p : Place). p.which) q; t_is = ap (λ (p : Place). p.t) q; u_is = ap (λ (p : Place). p.u) q; v_is = ap (λ (p : Place). p.v) q; material = ap (λ (p : Place). p.material) q; nearest = D.hit h e };
        no_hit = λ o. absurd (omega (arith, out, o));
      }
  by_hit None e =
      let q = miss_place (walk s r) D.served e in
      let out = ap (λ (p : Place). p.outcome) q in
      let boxes = ap (λ (p : Place). p.boxes) q in
      let tests = ap (λ (p : Place). p.triangles) q in
      record {
        served = inr out;
        box_tests = boxes ∙ D.box_tests;
        triangle_tests = tests ∙ D.triangle_tests;
        most_boxes = omega (arith, boxes, D.most_boxes);
        most_triangles = omega (arith, tests, D.most_triangles);
        hit = λ o. absurd (omega (arith, out, o));
        no_hit = λ o. D.no_hit e;
      }

  pub demand_3_at : (p : Place) → p ≡ place_of (walk s r) → Demand3At s t r p
  demand_3_at p e = rw e (by_hit (walk s r).hit refl)

-- ---- a tree that was handed over: a material for each triangle, rays in sixes, answer room that suffices, and each ray that is admitted, whatever the others are
module _ (s : Lent) (nodes leaf_count : ℕ) (rays times : List Float) (told : List ℕ) where
  pub signed_sky : Signed s nodes leaf_count → Labelled s.mesh → length rays % 6 ≡ 0 → ray_count rays * 3 ≤ length times → ray_count rays * 5 ≤ length told
      → SignedSky s nodes leaf_count rays (sky s rays times told)
  signed_sky w named sixes timed roomy =
      let W = w.accepted.walkable in
      let o = sky s rays times told in
      let is : o.refusal ≡ none = served s rays times told (record { whole = W.whole; few = W.few; labelled = named; sixes = sixes; timed = timed; roomy = roomy }) in
      record {
        signed = w;
        served = is;
        each = λ k h R. demand_3_at s w.tree (ray_at rays k) (w.answer (ray_at rays k) R) (place_at o.times o.told k) (place_k s rays times told is k h);
      }

-- ---- a built tree
module _ (mesh : List Float) (materials index : List ℕ) (boxes : List Float) (links : List ℕ) (nodes leaf_count : ℕ) (rays times : List Float) (told : List ℕ) where
  abbrev s : Lent
  s = handed mesh materials (built mesh index boxes links)

  -- Rule G4: of an unchanged built tree over its own triangles
  pub built_sky : (built mesh index boxes links).answer ≡ served_reply nodes leaf_count → length materials ≡ triangle_count mesh → length rays % 6 ≡ 0 → ray_count rays * 3 ≤ length times → ray_count rays * 5 ≤ length told
      → SignedSky s nodes leaf_count rays (sky s rays times told)
  built_sky e named =
      signed_sky s nodes leaf_count rays times told (built_walk mesh materials index boxes links nodes leaf_count e named) (labelled mesh materials index boxes links nodes leaf_count e named)
