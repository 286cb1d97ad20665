-- The material of a hit is the list's entry of its triangle, and nothing else of an answer depends on the list (request A5): two lists of one length
-- are carried through the walk side by side, which looks at them only where it is over. Assumes nothing.
use Rattle.std.specs.Prelude.{Option, Some, None, Result, Ok, Err}
use mathlib.Core.Path.{◌≡◌, refl, sym, ap}
use mathlib.Core.List.{List, [], ◌∷◌}
use Prim.Native.Nat.{ℕ, zero, suc, ◌<◌}
use lib.ListN.{length}
use lib.Ieee.{Float}
use Rattle.lent.specs.Ladder.{Refusal, none, numbered, answered, unless}
use Rattle.aabb.specs.declared.vector.Ray.{Ray}
use Rattle.aabb.specs.Vector.{ray_at}
use Rattle.triangle.specs.declared.Hit.{Hit}
use Rattle.triangle.specs.Meeting.{hit_at}
use Rattle.triangle.specs.Mesh.{triangle_at}
use Rattle.tree.specs.Lent.{Mesh, Lent, material_of, node_count}
use Rattle.walk.specs.declared.tally.Met.{Met}
use Rattle.walk.specs.declared.tally.Tally.{Tally}
use Rattle.lent.specs.Refusals.{number}
use Rattle.lent.specs.declared.refusal.Refused.{Refused}
use Rattle.walk.specs.declared.turn.Turn.{Turn}
use Rattle.walk.specs.declared.turn.Turn.TheVariants.{Missed, Down, Open}
use Rattle.walk.specs.Answer.{Told}
use Rattle.walk.specs.Walk.{start, boxed, refused, hit_of, over, run, walk}
use Rattle.walk.specs.inner.Turns.{visit, onward}
use Rattle.walk.proofs.OneMesh.{none_pending, none_left, next_step}
use Rattle.sky.specs.Sky.{ray_count, placed, place_of, place_at, sky}
use Rattle.sky.proofs.Room.{place_k}
use Rattle.demands.specs.Materials.{with_materials, plain_found, SameBut, SamePlaceBut}
use Rattle.demands.proofs.NearestHit.{nowhere}

-- ---- what holds of every refusal, and of two walks that are over with one tally, holds of the two walks
module _ (s : Lent) (m m' : List ℕ) (r : Ray) (Q : Told → Told → Type 0) (stop : (k i : ℕ) → Q (refused k i) (refused k i))
    (end : (a : Tally) → Q (over (with_materials s m).mesh r a) (over (with_materials s m').mesh r a)) where
  steps : (left : ℕ) (pending : List ℕ) (a : Tally) → Q (run (with_materials s m) r left pending a) (run (with_materials s m') r left pending a)
  steps zero [] a = rw (none_pending (with_materials s m) r zero a, none_pending (with_materials s m') r zero a) (end a)
  steps zero (i ∷ rest) a = rw (none_left (with_materials s m) r i rest a, none_left (with_materials s m') r i rest a) (stop 12 i)
  steps (suc left) [] a = rw (none_pending (with_materials s m) r (suc left) a, none_pending (with_materials s m') r (suc left) a) (end a)
  steps (suc left) (i ∷ rest) a =
      rw (next_step (with_materials s m) r left rest i a, next_step (with_materials s m') r left rest i a) (go (visit s.mesh.triangles s.tree r i (length rest) (boxed a)) (steps left))
    where
      go : (t : Result Turn Refused) → ((pending : List ℕ) (b : Tally) → Q (run (with_materials s m) r left pending b) (run (with_materials s m') r left pending b))
          → Q (onward t rest (boxed a) (run (with_materials s m) r left)) (onward t rest (boxed a) (run (with_materials s m') r left))
      go (Err e) f = stop (number e.reason) e.at
      go (Ok Missed) f = f rest (boxed a)
      go (Ok (Down b)) f = f rest b
      go (Ok (Open left' right)) f = f (left' ∷ right ∷ rest) (boxed a)

  either : (x : Refusal) (a b : Told) → Q a b → Q (answered x refused a) (answered x refused b)
  unfolding answered
  either none a b h = h
  either (numbered k i) a b h = stop k i

  pub both : length m ≡ length m' → Q (walk (with_materials s m) r) (walk (with_materials s m') r)
  unfolding walk unless
  both e = rw e (either _ _ _ (steps (node_count s.tree.links) (0 ∷ []) start))

-- ---- nothing but the material depends on the list
plain_hit : (t : List Float) (m m' : List ℕ) (r : Ray) (b : Option Met) → plain_found (hit_of (record { triangles = t; materials = m }) r b) ≡ plain_found (hit_of (record { triangles = t; materials = m' }) r b)
unfolding hit_of hit_at
plain_hit t m m' r None = refl
plain_hit t m m' r (Some b) = refl

pub same_but : (s : Lent) (m m' : List ℕ) → length m ≡ length m' → (r : Ray) → SameBut (walk (with_materials s m) r) (walk (with_materials s m') r)
unfolding over
same_but s m m' e r =
    both s m m' r SameBut (λ k i. record { refusal = refl; hit = refl; boxes = refl; triangles = refl })
    (λ a. record { refusal = refl; hit = plain_hit s.mesh.triangles m m' r a.nearest; boxes = refl; triangles = refl }) e

-- ---- a hit's material is the list's entry of its triangle, whatever the lists are
abbrev Entered : Mesh → Told → Type 0
Entered m a = (h : Hit) → a.hit ≡ Some h → h.material ≡ material_of m h.triangle

hit_entry : (m : Mesh) (r : Ray) (b : Option Met) (h : Hit) → hit_of m r b ≡ Some h → h.material ≡ material_of m h.triangle
unfolding hit_of
hit_entry m r None h e = absurd (nowhere e)
hit_entry m r (Some b) h e = go (hit_at r (triangle_at m.triangles b.number) b.number (material_of m b.number) b.t) (unfold hit_at in refl) e
  where
    go : (x : Hit) → x.material ≡ material_of m x.triangle → Some x ≡ Some h → h.material ≡ material_of m h.triangle
    go x i e = let j : x ≡ h = cc in rw (← j) i

pub its_material : (s : Lent) (r : Ray) → Entered s.mesh (walk s r)
unfolding over
its_material s r =
    both s s.mesh.materials s.mesh.materials r (λ a b. Entered s.mesh a) (λ k i h e. absurd (nowhere e)) (λ a h e. hit_entry s.mesh r a.nearest h e) refl

-- ---- the same of each place of a sky
place_but : (x : Refusal) (f g : Option Hit) (b c : ℕ) → plain_found f ≡ plain_found g → SamePlaceBut (placed x f b c) (placed x g b c)
unfolding placed
place_but (numbered k i) f g b c e = record { outcome = refl; which = refl; t = refl; u = refl; v = refl; boxes = refl; triangles = refl }
place_but none None None b c e = record { outcome = refl; which = refl; t = refl; u = refl; v = refl; boxes = refl; triangles = refl }
place_but none (Some h) (Some g) b c e = record {
  outcome = refl;
  which = ap (λ (f : Option Hit). (placed none f b c).which) e;
  t = ap (λ (f : Option Hit). (placed none f b c).t) e;
  u = ap (λ (f : Option Hit). (placed none f b c).u) e;
  v = ap (λ (f : Option Hit). (placed none f b c).v) e;
  boxes = refl;
  triangles = refl;
}
place_but none None (Some g) b c e = absurd (nowhere e)
place_but none (Some h) None b c e = absurd (nowhere (sym e))

places_but : (a a' : Told) → SameBut a a' → SamePlaceBut (place_of a) (place_of a')
unfolding place_of
places_but a a' h = rw (h.refusal, h.boxes, h.triangles) (place_but a'.refusal a.hit a'.hit a'.boxes a'.triangles h.hit)

-- two calls that are served with two lists of materials of one length
pub same_places : (s : Lent) (m m' : List ℕ) → length m ≡ length m' → (rays times : List Float) (told : List ℕ)
    → (sky (with_materials s m) rays times told).refusal ≡ none → (sky (with_materials s m') rays times told).refusal ≡ none → (k : ℕ) → k < ray_count rays
    → SamePlaceBut (place_at (sky (with_materials s m) rays times told).times (sky (with_materials s m) rays times told).told k)
    (place_at (sky (with_materials s m') rays times told).times (sky (with_materials s m') rays times told).told k)
same_places s m m' e rays times told h h' k l =
    rw (place_k (with_materials s m) rays times told h k l, place_k (with_materials s m') rays times told h' k l)
    (places_but (walk (with_materials s m) (ray_at rays k)) (walk (with_materials s m') (ray_at rays k)) (same_but s m m' e (ray_at rays k)))
