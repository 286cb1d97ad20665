-- The answer room, place by place: what is written, then what was there, and each place is its own walk's. Assumes nothing.
use mathlib.Core.Path.{◌≡◌, refl, sym, ap, subst, ◌∙◌}
use mathlib.Core.List.{List, ◌++◌}
use Prim.Native.Nat.{ℕ, ◌+◌, ◌*◌, ◌%◌, ◌≤◌, ◌<◌}
use native.Mathlib.Omega.{arith}
use lib.ListN.{length, get_or, drop}
use lib.Seq.{sets}
use borrow.Author.Tests.{ltb-false}
use lib.Ieee.{Float, nan}
use Rattle.lent.specs.Limits.{most_triangles}
use Rattle.lent.specs.Ladder.{none, triangle_count, first_failed, answered as answered_by}
use Rattle.lent.specs.Flat.{put, records}
use Rattle.lent.proofs.Ladder.{ends, goes, serves, judges, judged, agree, agreed, not_below, all_passed, each_passed, apart}
use Rattle.lent.proofs.Flat.{fill_more, records_length, records_at}
use Rattle.aabb.specs.declared.vector.Ray.{Ray}
use Rattle.aabb.specs.Vector.{ray_at}
use Rattle.walk.specs.declared.Answer.{Answer}
use Rattle.tree.specs.Lent.{Mesh, Lent, Labelled}
use Rattle.walk.specs.Answer.{told as answered}
use Rattle.walk.specs.Walk.{walk}
use Rattle.sky.specs.declared.Place.{Place}
use Rattle.sky.specs.Sky.{ray_count, place_of, place_for, told_of, told_for, times_of, times_for, place_at, Filling, filling, filled, sky_checks, sky}

pub place_is : (s : Lent) (rays : List Float) (k : ℕ) (r : Ray) (a : Answer) (p : Place) → r ≡ ray_at rays k → answered a ≡ walk s r → p ≡ place_of (answered a) → p ≡ place_for s rays k
unfolding place_for
place_is s rays k r a p e f g = g ∙ ap place_of f ∙ ap (λ (z : Ray). place_of (walk s z)) e

-- ---- what the checks of the whole call ask
pub record Passed (m : Mesh) (rays times : List Float) (told : List ℕ) : Type 0 where
  pub whole : length m.triangles % 12 ≡ 0
  pub few : triangle_count m.triangles ≤ most_triangles
  pub labelled : Labelled m
  pub sixes : length rays % 6 ≡ 0
  pub timed : ray_count rays * 3 ≤ length times
  pub roomy : ray_count rays * 5 ≤ length told

module _ (m : Mesh) (rays times : List Float) (told : List ℕ) where
  pub none_fails : Passed m rays times told → first_failed (sky_checks m rays times told) ≡ none
  unfolding sky_checks
  none_fails p = sym (judges (goes (agree p.whole) (goes (not_below p.few) (goes (agree p.labelled) (goes (agree p.sixes) (goes (not_below p.timed) (goes (not_below p.roomy) (serves refl))))))))

  pub passed : first_failed (sky_checks m rays times told) ≡ none → Passed m rays times told
  unfolding sky_checks
  passed p =
      let e = each_passed (sky_checks m rays times told) p in
      record {
        whole = agreed e.0;
        few = ltb-false _ _ e.1.0;
        labelled = agreed e.1.1.0;
        sixes = agreed e.1.1.1.0;
        timed = ltb-false _ _ e.1.1.1.1.0;
        roomy = ltb-false _ _ e.1.1.1.1.1.0;
      }

module _ (s : Lent) (rays : List Float) where
  -- ---- one more written
  module _ (k : ℕ) (p : Place) (is : p ≡ place_for s rays k) where
    pub time_more : (times room : List Float) → k * 3 + 3 ≤ length room → times ≡ records (times_for s rays) k ++ drop (k * 3) room → put 3 times k (times_of p) ≡ records (times_for s rays) (k + 1) ++ drop ((k + 1) * 3) room
    unfolding put
    time_more times room h e =
        ap (λ (l : List Float). sets l (k * 3) (times_of p)) e
        ∙ ap (λ (q : Place). sets (records (times_for s rays) k ++ drop (k * 3) room) (k * 3) (times_of q)) is
        ∙ fill_more (times_for s rays) room k (k * 3) ((k + 1) * 3) (records_length (times_for s rays) 3 (λ i. refl) k) (omega arith) (omega arith)

    pub told_more : (told room : List ℕ) → k * 5 + 5 ≤ length room → told ≡ records (told_for s rays) k ++ drop (k * 5) room → put 5 told k (told_of p) ≡ records (told_for s rays) (k + 1) ++ drop ((k + 1) * 5) room
    unfolding put
    told_more told room h e =
        ap (λ (l : List ℕ). sets l (k * 5) (told_of p)) e
        ∙ ap (λ (q : Place). sets (records (told_for s rays) k ++ drop (k * 5) room) (k * 5) (told_of q)) is
        ∙ fill_more (told_for s rays) room k (k * 5) ((k + 1) * 5) (records_length (told_for s rays) 5 (λ i. refl) k) (omega arith) (omega arith)

  place_in : (times : List Float) (told : List ℕ) (n k : ℕ) → k < n
      → place_at (records (times_for s rays) n ++ drop (n * 3) times) (records (told_for s rays) n ++ drop (n * 5) told) k ≡ place_for s rays k
  place_in times told n k h = rw (at (k * 5) 0 (omega arith) (omega arith), at (k * 5 + 1) 1 (omega arith) refl, at (k * 5 + 2) 2 (omega arith) refl, at (k * 5 + 3) 3 (omega arith) refl, at (k * 5 + 4) 4 (omega arith) refl, time (k * 3) 0 (omega arith) (omega arith), time (k * 3 + 1) 1 (omega arith) refl, time (k * 3 + 2) 2 (omega arith) refl)
    where
      at : (p j : ℕ) → j < 5 → p ≡ k * 5 + j → get_or (records (told_for s rays) n ++ drop (n * 5) told) p 0 ≡ get_or (told_for s rays k) j 0
      at p j l e = records_at (told_for s rays) 5 (λ i. refl) n (drop (n * 5) told) k p j 0 h l e

      time : (p j : ℕ) → j < 3 → p ≡ k * 3 + j → get_or (records (times_for s rays) n ++ drop (n * 3) times) p nan ≡ get_or (times_for s rays k) j nan
      time p j l e = records_at (times_for s rays) 3 (λ i. refl) n (drop (n * 3) times) k p j nan h l e

  -- ---- the call
  pub filled_is : (n : ℕ) (times times' : List Float) (told told' : List ℕ) → times' ≡ records (times_for s rays) n ++ drop (n * 3) times → told' ≡ records (told_for s rays) n ++ drop (n * 5) told → filling none times' told' ≡ filled s rays n times told
  unfolding filled
  filled_is n times times' told told' e f = rw (e, f)

  module _ (times : List Float) (told : List ℕ) where
    pub served_is : (x : Filling) → first_failed (sky_checks s.mesh rays times told) ≡ none → x ≡ filled s rays (ray_count rays) times told → x ≡ sky s rays times told
    unfolding sky answered_by
    served_is x p e = ends (judged none (sym p) e)

    pub served : Passed s.mesh rays times told → (sky s rays times told).refusal ≡ none
    unfolding filled
    served p = ap (λ (o : Filling). o.refusal) (sym (served_is (filled s rays (ray_count rays) times told) (none_fails s.mesh rays times told p) refl))

  -- a call that is served passed every check, so every place is filled
  filled_all : (times : List Float) (told : List ℕ) → (sky s rays times told).refusal ≡ none → filled s rays (ray_count rays) times told ≡ sky s rays times told
  unfolding sky
  filled_all times told e = (all_passed _ _ _ (sky s rays times told) refl (λ k a r. apart k a (sym (ap (λ (o : Filling). o.refusal) r ∙ e)))).1

  -- so many filled: place k is that of ray k
  pub place_filled : (times : List Float) (told : List ℕ) (n k : ℕ) → k < n → place_at (filled s rays n times told).times (filled s rays n times told).told k ≡ place_for s rays k
  unfolding filled
  place_filled times told n k h = place_in times told n k h

  -- Place k is what the single walk gives for ray k
  pub place_k : (times : List Float) (told : List ℕ) → (sky s rays times told).refusal ≡ none → (k : ℕ) → k < ray_count rays → place_at (sky s rays times told).times (sky s rays times told).told k ≡ place_of (walk s (ray_at rays k))
  unfolding place_for
  place_k times told e k h = subst (λ (o : Filling). place_at o.times o.told k ≡ place_of (walk s (ray_at rays k))) (filled_all times told e) (place_filled times told (ray_count rays) k h)
