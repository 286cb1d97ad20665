-- The survey walks a built tree, handed over as demand 3 has it: its mesh has the n triangles of the input, so that its lists are `handed`. Assumes nothing.
use mathlib.Core.Path.{◌≡◌, refl, sym, ap, ◌∙◌}
use mathlib.Core.List.{List, [], ◌∷◌, ◌++◌}
use Prim.Native.Nat.{ℕ, zero, suc, ◌+◌, ◌*◌, ◌/◌}
use native.Mathlib.Omega.{arith}
use lib.ListN.{length, replicate, length-append, length-replicate}
use lib.Ieee.{Float}
use Rattle.float.specs.Number.{nought}
use Rattle.lent.specs.Ladder.{Refusal, none, triangle_count}
use Rattle.builder.specs.Build.{Outcome}
use Rattle.builder.proofs.Successes.{served_reply_lem}
use Rattle.report.specs.Little.{number, numbers}
use Rattle.report.specs.Input.{triangles_at, rays_at, good, measured}
use Rattle.report.specs.Lines.{built_line}
use Rattle.report.specs.Survey.{ray_lines, handed as survey_handed, built_of, report_of, reported, surveyed_as, surveyed}
use Rattle.demands.specs.Handed.{handed_as, handed}
use Rattle.demands.specs.Demand.{Signed}
use Rattle.demands.specs.Survey.{SignedSurvey}
use Rattle.demands.proofs.Demand.{built_walk}

numbers_length : (bytes : List ℕ) (at k : ℕ) → length (numbers bytes at k) ≡ k
unfolding numbers
numbers_length bytes at zero = refl
numbers_length bytes at (suc k) = length-append (numbers bytes at k) (number bytes (at + 8 * k) ∷ []) ∙ omega (arith, numbers_length bytes at k)

module _ (bytes : List ℕ) (n m : ℕ) (is_good : measured bytes ≡ good n m) where
  abbrev mesh : List Float
  mesh = numbers bytes triangles_at (n * 12)

  counted : triangle_count mesh ≡ n
  counted = ap (λ (k : ℕ). k / 12) (numbers_length bytes triangles_at (n * 12)) ∙ omega arith

  handed_same : (o : Outcome) → o.answer.refusal ≡ none → survey_handed mesh n o.answer.nodes o ≡ handed mesh (replicate n 0) o
  unfolding survey_handed handed handed_as
  handed_same o e = rw (e, counted)

  report_is : surveyed bytes ≡ report_of bytes mesh n m (built_of mesh) (built_of mesh).answer.refusal
  unfolding surveyed surveyed_as reported
  report_is = rw is_good

  lines : (o : Outcome) (w : Refusal) → w ≡ none → report_of bytes mesh n m o w ≡ built_line o.answer.nodes o.answer.leaves ++ ray_lines bytes (rays_at n) (survey_handed mesh n o.answer.nodes o) m
  unfolding report_of
  lines o w e = rw e

  signs : (built_of mesh).answer.refusal ≡ none → Signed (handed mesh (replicate n 0) (built_of mesh)) (built_of mesh).answer.nodes (built_of mesh).answer.leaves
  unfolding built_of
  signs e = built_walk mesh (replicate n 0) (replicate 200 0) (replicate 2394 nought) (replicate 1197 0) (built_of mesh).answer.nodes (built_of mesh).answer.leaves (served_reply_lem (built_of mesh).answer e) (let l : length {A = ℕ} (replicate n 0) ≡ n = length-replicate n 0 in l ∙ sym counted)

  -- Demand 3 reads for each line of the survey whose build is served
  pub survey_walk : (built_of mesh).answer.refusal ≡ none → SignedSurvey bytes n m mesh (built_of mesh)
  survey_walk e =
      let o = built_of mesh in
      record {
        text = report_is ∙ lines o o.answer.refusal e ∙ ap (λ l. built_line o.answer.nodes o.answer.leaves ++ ray_lines bytes (rays_at n) l m) (handed_same o e);
        signed = signs e;
      }
