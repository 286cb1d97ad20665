-- The line of a ray is that of its answer's case, and the lines grow by one. Assumes nothing.
use mathlib.Core.Path.{◌≡◌, subst}
use mathlib.Core.List.{List, ◌++◌}
use Prim.Native.Nat.{ℕ, ◌+◌, ◌*◌}
use native.Mathlib.Numerals.{add-one}
use lib.Ieee.{binary64, to_bits}
use Rattle.aabb.specs.declared.vector.Ray.{Ray}
use Rattle.lent.specs.declared.refusal.Refused.{Refused as Why}
use Rattle.lent.specs.Refusals.{number}
use Rattle.triangle.specs.declared.Hit.{Hit}
use Rattle.walk.specs.declared.Answer.{Answer}
use Rattle.walk.specs.declared.Answer.TheVariants.{Struck, Missed, Refused}
use Rattle.walk.specs.Answer.{Told, told}
use Rattle.tree.specs.Lent.{Lent}
use Rattle.walk.specs.Walk.{walk}
use Rattle.report.specs.Little.{ray_of}
use Rattle.report.specs.Lines.{hit_line, miss_line, refused_line, walked_line, answer_line, ray_line}
use Rattle.report.specs.Text.{Wrote}
use Rattle.report.specs.Survey.{ray_lines}

pub hit_line_lem : (k : ℕ) (a : Answer) (h : Hit) (b c i x : ℕ) → a ≡ Struck h b c → i ≡ h.triangle → x ≡ to_bits binary64 h.t → hit_line k i x b c ≡ ray_line k (told a)
unfolding ray_line answer_line walked_line told
hit_line_lem k a h b c i x p e q = rw (p, e, q)

pub miss_line_lem : (k : ℕ) (a : Answer) (b c : ℕ) → a ≡ Missed b c → miss_line k b c ≡ ray_line k (told a)
unfolding ray_line answer_line walked_line told
miss_line_lem k a b c p = rw p

pub refused_line_lem : (k : ℕ) (a : Answer) (r : Why) (n : ℕ) → a ≡ Refused r → n ≡ number r.reason → refused_line k n ≡ ray_line k (told a)
unfolding ray_line answer_line told
refused_line_lem k a r n p e = rw (p, e)

pub lines_more : (s : List ℕ) (from : ℕ) (l : Lent) (k : ℕ) (r : Ray) (t : Told) → r ≡ ray_of s (from + 48 * k) → t ≡ walk l r → ray_lines s from l k ++ ray_line k t ≡ ray_lines s from l (k + 1)
unfolding ray_lines
lines_more s from l k r t p q = rw (add-one, q, p)

pub lines_all : (s : List ℕ) (from : ℕ) (l : Lent) (k n : ℕ) (o : List ℕ) (a : ℕ) (o₁ : List ℕ) (a₁ : ℕ) → k ≡ n → Wrote o a (ray_lines s from l k) o₁ a₁ → Wrote o a (ray_lines s from l n) o₁ a₁
lines_all s from l k n o a o₁ a₁ e w = subst (λ (z : ℕ). Wrote o a (ray_lines s from l z) o₁ a₁) e w
