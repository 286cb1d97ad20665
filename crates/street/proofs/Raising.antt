-- What `raise` stands on: the proxies as they are lent to the build, and what their room holds after it. Assumes nothing.
use Rattle.std.specs.Prelude.{Result, Ok, Err}
use Rattle.std.specs.Result.{is_err}
use mathlib.Core.Bool.{true, false, true≢false}
use mathlib.Core.Path.{◌≡◌, refl, sym, ap, ◌∙◌}
use Prim.Native.Nat.{ℕ, ◌*◌, ◌-◌}
use native.Mathlib.Nat.{sub-zero}
use mathlib.Core.List.{List, ◌++◌}
use lib.ListN.{length, take, drop, replicate}
use lib.Seq.{take_at}
use lib.Ieee.{Float}
use Rattle.lent.specs.Flat.{records}
use Rattle.float.specs.Number.{nought}
use Rattle.aabb.specs.declared.bounds.Aabb.{Aabb}
use Rattle.builder.specs.declared.Built.{Built}
use Rattle.lent.specs.declared.refusal.Refused.{Refused}
use Rattle.builder.specs.Reply.{reply}
use Rattle.street.specs.Making.{placement_count, proxy_numbers, proxies, room_after, made}
use Rattle.street.proofs.ProxyRoom.{proxies_length}

-- ---- the room after the proxies were written into its front
module _ (matrices : List Float) (root : Aabb) (before now : List Float) (E : now ≡ records (proxy_numbers matrices root) (placement_count matrices) ++ drop (placement_count matrices * 12) before) where
  as_long : length (proxies matrices root) ≡ placement_count matrices * 12
  unfolding proxies
  as_long = proxies_length matrices root (placement_count matrices)

  pub whole : now ≡ proxies matrices root ++ drop (length (proxies matrices root)) before
  unfolding proxies
  whole = E ∙ ap (λ (k : ℕ). proxies matrices root ++ drop k before) (sym as_long)

  pub front : take (placement_count matrices * 12 - 0) now ≡ proxies matrices root
  front =
      ap (λ (k : ℕ). take k now) (sub-zero (placement_count matrices * 12)) ∙ ap (λ (l : List Float). take (placement_count matrices * 12) l) whole
      ∙ take_at (proxies matrices root) (drop (length (proxies matrices root)) before) (placement_count matrices * 12) as_long

-- ---- what the room holds after a build
pub kept : (made before : List Float) (r : Result Built Refused) → is_err r ≡ false → made ++ drop (length made) before ≡ room_after (reply r).refusal made before
unfolding reply room_after
kept made before (Ok b) e = refl
kept made before (Err why) e = absurd (true≢false e)

pub zeros : (made before : List Float) (r : Result Built Refused) → is_err r ≡ true → replicate (length before) nought ≡ room_after (reply r).refusal made before
unfolding reply room_after
zeros made before (Ok b) e = absurd (true≢false (sym e))
zeros made before (Err why) e = refl
