-- What the inner functions promise each other of the bins of an axis: nothing that is public speaks of these. Definitions only.
use Rattle.std.specs.Prelude.{ℕ, ◌≤◌, ◌<◌, ◌≡◌, List, length, get_or}
use Rattle.aabb.specs.Bounds.{Clear}
use Rattle.builder.specs.declared.bins.Bin.{Bin}
use Rattle.builder.specs.Bins.{blank}

-- sixteen bins that count at most n each and have no NaN in a box
pub record Held (n : ℕ) (bins : List Bin) : Type 0 where
  pub long : length bins ≡ 16
  pub clear : (k : ℕ) → k < 16 → Clear (get_or bins k blank).bounds
  pub most : (k : ℕ) → k < 16 → (get_or bins k blank).count ≤ n
