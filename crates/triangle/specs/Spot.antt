-- Where on a triangle a hit can be (request A7). Definitions only.
use Rattle.std.specs.Prelude.{T}
use Rattle.std.specs.Float.{binary64}
use Rattle.std.specs.Float.Ieee.{add, le}
use Rattle.float.specs.Number.{nought, one}
use Rattle.triangle.specs.declared.Hit.{Hit}

-- Rule T8: u and v as rounded, with their sum as rounded
pub record Inside (h : Hit) : Type 0 where
  pub u_low : T (le nought h.u)
  pub u_high : T (le h.u one)
  pub v_low : T (le nought h.v)
  pub sum_high : T (le (add binary64 h.u h.v) one)
