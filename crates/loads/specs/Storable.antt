-- A run whose numbers the fields of a save can hold. Every u32 and every f64 of a program is such a number: a definition's floats could also be others.
use Rattle.std.specs.Prelude.{ℕ, ◌*◌, ◌^◌, ◌<◌, ◌≡◌, List, T, length, get_or, Float}
use Rattle.std.specs.Float.{nan, binary64}
use Rattle.std.specs.Float.Ieee.{fits}
use Rattle.quantities.specs.declared.Parameters.{Parameters}
use Rattle.bounds.specs.State.{state_runs}
use Rattle.surge.specs.declared.Clock.{Clock}

-- a step of 4 bytes
pub record StorableClock (k : Clock) : Type 0 where
  pub step : k.step < 256 ^ 4

-- the runs of a state, of n binary64 values each
pub record StorableState (n : ℕ) (state : List Float) : Type 0 where
  pub long : length state ≡ state_runs * n
  pub values : (j : ℕ) → j < length state → T (fits binary64 (get_or state j nan))

-- parameters of four binary64 values
pub record StorableParameters (p : Parameters) : Type 0 where
  pub dt : T (fits binary64 p.dt)
  pub tau : T (fits binary64 p.tau)
  pub k : T (fits binary64 p.k)
  pub f : T (fits binary64 p.f)
