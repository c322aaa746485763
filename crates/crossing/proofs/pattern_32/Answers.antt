use native.Mathlib.Omega.{arith}
use mir.Facts.{to_z-of_z, sfits_widen}
use Rattle.crossing.proofs.CrossLaws.{raised_small, raised_rest, raised_sum, raised_kept}
use Rattle.crossing.proofs.pattern_32.Goals as goal

pub overflow_cast-result : goal.overflow_cast-result
overflow_cast-result c = rw (to_z-of_z c.ranges.v) (sfits_widen tt c.ranges.v)

pub overflow_add-result : goal.overflow_add-result
overflow_add-result c = rw (raised_sum _ c.ranges.v) (record { sfits = raised_small _ c.ranges.v })

pub overflow_cast-result-2 : goal.overflow_cast-result-2
overflow_cast-result-2 c = rw (raised_kept _ c.ranges.v) (tt, omega (arith, raised_small _ c.ranges.v))

pub returns : goal.returns
returns c = rw (raised_kept _ c.ranges.v) (raised_rest _ c.ranges.v)
