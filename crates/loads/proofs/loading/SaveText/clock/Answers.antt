use native.Mathlib.Omega.{arith}
use Rattle.frames.proofs.BackLaws.{value_small}
use Rattle.loads.specs.Load.{clock_in}
use Rattle.loads.proofs.loading.SaveText.clock.Goals as goal

pub overflow_cast-result : goal.overflow_cast-result
overflow_cast-result c = omega (arith, c.value.ensures, value_small c.line_at-head.result.now 7 4)

pub returns : goal.returns
unfolding clock_in
returns c = rw (c.value.ensures, c.line_at-head.ensures)
