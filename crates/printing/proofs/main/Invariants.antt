use Rattle.std.proofs.Common.{◌-◌}
use Rattle.forcelog.specs.Private.{Savable}
use Rattle.printing.proofs.main.Given as goal

abbrev pub invariant-loop-n : goal.invariant-loop-n
invariant-loop-n l = Savable l.log

-- each forcing that is taken is a step, and a clock has a last
abbrev pub decreases-loop-n : goal.decreases-loop-n
decreases-loop-n l = 4294967295 - l.log.clock.step
