use lib.Ieee.{round, neg, of_bits}
use Rattle.rows.specs.Numbers.{decimal, minus}
use Rattle.outcomes.specs.Outcomes.{speed}
use Rattle.outcomes.proofs.speed.Goals as goal

pub returns-then-in_range : goal.returns-then-in_range
unfolding speed decimal minus round neg of_bits
returns-then-in_range c = rw (← c.in_range.ensures, c.if-in_range.true)

pub returns-else-in_range : goal.returns-else-in_range
unfolding speed decimal minus round neg of_bits
returns-else-in_range c = rw (← c.in_range.ensures, c.if-in_range.false)
