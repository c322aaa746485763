use lib.Ieee.{round, neg, of_bits}
use Rattle.rows.specs.Numbers.{decimal, minus}
use Rattle.outcomes.specs.Outcomes.{of_rise}
use Rattle.outcomes.proofs.of_rise.Goals as goal

pub returns-then-column : goal.returns-then-column
unfolding of_rise decimal minus round neg of_bits
returns-then-column c = rw (← c.in_range.ensures, c.if-in_range.true, c.if-column.true)

pub returns-else-column : goal.returns-else-column
unfolding of_rise decimal minus round neg of_bits
returns-else-column c = rw (← c.in_range.ensures, c.if-in_range.true, c.if-column.false)

pub returns-else-in_range : goal.returns-else-in_range
unfolding of_rise decimal minus round neg of_bits
returns-else-in_range c = rw (← c.in_range.ensures, c.if-in_range.false)
