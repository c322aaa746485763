use lib.Ieee.{of_bits, neg, round}
use Rattle.rows.specs.Numbers.{decimal, minus}
use Rattle.limits.specs.Limits.{is_calm}
use Rattle.limits.proofs.is_calm.Goals as goal

pub returns : goal.returns
unfolding is_calm decimal minus round of_bits neg
returns c = rw (c.in_range-2.ensures, c.in_range.ensures)
