use lib.Ieee.{of_bits, neg, round}
use Rattle.rows.specs.Numbers.{decimal, minus}
use Rattle.limits.specs.Limits.{row12_level}
use Rattle.limits.proofs.elevation.Goals as goal

pub returns : goal.returns
unfolding row12_level decimal minus round of_bits neg
returns c = c.limit.ensures
