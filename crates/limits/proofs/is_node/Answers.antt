use lib.Ieee.{of_bits, round}
use Rattle.rows.specs.Numbers.{decimal}
use Rattle.limits.specs.Limits.{is_node}
use Rattle.limits.proofs.is_node.Goals as goal

pub returns : goal.returns
unfolding is_node decimal round of_bits
returns c = rw c.in_range.ensures
