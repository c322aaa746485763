use lib.Ieee.{of_bits, neg, round}
use Rattle.rows.specs.Numbers.{decimal, minus}
use Rattle.limits.specs.Limits.{in_bounds}
use Rattle.limits.proofs.in_bounds.Goals as goal

pub returns : goal.returns
unfolding in_bounds decimal minus round of_bits neg
returns c =
    rw (
      c.is_calm.ensures,
      c.in_range-4.ensures,
      c.in_range-3.ensures,
      c.in_range-2.ensures,
      c.in_range.ensures,
    )
