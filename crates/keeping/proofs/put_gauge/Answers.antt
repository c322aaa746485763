use lib.Ieee.{of_bits}
use Rattle.keeping.specs.Record.{added}
use Rattle.keeping.proofs.put_gauge.Goals as goal

pub returns : goal.returns
unfolding added of_bits
returns c =
    rw (c.put_number.ensures, c.put_mark.ensures, c.put_point.ensures, c.count-g.ensures.0)
