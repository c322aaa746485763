use lib.Ieee.{round, of_bits}
use Rattle.rows.specs.Numbers.{decimal}
use Rattle.elevation.specs.Elevation.{Jx}
use Rattle.elevation.proofs.jx.Goals as goal

pub returns : goal.returns
unfolding Jx decimal round of_bits
returns c = rw c.carried-carried.ensures
