use lib.Ieee.{round, of_bits}
use Rattle.rows.specs.Numbers.{decimal}
use Rattle.elevation.specs.Elevation.{Jy}
use Rattle.elevation.proofs.jy.Goals as goal

pub returns : goal.returns
unfolding Jy decimal round of_bits
returns c = rw c.carried-carried.ensures
