use lib.Ieee.{round, of_bits}
use Rattle.rows.specs.Numbers.{decimal}
use Rattle.velocity.specs.Velocity.{flow, U', V', n, Rx, Ry, wx, wy, gx, gy, q, m, p, r, H', H}
use Rattle.velocity.proofs.flow.Goals as goal

pub returns : goal.returns
unfolding flow U' V' n Rx Ry wx wy gx gy q m p r H' H decimal round of_bits
returns c = rw (c.carried-2.ensures, c.carried.ensures)
