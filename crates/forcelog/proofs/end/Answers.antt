use lib.Ieee.{round, of_bits}
use Rattle.rows.specs.Numbers.{decimal}
use Rattle.forcelog.specs.MeshT.{T, T_parameters}
use Rattle.forcelog.specs.Log.{end_of}
use Rattle.forcelog.proofs.end.Goals as goal

pub returns : goal.returns
unfolding end_of T T_parameters decimal round of_bits
returns c = c.save.ensures
