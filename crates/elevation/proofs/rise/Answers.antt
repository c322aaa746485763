use mathlib.Core.Path.{refl}
use lib.Ieee.{round, of_bits}
use Rattle.rows.specs.Numbers.{decimal}
use Rattle.elevation.specs.Elevation.{z'}
use Rattle.elevation.proofs.rise.Goals as goal

pub returns : goal.returns
unfolding z' decimal round of_bits
returns c = refl
