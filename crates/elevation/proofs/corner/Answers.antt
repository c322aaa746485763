use mathlib.Core.Path.{refl}
use lib.Ieee.{round, of_bits}
use Rattle.rows.specs.Numbers.{decimal}
use Rattle.elevation.specs.Elevation.{corner}
use Rattle.elevation.proofs.corner.Goals as goal

pub returns : goal.returns
unfolding corner decimal round of_bits
returns c = refl
