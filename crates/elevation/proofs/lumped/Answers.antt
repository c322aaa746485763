use mathlib.Core.Path.{refl}
use lib.Ieee.{round, of_bits}
use Rattle.rows.specs.Numbers.{decimal}
use Rattle.elevation.specs.Elevation.{L}
use Rattle.elevation.proofs.lumped.Goals as goal

pub returns : goal.returns
unfolding L decimal round of_bits
returns c = refl
