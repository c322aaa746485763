use mathlib.Core.Path.{refl}
use lib.Ieee.{round, of_bits}
use Rattle.rows.specs.Numbers.{decimal}
use Rattle.triangle.specs.Triangle.{mean}
use Rattle.triangle.proofs.mean.Goals as goal

pub returns : goal.returns
unfolding mean decimal round of_bits
returns c = refl
