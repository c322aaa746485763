use mathlib.Core.Path.{refl}
use lib.Ieee.{of_bits}
use Rattle.rows.proofs.answers.refuse.Goals as goal

-- the literal 0.0 is +0
pub returns : goal.returns
unfolding of_bits
returns c = refl
