use mathlib.Core.Path.{refl}
use Rattle.rows.specs.Numbers.{within}
use Rattle.rows.proofs.in_range.Goals as goal

pub returns : goal.returns
unfolding within
returns c = refl
