use mathlib.Core.Path.{refl}
use Rattle.triangle.specs.Triangle.{slope}
use Rattle.triangle.proofs.slope.Goals as goal

pub returns : goal.returns
unfolding slope
returns c = refl
