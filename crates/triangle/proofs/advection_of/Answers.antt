use mathlib.Core.Path.{refl}
use Rattle.triangle.specs.Triangle.{advection}
use Rattle.triangle.proofs.advection_of.Goals as goal

pub returns : goal.returns
unfolding advection
returns c = refl
