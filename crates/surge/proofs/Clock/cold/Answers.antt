use mathlib.Core.Path.{refl}
use Rattle.surge.proofs.Clock.cold.Goals as goal

pub returns : goal.returns
returns c = refl
