use mathlib.Core.Path.{refl}
use Rattle.capi.proofs.parameters.Goals as goal

pub returns : goal.returns
returns c = refl
