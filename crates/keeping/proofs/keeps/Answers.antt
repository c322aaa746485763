use mathlib.Core.Path.{refl}
use Rattle.keeping.specs.Record.{keeps}
use Rattle.keeping.proofs.keeps.Goals as goal

pub returns : goal.returns
unfolding keeps
returns c = refl
