use mathlib.Core.Path.{refl}
use Rattle.lists.specs.Private.{added_at}
use Rattle.passes.proofs.sums.add_at.Goals as goal

pub returns : goal.returns
unfolding added_at
returns c = refl
