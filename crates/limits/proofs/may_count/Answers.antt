use Rattle.limits.specs.Limits.{row11}
use Rattle.limits.proofs.may_count.Goals as goal

pub returns : goal.returns
unfolding row11
returns c = c.tested.ensures
