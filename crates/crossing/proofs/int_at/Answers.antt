use mathlib.Core.Path.{ap, ◌∙◌}
use Rattle.crossing.specs.Crossing.{signed}
use Rattle.crossing.proofs.CrossLaws.{signed_kept}
use Rattle.crossing.proofs.int_at.Goals as goal

pub returns : goal.returns
returns c = let n = c.number_at.ensures in signed_kept n.1 c.signed_of.ensures ∙ ap signed n.0
