use Rattle.grids.proofs.SignLaws.{negated_fits, made_minus, made_plus}
use Rattle.grids.proofs.filling.signed_of.Goals as goal

pub overflow_sub-result : goal.overflow_sub-result
overflow_sub-result c = negated_fits _ c.requires

pub returns-then-minus : goal.returns-then-minus
returns-then-minus c = made_minus _ c.requires c.if-minus.true

pub returns-else-minus : goal.returns-else-minus
returns-else-minus c = made_plus _ c.requires c.if-minus.false
