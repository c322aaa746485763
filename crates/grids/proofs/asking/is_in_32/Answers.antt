use Rattle.std.proofs.Common.{true, false}
use Rattle.grids.proofs.RowLaws.{in_32_by}
use Rattle.grids.proofs.asking.is_in_32.Goals as goal

pub returns-then-w : goal.returns-then-w
returns-then-w c = in_32_by true _ c.if-w.true

pub returns-else-w : goal.returns-else-w
returns-else-w c = in_32_by false _ c.if-w.false
