use mathlib.Core.Path.{sym}
use Rattle.rows.proofs.ScanLaws.{then_stop, then_next}
use Rattle.rows.proofs.answers.first.Goals as goal

pub returns-then-a-eq0 : goal.returns-then-a-eq0
returns-then-a-eq0 c = sym (then_next _ _ c.if-a-eq0.true)

pub returns-else-a-eq0 : goal.returns-else-a-eq0
returns-else-a-eq0 c = sym (then_stop _ _ c.if-a-eq0.false)
