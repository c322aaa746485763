use mathlib.Core.Path.{sym, ◌∙◌}
use Rattle.rows.proofs.ScanLaws.{row_holds, row_fails}
use Rattle.rows.proofs.answers.tested.Goals as goal

pub returns-then-holds : goal.returns-then-holds
returns-then-holds c = c.accept.ensures ∙ sym (row_holds _ _ c.if-holds.true)

pub returns-else-holds : goal.returns-else-holds
returns-else-holds c = c.refuse.ensures ∙ sym (row_fails _ _ c.if-holds.false)
