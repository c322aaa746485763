use mathlib.Core.Path.{sym, ◌∙◌}
use borrow.Author.Tests.{le-leb, lt-leb}
use Rattle.crossing.proofs.CrossLaws.{number_none}
use Rattle.crossing.proofs.number_at.Goals.{else-w-le8-via-then-w-le8+else-is_within, else-w-le8-via-else-w-le8}
use Rattle.crossing.proofs.number_at.Goals as goal

pub returns-else-w-le8 : goal.returns-else-w-le8
returns-else-w-le8 c =
    elim c.else-w-le8.branch [
      | else-w-le8-via-then-w-le8+else-is_within w ↦ number_none _ _ _ (rw (le-leb c.args.w 8 w.if-w-le8.true) (sym w.is_within.ensures ∙ w.if-is_within.false))
      | else-w-le8-via-else-w-le8 w ↦ number_none _ _ _ (rw (lt-leb _ 8 w.if-w-le8.false))
    ]
