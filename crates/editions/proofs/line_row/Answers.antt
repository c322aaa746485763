use Rattle.rows.proofs.RefusalLaws.{stopped, went}
use Rattle.editions.proofs.line_row.Goals as goal

pub returns-in_err-fault : goal.returns-in_err-fault
returns-in_err-fault c = stopped _ _ _ c.from_residual.ensures.1 c.in_err-fault.ensures

pub returns-in_err-counts : goal.returns-in_err-counts
returns-in_err-counts c = went c.in_ok-fault.ensures (stopped _ _ _ c.from_residual-in_err-counts.ensures.1 c.in_err-counts.ensures)

pub returns : goal.returns
returns c = went c.in_ok-fault.ensures (went c.in_ok-counts.ensures c.settings.ensures)
