use Rattle.rows.proofs.RefusalLaws.{stopped, went}
use Rattle.outcomes.specs.Outcomes.{flow_row}
use Rattle.outcomes.proofs.flow_row.Goals as goal

pub returns-in_err-answer : goal.returns-in_err-answer
unfolding flow_row
returns-in_err-answer c = rw (← c.of_east.ensures) (stopped _ _ _ c.from_residual.ensures.1 c.in_err-answer.ensures)

pub returns : goal.returns
unfolding flow_row
returns c = rw (← c.of_east.ensures, ← c.of_north.ensures) (went c.in_ok-answer.ensures c.answer-2.ensures)
