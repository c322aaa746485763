use Rattle.rows.proofs.RefusalLaws.{stopped, went}
use Rattle.loads.specs.Load.{rows_in}
use Rattle.loads.proofs.loading.SaveText.text_rows.Goals as goal

pub returns-in_err-lines : goal.returns-in_err-lines
unfolding rows_in
returns-in_err-lines c = stopped _ _ _ c.from_residual.ensures.1 c.in_err-lines.ensures

pub returns-in_err-trailing : goal.returns-in_err-trailing
unfolding rows_in
returns-in_err-trailing c = went c.in_ok-lines.ensures (stopped _ _ _ c.from_residual-in_err-trailing.ensures.1 c.in_err-trailing.ensures)

pub returns : goal.returns
unfolding rows_in
returns c = went c.in_ok-lines.ensures (went c.in_ok-trailing.ensures c.bounds.ensures)
