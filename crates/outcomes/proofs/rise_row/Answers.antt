use Rattle.outcomes.specs.Outcomes.{rise_row}
use Rattle.outcomes.proofs.rise_row.Goals as goal

pub returns : goal.returns
unfolding rise_row
returns c = rw (c.answer.ensures, c.of_rise.ensures)
