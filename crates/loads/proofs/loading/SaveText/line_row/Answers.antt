use Rattle.faults.specs.Faults.{line_fault}
use Rattle.loads.specs.Load.{line_rows}
use Rattle.loads.proofs.loading.SaveText.line_row.Goals as goal

pub returns : goal.returns
unfolding line_rows line_fault
returns c = rw (c.line_row.ensures, c.byte.ensures, c.due-its.ensures.1, c.due-its.ensures.0, c.line_at-line.ensures)
