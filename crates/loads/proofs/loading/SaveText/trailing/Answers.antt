use Rattle.loads.specs.Load.{trailing_row}
use Rattle.loads.proofs.loading.SaveText.trailing.Goals as goal

pub returns : goal.returns
unfolding trailing_row
returns c = rw (c.tested.ensures, c.line_count.ensures, c.whole.ensures)
