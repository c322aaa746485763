use Rattle.looking.specs.Lent.{row1_bytes}
use Rattle.looking.proofs.whole_row.Goals as goal

pub returns : goal.returns
unfolding row1_bytes
returns c = c.tested.ensures
