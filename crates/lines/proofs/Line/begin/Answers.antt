use Rattle.lines.specs.Building.{holding, with_fields}
use Rattle.lines.proofs.Line.begin.Goals as goal

pub returns : goal.returns
unfolding holding with_fields
returns c = rw (c.append-2.ensures, c.append.ensures)
