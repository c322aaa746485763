use Rattle.keeping.specs.Record.{with_mark}
use Rattle.keeping.proofs.put_mark.Goals as goal

pub returns : goal.returns
unfolding with_mark
returns c = rw (c.put-3.ensures, c.put-2.ensures, c.pattern_of.ensures, c.put.ensures)
