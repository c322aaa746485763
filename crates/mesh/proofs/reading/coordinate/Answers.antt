use mathlib.Core.Path.{sym}
use lib.IntN.{pos}
use lib.ListN.{get_or-eq_default}
use Rattle.mesh.proofs.reading.coordinate.Goals as goal

pub returns-else-i-of : goal.returns-else-i-of
returns-else-i-of c = sym (get_or-eq_default c.args.of.now (pos 0) c.if-i-of.false)
