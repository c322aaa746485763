use Rattle.std.proofs.Common.{eq-eqb, ne_eqb}
use Rattle.grids.proofs.fields.past.Goals as goal

pub returns-then-byte-mark : goal.returns-then-byte-mark
returns-then-byte-mark c = rw (eq-eqb _ _ c.if-byte-mark.true)

pub returns-else-byte-mark : goal.returns-else-byte-mark
returns-else-byte-mark c = rw (ne_eqb _ _ c.if-byte-mark.false)
