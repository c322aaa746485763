use native.Mathlib.Omega.{arith}
use Rattle.forcelog.proofs.GroupLaws.{due_fits}
use Rattle.printing.proofs.read_whole.Goals as goal

pub read_to-requires-2 : goal.read_to-requires-2
read_to-requires-2 g c = let f = due_fits _ c.due-to.ensures in (f.0, omega (arith, f.1))
