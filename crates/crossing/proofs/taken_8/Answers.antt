use native.Mathlib.Omega.{arith}
use Rattle.crossing.proofs.CrossLaws.{number_in_two}
use Rattle.crossing.proofs.taken_8.Goals as goal

pub returns : goal.returns
returns c = rw (c.taken.ensures.0, c.taken-2.ensures.0) (number_in_two _ _ 4 4 (omega arith) (omega arith))
