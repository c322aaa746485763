use native.Mathlib.Omega.{arith}
use lib.ListN.{length-set}
use Rattle.forcings.proofs.put_wind.Goals as goal

pub bounds-room-n-2 : goal.bounds-room-n-2
bounds-room-n-2 c = simp length-set (omega arith)
