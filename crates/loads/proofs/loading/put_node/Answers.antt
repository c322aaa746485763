use native.Mathlib.Omega.{arith}
use lib.ListN.{length-set}
use Rattle.loads.proofs.loading.put_node.Goals as goal

pub bounds-state-n-2 : goal.bounds-state-n-2
bounds-state-n-2 c = simp length-set (omega arith)

pub bounds-state-n-3 : goal.bounds-state-n-3
bounds-state-n-3 c = simp length-set (omega arith)

pub bounds-state-n-4 : goal.bounds-state-n-4
bounds-state-n-4 c = simp length-set (omega arith)

pub bounds-state-n-5 : goal.bounds-state-n-5
bounds-state-n-5 c = simp length-set (omega arith)

pub bounds-state-n-6 : goal.bounds-state-n-6
bounds-state-n-6 c = simp length-set (omega arith)
