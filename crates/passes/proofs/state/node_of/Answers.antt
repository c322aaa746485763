use Prim.Native.Nat.{ℕ}
use mathlib.Core.Path.{refl}
use lib.Dec.{T, ltb}
use lib.ListN.{length}
use Rattle.bounds.specs.State.{state_runs}
use Rattle.passes.proofs.PassLaws.{Place, place}
use Rattle.passes.proofs.state.node_of.Goals as goal
use Rattle.passes.proofs.state.node_of.Goals.{Start}

-- place i of run k of the state. With no file the check finds all of this by searches, which take longer
at : (s : Start) (k : ℕ) → T (ltb k state_runs) → Place k s.args.n s.args.i (length s.args.state.now)
at s k h = place k state_runs h s.requires.0 s.requires.2 refl s.well_formed.1.1.0.1

pub overflow_mul-result : goal.overflow_mul-result
overflow_mul-result c = (at (goal.at.overflow_mul-result c).Start 0 tt).run

pub overflow_add-result : goal.overflow_add-result
overflow_add-result c = (at (goal.at.overflow_add-result c).Start 0 tt).at

pub offset_bounds-state-n : goal.offset_bounds-state-n
offset_bounds-state-n c = (at (goal.at.offset_bounds-state-n c).Start 0 tt).bytes

pub bounds-state-n : goal.bounds-state-n
bounds-state-n c = (at (goal.at.bounds-state-n c).Start 0 tt).within

pub overflow_mul-result-2 : goal.overflow_mul-result-2
overflow_mul-result-2 c = (at (goal.at.overflow_mul-result-2 c).Start 1 tt).run

pub overflow_add-result-2 : goal.overflow_add-result-2
overflow_add-result-2 c = (at (goal.at.overflow_add-result-2 c).Start 1 tt).at

pub offset_bounds-state-n-2 : goal.offset_bounds-state-n-2
offset_bounds-state-n-2 c = (at (goal.at.offset_bounds-state-n-2 c).Start 1 tt).bytes

pub bounds-state-n-2 : goal.bounds-state-n-2
bounds-state-n-2 c = (at (goal.at.bounds-state-n-2 c).Start 1 tt).within

pub overflow_mul-result-3 : goal.overflow_mul-result-3
overflow_mul-result-3 c = (at (goal.at.overflow_mul-result-3 c).Start 2 tt).run

pub overflow_add-result-3 : goal.overflow_add-result-3
overflow_add-result-3 c = (at (goal.at.overflow_add-result-3 c).Start 2 tt).at

pub offset_bounds-state-n-3 : goal.offset_bounds-state-n-3
offset_bounds-state-n-3 c = (at (goal.at.offset_bounds-state-n-3 c).Start 2 tt).bytes

pub bounds-state-n-3 : goal.bounds-state-n-3
bounds-state-n-3 c = (at (goal.at.bounds-state-n-3 c).Start 2 tt).within

pub overflow_mul-result-4 : goal.overflow_mul-result-4
overflow_mul-result-4 c = (at (goal.at.overflow_mul-result-4 c).Start 3 tt).run

pub overflow_add-result-4 : goal.overflow_add-result-4
overflow_add-result-4 c = (at (goal.at.overflow_add-result-4 c).Start 3 tt).at

pub offset_bounds-state-n-4 : goal.offset_bounds-state-n-4
offset_bounds-state-n-4 c = (at (goal.at.offset_bounds-state-n-4 c).Start 3 tt).bytes

pub bounds-state-n-4 : goal.bounds-state-n-4
bounds-state-n-4 c = (at (goal.at.bounds-state-n-4 c).Start 3 tt).within

pub overflow_mul-result-5 : goal.overflow_mul-result-5
overflow_mul-result-5 c = (at (goal.at.overflow_mul-result-5 c).Start 4 tt).run

pub overflow_add-result-5 : goal.overflow_add-result-5
overflow_add-result-5 c = (at (goal.at.overflow_add-result-5 c).Start 4 tt).at

pub offset_bounds-state-n-5 : goal.offset_bounds-state-n-5
offset_bounds-state-n-5 c = (at (goal.at.offset_bounds-state-n-5 c).Start 4 tt).bytes

pub bounds-state-n-5 : goal.bounds-state-n-5
bounds-state-n-5 c = (at (goal.at.bounds-state-n-5 c).Start 4 tt).within

pub overflow_mul-result-6 : goal.overflow_mul-result-6
overflow_mul-result-6 c = (at (goal.at.overflow_mul-result-6 c).Start 5 tt).run

pub overflow_add-result-6 : goal.overflow_add-result-6
overflow_add-result-6 c = (at (goal.at.overflow_add-result-6 c).Start 5 tt).at

pub offset_bounds-state-n-6 : goal.offset_bounds-state-n-6
offset_bounds-state-n-6 c = (at (goal.at.offset_bounds-state-n-6 c).Start 5 tt).bytes

pub bounds-state-n-6 : goal.bounds-state-n-6
bounds-state-n-6 c = (at (goal.at.bounds-state-n-6 c).Start 5 tt).within

pub returns : goal.returns
returns c = refl
