use Prim.Native.Nat.{◌+◌, ◌*◌, ◌<◌}
use mathlib.Core.Path.{◌≡◌, sym, ap, ◌∙◌}
use mathlib.Core.List.{List}
use native.Mathlib.Nat.{zero-mul, one-mul}
use native.Mathlib.Omega.{arith}
use lib.ListN.{length, get_or, set}
use lib.Ieee.{Float, nan}
use Rattle.lists.specs.Runs.{in_run}
use Rattle.lists.specs.Private.{up_to, with_run}
use Rattle.lists.proofs.TableLaws.{up_none, up_more, up_ahead}
use Rattle.bounds.specs.State.{state_runs}
use Rattle.passes.proofs.PassLaws.{Place, place}
use Rattle.passes.proofs.turns.age.Goals as goal
use Rattle.passes.proofs.turns.age.Goals.{In-loop-i}

-- where z of the node stands
at : (t : In-loop-i) → Place 1 t.args.n t.loop-i.i (length t.loop-i.next)
at t = place 1 state_runs tt t.loop-i-test.true (t.loop-i.auto.next ∙ t.requires) t.loop-i.auto.next t.well_formed.0.1

pub loop-i-preserved : goal.loop-i-preserved
loop-i-preserved c =
    let a = c.args in
    let n = a.n in
    let i = c.loop-i.i in
    let z = in_run n 1 a.next.now in
    let here : i < length a.next.now = omega (arith, c.requires) in
    let read = ap (λ (r : List Float). get_or r (1 * n + i) nan) c.loop-i.invariant.1 ∙ up_ahead i z a.next.now (1 * n + i) nan (omega arith) (omega (arith, here)) in
    (omega arith, (λ j. set (c.loop-i.invariant.1 j) i (read j)) ∙ up_more i z a.next.now here)

pub returns : goal.returns
unfolding up_to with_run
returns c =
    let n = c.args.n in
    let done : c.loop-i.i ≡ n = omega arith in
    c.loop-i.invariant.1 ∙ rw (done, zero-mul n, one-mul n)

pub loop-i-init : goal.loop-i-init
loop-i-init c = (omega arith, sym (up_none _ _))

pub overflow_mul-next : goal.overflow_mul-next
overflow_mul-next c = (at (goal.at.overflow_mul-next c).In-loop-i).run

pub overflow_add-next : goal.overflow_add-next
overflow_add-next c = (at (goal.at.overflow_add-next c).In-loop-i).at

pub offset_bounds-next-n : goal.offset_bounds-next-n
offset_bounds-next-n c = (at (goal.at.offset_bounds-next-n c).In-loop-i).bytes

pub bounds-next-n : goal.bounds-next-n
bounds-next-n c = (at (goal.at.bounds-next-n c).In-loop-i).within
