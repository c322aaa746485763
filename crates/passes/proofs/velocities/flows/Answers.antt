use Prim.Native.Nat.{ℕ, ◌*◌}
use native.Mathlib.Omega.{arith}
use mathlib.Core.Path.{◌≡◌, refl, ap, ◌∙◌}
use native.Mathlib.Nat.{le_antisymm}
use lib.Dec.{T, ltb, eqb}
use lib.ListN.{length, length-set}
use Rattle.rows.specs.declared.Answer.{Answer}
use Rattle.rows.specs.Scan.{scan}
use Rattle.rows.proofs.RefusalLaws.{answered_ok}
use Rattle.rows.proofs.ScanLaws.{all_none, all_more, all_accept}
use Rattle.lists.proofs.TableLaws.{length_table}
use Rattle.lists.proofs.RunLaws.{runs_length}
use Rattle.passes.specs.Equations.{Given, count, flow_at}
use Rattle.outcomes.specs.Outcomes.{flow_row}
use Rattle.passes.specs.Settle.{work_runs}
use Rattle.passes.specs.Private.{given_of, Fits, flow_room}
use Rattle.passes.proofs.PassLaws.{Place, place, flows_to, its_flow, flow_more, flow_none, flow_all}
use Rattle.passes.proofs.velocities.flows.Goals as goal
use Rattle.passes.proofs.velocities.flows.Goals.{After-loop-i, At-loop-i, In-loop-i, Start}

-- row 13 of U' and V' at a node
abbrev row_at : Given → ℕ → Answer
row_at g i = flow_row (flow_at g i) i

abbrev its : Start → Given
its s = given_of s.args.g.now

abbrev here : At-loop-i → Given
here l = given_of l.args.g.now

fits : (l : At-loop-i) → Fits (here l)
fits l = l.requires.fits

-- the room's length, so that each place of its runs is within it
long : (l : At-loop-i) → length l.loop-i.work ≡ work_runs * length l.args.g.now.mesh.x.now
long l = ap length l.loop-i.invariant.1.0 ∙ runs_length _ _

abbrev last : After-loop-i → Given
last c = given_of c.args.g.now

-- after the last turn every U' and V' stands in the room
done : (c : After-loop-i) → c.loop-i.i ≡ count (last c)
done c = le_antisymm c.loop-i.invariant.0 c.loop-i-test.false

all : (c : After-loop-i) → c.loop-i.work ≡ flow_room (last c)
all c = let g = last c in c.loop-i.invariant.1.0 ∙ ap (flows_to g) (done c) ∙ flow_all g

-- place i of run k
at : (t : In-loop-i) (k : ℕ) → T (ltb k work_runs) → Place k (length t.args.g.now.mesh.x.now) t.loop-i.i (length t.loop-i.work)
at t k h =
    let long : length t.loop-i.work ≡ work_runs * length t.args.g.now.mesh.x.now = ap length t.loop-i.invariant.1.0 ∙ runs_length _ _ in
    place k work_runs h t.loop-i-test.true long t.loop-i.auto.work t.well_formed.0.1

pub loop-i-preserved : goal.loop-i-preserved
loop-i-preserved c =
    let w = goal.at.loop-i-preserved c in
    let g = here w.At-loop-i in
    let i = c.loop-i.i in
    let h = c.loop-i-test.true in
    let r = its_flow g (fits w.At-loop-i) i h c.requires.work_value.1 c.loop-i.invariant.1.0 c.flow_at-v.ensures in
    let asked = c.flow_row.ensures ∙ (λ j. flow_row (r j) i) in
    let holds = c.is_ok-all.ensures.value ∙ answered_ok _ ∙ ap (λ (a : Answer). eqb a.number 0) asked in
    (omega arith, (flow_more g (fits w.At-loop-i) i h c.loop-i.invariant.1.0 r, all_more (row_at g) i c.loop-i.invariant.1.1 holds))

pub returns-then-all : goal.returns-then-all
returns-then-all c =
    let w = goal.at.returns-then-all c in
    (all_accept (row_at (here w.At-loop-i)) _ c.loop-i.invariant.1.1 c.if-all.true ∙ ap (scan _) (done w.After-loop-i), all w.After-loop-i)

pub returns : goal.returns
returns c =
    let w = goal.at.returns c in
    (c.refused_flow.ensures.of_a_step (here w.At-loop-i) (all w.After-loop-i) refl, all w.After-loop-i)

pub loop-i-init : goal.loop-i-init
loop-i-init c = (omega arith, (c.requires.work_value.0 ∙ flow_none (its (goal.at.loop-i-init c).Start), all_none _))

pub overflow_mul-z : goal.overflow_mul-z
overflow_mul-z c = (at (goal.at.overflow_mul-z c).In-loop-i 0 tt).run

pub overflow_add-z : goal.overflow_add-z
overflow_add-z c = (at (goal.at.overflow_add-z c).In-loop-i 0 tt).at

pub offset_bounds-work-n : goal.offset_bounds-work-n
offset_bounds-work-n c = (at (goal.at.offset_bounds-work-n c).In-loop-i 0 tt).bytes

pub bounds-work-n : goal.bounds-work-n
bounds-work-n c = (at (goal.at.bounds-work-n c).In-loop-i 0 tt).within

pub overflow_mul-px : goal.overflow_mul-px
overflow_mul-px c = (at (goal.at.overflow_mul-px c).In-loop-i 1 tt).run

pub overflow_add-px : goal.overflow_add-px
overflow_add-px c = (at (goal.at.overflow_add-px c).In-loop-i 1 tt).at

pub offset_bounds-work-n-in-loop-i : goal.offset_bounds-work-n-in-loop-i
offset_bounds-work-n-in-loop-i c = (at (goal.at.offset_bounds-work-n-in-loop-i c).In-loop-i 1 tt).bytes

pub bounds-work-n-in-loop-i : goal.bounds-work-n-in-loop-i
bounds-work-n-in-loop-i c = (at (goal.at.bounds-work-n-in-loop-i c).In-loop-i 1 tt).within

pub overflow_mul-py : goal.overflow_mul-py
overflow_mul-py c = (at (goal.at.overflow_mul-py c).In-loop-i 2 tt).run

pub overflow_add-py : goal.overflow_add-py
overflow_add-py c = (at (goal.at.overflow_add-py c).In-loop-i 2 tt).at

pub offset_bounds-work-n-in-loop-i-2 : goal.offset_bounds-work-n-in-loop-i-2
offset_bounds-work-n-in-loop-i-2 c = (at (goal.at.offset_bounds-work-n-in-loop-i-2 c).In-loop-i 2 tt).bytes

pub bounds-work-n-in-loop-i-2 : goal.bounds-work-n-in-loop-i-2
bounds-work-n-in-loop-i-2 c = (at (goal.at.bounds-work-n-in-loop-i-2 c).In-loop-i 2 tt).within

pub overflow_mul-au : goal.overflow_mul-au
overflow_mul-au c = (at (goal.at.overflow_mul-au c).In-loop-i 3 tt).run

pub overflow_add-au : goal.overflow_add-au
overflow_add-au c = (at (goal.at.overflow_add-au c).In-loop-i 3 tt).at

pub offset_bounds-work-n-in-loop-i-3 : goal.offset_bounds-work-n-in-loop-i-3
offset_bounds-work-n-in-loop-i-3 c = (at (goal.at.offset_bounds-work-n-in-loop-i-3 c).In-loop-i 3 tt).bytes

pub bounds-work-n-in-loop-i-3 : goal.bounds-work-n-in-loop-i-3
bounds-work-n-in-loop-i-3 c = (at (goal.at.bounds-work-n-in-loop-i-3 c).In-loop-i 3 tt).within

pub overflow_mul-av : goal.overflow_mul-av
overflow_mul-av c = (at (goal.at.overflow_mul-av c).In-loop-i 4 tt).run

pub overflow_add-av : goal.overflow_add-av
overflow_add-av c = (at (goal.at.overflow_add-av c).In-loop-i 4 tt).at

pub offset_bounds-work-n-in-loop-i-4 : goal.offset_bounds-work-n-in-loop-i-4
offset_bounds-work-n-in-loop-i-4 c = (at (goal.at.offset_bounds-work-n-in-loop-i-4 c).In-loop-i 4 tt).bytes

pub bounds-work-n-in-loop-i-4 : goal.bounds-work-n-in-loop-i-4
bounds-work-n-in-loop-i-4 c = (at (goal.at.bounds-work-n-in-loop-i-4 c).In-loop-i 4 tt).within

pub overflow_mul-work : goal.overflow_mul-work
overflow_mul-work c = (at (goal.at.overflow_mul-work c).In-loop-i 1 tt).run

pub overflow_add-work : goal.overflow_add-work
overflow_add-work c = (at (goal.at.overflow_add-work c).In-loop-i 1 tt).at

pub offset_bounds-work-n-in-loop-i-5 : goal.offset_bounds-work-n-in-loop-i-5
offset_bounds-work-n-in-loop-i-5 c = (at (goal.at.offset_bounds-work-n-in-loop-i-5 c).In-loop-i 1 tt).bytes

pub bounds-work-n-in-loop-i-5 : goal.bounds-work-n-in-loop-i-5
bounds-work-n-in-loop-i-5 c = (at (goal.at.bounds-work-n-in-loop-i-5 c).In-loop-i 1 tt).within

pub overflow_mul-work-in-loop-i : goal.overflow_mul-work-in-loop-i
overflow_mul-work-in-loop-i c = (at (goal.at.overflow_mul-work-in-loop-i c).In-loop-i 2 tt).run

pub overflow_add-work-in-loop-i : goal.overflow_add-work-in-loop-i
overflow_add-work-in-loop-i c = (at (goal.at.overflow_add-work-in-loop-i c).In-loop-i 2 tt).at

pub offset_bounds-work-n-in-loop-i-6 : goal.offset_bounds-work-n-in-loop-i-6
offset_bounds-work-n-in-loop-i-6 c = (at (goal.at.offset_bounds-work-n-in-loop-i-6 c).In-loop-i 2 tt).bytes

pub bounds-work-n-in-loop-i-6 : goal.bounds-work-n-in-loop-i-6
bounds-work-n-in-loop-i-6 c = simp length-set (at (goal.at.bounds-work-n-in-loop-i-6 c).In-loop-i 2 tt).within

pub refused_flow-requires : goal.refused_flow-requires
refused_flow-requires c = long (goal.at.refused_flow-requires c).At-loop-i

pub flow_at-v-requires-clause-kind_len : goal.flow_at-v-requires-clause-kind_len
flow_at-v-requires-clause-kind_len c =
    ((fits (goal.at.flow_at-v-requires-clause-kind_len c).At-loop-i).shape.sized.kind, c.requires.work_value.2, ap length c.requires.work_value.1 ∙ length_table _ _)
