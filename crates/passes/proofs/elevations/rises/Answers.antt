use Prim.Native.Nat.{ℕ, ◌*◌, ◌<◌}
use native.Mathlib.Omega.{arith}
use mathlib.Core.Path.{◌≡◌, refl, ap, ◌∙◌}
use native.Mathlib.Nat.{le_antisymm}
use borrow.Author.Rules.{below_length}
use lib.Dec.{eqb}
use lib.ListN.{length}
use Rattle.rows.specs.declared.Answer.{Answer}
use Rattle.rows.specs.Scan.{scan}
use Rattle.rows.proofs.RefusalLaws.{answered_ok}
use Rattle.rows.proofs.ScanLaws.{all_none, all_more, all_accept}
use Rattle.lists.proofs.TableLaws.{length_table}
use Rattle.lists.proofs.RunLaws.{runs_length}
use Rattle.passes.specs.Equations.{Given, count, node, rise}
use Rattle.outcomes.specs.Outcomes.{rise_row}
use Rattle.passes.specs.Settle.{work_runs}
use Rattle.passes.specs.Private.{given_of, Fits, rise_room}
use Rattle.passes.proofs.PassLaws.{Place, place, rises_to, its_rise, rise_more, rise_none, rise_all}
use Rattle.passes.proofs.elevations.rises.Goals as goal
use Rattle.passes.proofs.elevations.rises.Goals.{After-loop-i, At-loop-i, In-loop-i, Start}

-- row 13 of z' at a node
abbrev row_at : Given → ℕ → Answer
row_at g i = rise_row (node g i).h (rise g i) i

abbrev its : Start → Given
its s = given_of s.args.g.now

abbrev here : At-loop-i → Given
here l = given_of l.args.g.now

fits : (l : At-loop-i) → Fits (here l)
fits l = l.requires.fits

long : (l : At-loop-i) → length l.loop-i.work ≡ work_runs * length l.args.g.now.mesh.x.now
long l = ap length l.loop-i.invariant.1.0 ∙ runs_length _ _

abbrev last : After-loop-i → Given
last c = given_of c.args.g.now

-- after the last turn every z' stands in the room
done : (c : After-loop-i) → c.loop-i.i ≡ count (last c)
done c = le_antisymm c.loop-i.invariant.0 c.loop-i-test.false

all : (c : After-loop-i) → c.loop-i.work ≡ rise_room (last c)
all c = c.loop-i.invariant.1.0 ∙ ap (rises_to (last c)) (done c) ∙ rise_all (last c)

-- place i of the sums, and of the run of z'
in-sums : (t : In-loop-i) → t.loop-i.i < length t.args.sums.now
in-sums t =
    let sums_long : length t.args.sums.now ≡ length t.args.g.now.mesh.x.now = ap length t.requires.work_value.1 ∙ length_table _ _ in
    below_length ℕ t.args.sums.now _ _ sums_long t.loop-i-test.true

at : (t : In-loop-i) → Place 0 (length t.args.g.now.mesh.x.now) t.loop-i.i (length t.loop-i.work)
at t =
    let long : length t.loop-i.work ≡ work_runs * length t.args.g.now.mesh.x.now = ap length t.loop-i.invariant.1.0 ∙ runs_length _ _ in
    place 0 work_runs tt t.loop-i-test.true long t.loop-i.auto.work t.well_formed.0.1

pub loop-i-init : goal.loop-i-init
loop-i-init c = (omega arith, (c.requires.work_value.0 ∙ rise_none (its (goal.at.loop-i-init c).Start), all_none _))

pub loop-i-preserved : goal.loop-i-preserved
loop-i-preserved c =
    let w = goal.at.loop-i-preserved c in
    let g = here w.At-loop-i in
    let i = c.loop-i.i in
    let h = c.loop-i-test.true in
    let r = its_rise g (fits w.At-loop-i) i h c.requires.work_value.1 c.loop-i.invariant.1.0 c.node_of-c.ensures c.sum_of-s.ensures c.rise_of-z.ensures in
    let asked = c.rise_row.ensures ∙ (λ j. rise_row (c.node_of-c.ensures j).h (r j) i) in
    let holds = c.is_ok-all.ensures.value ∙ answered_ok _ ∙ ap (λ (a : Answer). eqb a.number 0) asked in
    (omega arith, (rise_more g (fits w.At-loop-i) i h c.loop-i.invariant.1.0 r, all_more (row_at g) i c.loop-i.invariant.1.1 holds))

pub returns-then-all : goal.returns-then-all
returns-then-all c =
    let w = goal.at.returns-then-all c in
    (all_accept (row_at (here w.At-loop-i)) _ c.loop-i.invariant.1.1 c.if-all.true ∙ ap (scan _) (done w.After-loop-i), all w.After-loop-i)

pub returns : goal.returns
returns c =
    let w = goal.at.returns c in
    (c.refused_rise.ensures.of_a_step (here w.At-loop-i) refl (all w.After-loop-i) refl, all w.After-loop-i)

pub node_of-c-requires : goal.node_of-c-requires
node_of-c-requires c = let z = fits (goal.at.node_of-c-requires c).At-loop-i in (c.loop-i-test.true, z.shape.sized.h, z.state)

pub bounds-sums-i : goal.bounds-sums-i
bounds-sums-i c = in-sums (goal.at.bounds-sums-i c).In-loop-i

pub bounds-kind-i : goal.bounds-kind-i
bounds-kind-i c = below_length ℕ c.args.g.now.mesh.kind.now _ _ (fits (goal.at.bounds-kind-i c).At-loop-i).shape.sized.kind c.loop-i-test.true

pub overflow_mul-n : goal.overflow_mul-n
overflow_mul-n c = (at (goal.at.overflow_mul-n c).In-loop-i).run

pub overflow_add-n : goal.overflow_add-n
overflow_add-n c = (at (goal.at.overflow_add-n c).In-loop-i).at

pub offset_bounds-work-n : goal.offset_bounds-work-n
offset_bounds-work-n c = (at (goal.at.offset_bounds-work-n c).In-loop-i).bytes

pub bounds-work-n : goal.bounds-work-n
bounds-work-n c = (at (goal.at.bounds-work-n c).In-loop-i).within

pub overflow_mul-work : goal.overflow_mul-work
overflow_mul-work c = (at (goal.at.overflow_mul-work c).In-loop-i).run

pub overflow_add-work : goal.overflow_add-work
overflow_add-work c = (at (goal.at.overflow_add-work c).In-loop-i).at

pub offset_bounds-work-n-in-loop-i : goal.offset_bounds-work-n-in-loop-i
offset_bounds-work-n-in-loop-i c = (at (goal.at.offset_bounds-work-n-in-loop-i c).In-loop-i).bytes

pub bounds-work-n-in-loop-i : goal.bounds-work-n-in-loop-i
bounds-work-n-in-loop-i c = (at (goal.at.bounds-work-n-in-loop-i c).In-loop-i).within

pub refused_rise-requires : goal.refused_rise-requires
refused_rise-requires c =
    let w = goal.at.refused_rise-requires c in
    ((fits w.At-loop-i).shape.sized.h, long w.At-loop-i)
