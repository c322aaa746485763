use Prim.Native.Nat.{ℕ, ◌+◌, ◌-◌}
use mathlib.Core.Path.{◌≡◌, refl, sym, ap, ◌∙◌}
use mathlib.Core.Bool.{not, cond}
use mathlib.Core.List.{List}
use native.Mathlib.Omega.{arith}
use lib.ListN.{length}
use lib.Ieee.{Float}
use Rattle.std.specs.Result.{is_ok}
use Rattle.rows.specs.Scan.{accepted}
use Rattle.rows.specs.Refusals.{answered}
use Rattle.mesh.specs.Lent.{Mesh, mesh_of}
use Rattle.bounds.specs.Forcing.{forcing_length, forcing_at}
use Rattle.bounds.proofs.ListLaws.{forcing_long}
use Rattle.passes.specs.Equations.{next_state}
use Rattle.passes.specs.Private.{of_forcing, later_rows, onward_of}
use Rattle.passes.proofs.TurnLaws.{listed, Part, part, lent_part, onward_none, onward_stop, onward_more, counts}
use Rattle.passes.proofs.further.Goals as goal
use Rattle.passes.proofs.further.Goals.{After-go_on-asked, At-loop-j, In-loop-j, Start}

here : (t : In-loop-j) → let a = t.args in Part (forcing_length (length a.m.now.x.now)) t.loop-j.j (length a.list.now)
here t = part (length t.args.m.now.x.now) t.args.list.now t.loop-j-test.true (omega arith)

-- so many steps were accepted
counted : (l : At-loop-j) → l.loop-j.step - l.args.from ≡ l.loop-j.j
counted l = omega (arith, l.loop-j.invariant.0)

abbrev net : Start → Mesh
net s = mesh_of s.args.m.now

-- forcing j
abbrev forcing : Start → ℕ → List Float
forcing s = let a = s.args in forcing_at (length a.m.now.x.now) a.list.now

abbrev lent : After-go_on-asked → Mesh
lent v = mesh_of v.args.m.now

abbrev its : After-go_on-asked → List Float
its v = forcing_at (length v.args.m.now.x.now) v.args.list.now v.loop-j.j

-- what a turn asks and leaves
its_rows : (v : After-go_on-asked) → answered v.go_on-asked.result ≡ later_rows (lent v) v.args.p (v.args.from + v.loop-j.j) (its v) v.loop-j.next
its_rows v =
    v.go_on-asked.ensures.0 ∙ (λ i. later_rows (lent v) v.args.p (v.loop-j.invariant.0.1 i) (lent_part (length v.args.m.now.x.now) v.args.list.now v.loop-j.j i) v.loop-j.next)

written : (v : After-go_on-asked) → v.go_on-asked.new.next ≡ cond (is_ok v.go_on-asked.result) (next_state (of_forcing (lent v) v.args.p (its v) v.loop-j.next)) v.loop-j.next
written v =
    v.go_on-asked.ensures.1
    ∙ (λ i. cond (is_ok v.go_on-asked.result) (next_state (of_forcing (lent v) v.args.p (lent_part (length v.args.m.now.x.now) v.args.list.now v.loop-j.j i) v.loop-j.next)) v.loop-j.next)

pub loop-j-init : goal.loop-j-init
loop-j-init c =
    let a = c.requires.next_len in
    ((c.requires.from_bound.1, refl, omega (arith, c.requires.from_bound.0)), (a.0, a.1, a.2), refl)

pub go_on-asked-requires : goal.go_on-asked-requires
go_on-asked-requires c =
    let lengths = c.loop-j.invariant.1 in
    let n = length c.args.m.now.x.now in
    record { shaped = c.requires.shaped; next_len = (lengths.0, lengths.1, lengths.2, ap length (lent_part n c.args.list.now c.loop-j.j) ∙ forcing_long n c.args.list.now c.loop-j.j (listed n c.args.list.now c.loop-j-test.true)) }

pub returns-then-is_err : goal.returns-then-is_err
returns-then-is_err c =
    let w = goal.at.returns-then-is_err c in
    let v = w.After-go_on-asked in
    let stop = onward_stop (net w.Start) c.args.p c.args.from (forcing w.Start) _ c.loop-j.j c.loop-j-test.true c.loop-j.next v.go_on-asked.result (its_rows v) (written v) (c.is_err.ensures.negation ∙ ap not c.if-is_err.true) in
    (omega (arith, c.loop-j.invariant.0), ap (λ (k : ℕ). onward_of (answered c.go_on-asked.result) k c.go_on-asked.new.next) (counted w.At-loop-j) ∙ sym stop ∙ c.loop-j.invariant.2)

pub loop-j-preserved : goal.loop-j-preserved
loop-j-preserved c =
    let w = goal.at.loop-j-preserved c in
    let v = w.After-go_on-asked in
    let more = onward_more (net w.Start) c.args.p c.args.from (forcing w.Start) _ c.loop-j.j c.loop-j-test.true c.loop-j.next v.go_on-asked.result (its_rows v) (written v) (c.is_err.ensures.negation ∙ ap not c.if-is_err.false) in
    let may = counts (net w.Start) c.args.p c.args.from (forcing w.Start) _ c.loop-j.j c.loop-j-test.true c.loop-j.next v.go_on-asked.result (its_rows v) (c.is_err.ensures.negation ∙ ap not c.if-is_err.false) in
    let kept = c.go_on-asked.auto in
    let lengths = c.loop-j.invariant.1 in (
      (omega (arith, c.loop-j-test.true), omega (arith, c.loop-j.invariant.0), omega (arith, c.loop-j.invariant.0, may)),
      (kept.next ∙ lengths.0, kept.work ∙ lengths.1, kept.sums ∙ lengths.2),
      sym more ∙ c.loop-j.invariant.2,
    )

pub returns : goal.returns
returns c =
    let w = goal.at.returns c in
    let none = onward_none (net w.Start) c.args.p c.args.from (forcing w.Start) _ c.loop-j.j c.loop-j.next c.loop-j-test.false in
    (omega (arith, c.loop-j.invariant.0), (λ i. onward_of accepted (counted w.At-loop-j i) c.loop-j.next) ∙ sym none ∙ c.loop-j.invariant.2)

pub overflow_mul-here : goal.overflow_mul-here
overflow_mul-here c = (here (goal.at.overflow_mul-here c).In-loop-j).start

pub overflow_add-past : goal.overflow_add-past
overflow_add-past c = (here (goal.at.overflow_add-past c).In-loop-j).past

pub offset_bounds-list-here : goal.offset_bounds-list-here
offset_bounds-list-here c = (here (goal.at.offset_bounds-list-here c).In-loop-j).bytes

pub slice_bounds-go_on-start : goal.slice_bounds-go_on-start
slice_bounds-go_on-start c = omega (arith, (here (goal.at.slice_bounds-go_on-start c).In-loop-j).within)

pub slice_bounds-go_on-end : goal.slice_bounds-go_on-end
slice_bounds-go_on-end c = omega (arith, (here (goal.at.slice_bounds-go_on-end c).In-loop-j).within)

pub overflow_sub-result : goal.overflow_sub-result
overflow_sub-result c = omega (arith, c.loop-j.invariant.0)

pub overflow_add-step-in-loop-j : goal.overflow_add-step-in-loop-j
overflow_add-step-in-loop-j c = record { fits = omega (arith, (loop-j-preserved c).0) }

pub overflow_sub-result-2 : goal.overflow_sub-result-2
overflow_sub-result-2 c = omega (arith, c.loop-j.invariant.0)
