use Prim.Native.Nat.{ℕ, ◌-◌, ◌*◌, ◌/◌, ◌<◌, ◌≤◌}
use mathlib.Core.Path.{◌≡◌, sym, ap, ◌∙◌}
use mathlib.Core.Bool.{Bool, not, true, cond}
use mathlib.Core.List.{List, ◌++◌}
use native.Mathlib.Nat.{zero-mul}
use native.Mathlib.Omega.{arith}
use borrow.Author.Tests.{eqb-false, not-true}
use lib.Dec.{eqb}
use lib.ListN.{length, take, drop}
use lib.Seq.{length-take-le}
use lib.Ieee.{Float}
use Rattle.std.specs.Result.{is_ok}
use Rattle.rows.specs.declared.Answer.{Answer}
use Rattle.rows.specs.Refusals.{answered}
use Rattle.lists.specs.Table.{table, zeros}
use Rattle.rows.proofs.RefusalLaws.{answered_ok}
use Rattle.rows.proofs.ScanLaws.{same_number, row_passed}
use Rattle.limits.specs.Limits.{row11}
use Rattle.mesh.specs.Lent.{Mesh, mesh_of}
use Rattle.bounds.specs.Forcing.{forcing_length, forcing_at, list_rows}
use Rattle.bounds.proofs.ForcingLaws.{AcceptedForced, accepted_forced}
use Rattle.bounds.proofs.ListLaws.{forcing_within}
use Rattle.passes.specs.Settle.{Rooms, lent_rooms, work_runs, row1_rooms, Settled, settled, settle_of}
use Rattle.passes.specs.InTurn.{unmoved, without_added, with_added, first_rows}
use Rattle.passes.specs.SettleAll.{turns, progress_of}
use Rattle.passes.specs.Private.{onward}
use Rattle.passes.specs.declared.Progress as handed
use Rattle.passes.proofs.SettleLaws.{accepting, refusing}
use Rattle.passes.proofs.TurnLaws.{listed, put_back}
use Rattle.passes.proofs.SettleAllLaws.{list_refused, list_rooms, list_none, counted, one, list_stop, first_rows_lem, first_state, list_more}
use Rattle.passes.proofs.settle_all.Goals as goal
use Rattle.passes.proofs.settle_all.Goals.{After-list_rows-asked, After-settle-first, Else-is_err, Start}

abbrev net : Start → Mesh
net s = mesh_of s.args.m.now

abbrev lent : Start → Rooms
lent s = let a = s.args in lent_rooms a.next.now a.work.now a.sums.now

its_rows : (k : After-list_rows-asked) → let a = k.args in
    answered k.list_rows-asked.result ≡ first_rows (mesh_of a.m.now) a.list.now (lent_rooms a.next.now a.work.now a.sums.now)
its_rows k = k.list_rows-asked.ensures ∙ ap (λ (q : Answer). list_rows q (length k.args.m.now.x.now) k.args.list.now) k.rooms_row-rooms.ensures

pub returns-then-is_err : goal.returns-then-is_err
returns-then-is_err c =
    let a = c.args in
    let s = (goal.at.returns-then-is_err c).Start in
    ap (λ (o : handed.Progress). turns (progress_of o) a.next.now a.work.now a.sums.now) c.unmoved.ensures
    ∙ list_refused (net s) a.p a.state.now a.step a.list.now (lent s) (its_rows (goal.at.returns-then-is_err c).After-list_rows-asked) (refusing _ (c.is_err.ensures.negation ∙ ap not c.if-is_err.true))

-- ---- the rows that come before any forcing have passed
abbrev net1 : Else-is_err → Mesh
net1 e = mesh_of e.args.m.now

abbrev lent1 : Else-is_err → Rooms
lent1 e = let a = e.args in lent_rooms a.next.now a.work.now a.sums.now

passed : (e : Else-is_err) → (first_rows (net1 e) e.args.list.now (lent1 e)).number ≡ 0
passed e = same_number (e.list_rows-asked.ensures ∙ ap (λ (q : Answer). list_rows q (length e.args.m.now.x.now) e.args.list.now) e.rooms_row-rooms.ensures) (accepting _ (e.is_err.ensures.negation ∙ ap not e.if-is_err.false))

own_fits : (e : Else-is_err) → work_runs * length e.args.m.now.x.now ≤ length e.args.work.now
own_fits e = let a = e.args in omega (arith, (list_rooms (net1 e) a.p a.state.now a.step a.list.now (lent1 e) (passed e)).work)

list_fits : (e : Else-is_err) → (length e.args.list.now ≡ 0 → ⊥) → forcing_length (length e.args.m.now.x.now) ≤ length e.args.list.now
list_fits e some =
    let a = e.args in
    let n = length a.m.now.x.now in
    let some_forcings = counted (net1 e) a.p a.state.now a.step a.list.now (lent1 e) (passed e) some in
    let w = forcing_within n a.list.now 0 (listed n a.list.now some_forcings) in
    omega (arith, w, zero-mul (forcing_length n))

-- ---- no forcing
pub settle_none-requires : goal.settle_none-requires
settle_none-requires c =
    let a = c.args in
    let e = (goal.at.settle_none-requires c).Else-is_err in
    (list_rooms (net1 e) a.p a.state.now a.step a.list.now (lent1 e) (passed e)).next

pub returns-then-list-eq0 : goal.returns-then-list-eq0
returns-then-list-eq0 c =
    let a = c.args in
    let e = (goal.at.returns-then-list-eq0 c).Else-is_err in
    ap (λ (o : handed.Progress). turns (progress_of o) c.settle_none.new.next a.work.now a.sums.now) c.unmoved-then-list-eq0.ensures
    ∙ list_none (net1 e) a.p a.state.now a.step a.list.now (lent1 e) (passed e) c.if-list-eq0.true c.settle_none.ensures.0 (c.settle_none.ensures.1 ∙ ap (λ (b : Bool). cond b a.state.now a.next.now) (answered_ok _))

-- ---- the first forcing
abbrev net2 : After-settle-first → Mesh
net2 v = mesh_of v.args.m.now

abbrev lent2 : After-settle-first → Rooms
lent2 v = let a = v.args in lent_rooms a.next.now a.work.now a.sums.now

abbrev Passed : After-settle-first → Type 0
Passed v = (first_rows (net2 v) v.args.list.now (lent2 v)).number ≡ 0

abbrev left : After-settle-first → Settled
left v = settled (answered v.settle-first.result) v.settle-first.new.next v.settle-first.new.work v.settle-first.new.sums

abbrev its : (v : After-settle-first) → Passed v → Settled
its v ok = let a = v.args in one (net2 v) a.p a.state.now a.step a.list.now (lent2 v) ok v.if-list-eq0.false

settles : (v : After-settle-first) (ok : Passed v) → left v ≡ its v ok
settles v ok =
    let a = v.args in
    let n = length a.m.now.x.now in
    let long = forcing_length n in
    v.settle-first.ensures
    ∙ (λ i. settle_of (net2 v) a.p a.state.now (take long (drop (sym (zero-mul long) i) a.list.now)) (v.may_count.ensures i) (without_added n (lent2 v)))

pub returns-then-is_err-2 : goal.returns-then-is_err-2
returns-then-is_err-2 c =
    let w = goal.at.returns-then-is_err-2 c in
    let a = c.args in
    let n = length a.m.now.x.now in
    let v = w.After-settle-first in
    let ok = passed w.Else-is_err in
    let same : left v ≡ its v ok = settles v ok in
    ap (λ (o : handed.Progress). turns (progress_of o) c.settle-first.new.next (c.settle-first.new.work ++ drop (work_runs * n) a.work.now) c.settle-first.new.sums) c.unmoved-then-is_err-2.ensures
    ∙ (λ i. with_added n (lent2 v) (unmoved a.step (same i).answer (same i).rooms))
    ∙ list_stop (net2 v) a.p a.state.now a.step a.list.now (lent2 v) ok c.if-list-eq0.false (λ z. refusing c.settle-first.result (c.is_err-2.ensures.negation ∙ ap not c.if-is_err-2.true) (ap (λ (o : Settled). o.answer.number) same ∙ z))

-- ---- those past it: the work room after the first, and what is known where that was accepted
abbrev room : After-settle-first → List Float
room v = v.settle-first.new.work ++ drop (work_runs * length v.args.m.now.x.now) v.args.work.now

room_length : (v : After-settle-first) → work_runs * length v.args.m.now.x.now ≤ length v.args.work.now → length (room v) ≡ length v.args.work.now
room_length v fits = put_back (work_runs * length v.args.m.now.x.now) v.settle-first.new.work v.args.work.now (v.settle-first.auto.work ∙ length-take-le _ _ fits) fits

accepts : (v : After-settle-first) (ok : Passed v) → is_ok v.settle-first.result ≡ true → (its v ok).answer.number ≡ 0
accepts v ok h = sym (ap (λ (o : Settled). o.answer.number) (settles v ok)) ∙ accepting _ h

rows : (v : After-settle-first) (ok : Passed v) → is_ok v.settle-first.result ≡ true
    → let a = v.args in
    let n = length a.m.now.x.now in
    AcceptedForced (row1_rooms (without_added n (lent2 v)) n) (net2 v) a.p a.state.now (row11 a.step) (forcing_at n a.list.now 0)
rows v ok h =
    let a = v.args in
    accepted_forced _ _ _ _ _ _ (first_rows_lem (net2 v) a.p a.state.now a.step a.list.now (lent2 v) ok v.if-list-eq0.false (accepts v ok h))

-- row 11: the clock can count on
can_count : (step : ℕ) → (row11 step).number ≡ 0 → step < 4294967296 → step < 4294967295
unfolding row11
can_count step e fits =
    let counts : not (eqb step 4294967295) ≡ true = row_passed _ 10 0 e in
    let last : step ≡ 4294967295 → ⊥ = eqb-false step 4294967295 (not-true (eqb step 4294967295) counts) in
    omega (arith, last)

pub rest_of-requires : goal.rest_of-requires
rest_of-requires c =
    let w = goal.at.rest_of-requires c in
    let a = c.args in
    let h = c.is_err-2.ensures.negation ∙ ap not c.if-is_err-2.false in
    let e = w.Else-is_err in
    let v = w.After-settle-first in
    let ok = passed e in
    let rooms = list_rooms (net2 v) a.p a.state.now a.step a.list.now (lent2 v) ok in
    let all = rows v ok h in record {
      shaped = all.run.shape;
      next_len = (c.settle-first.auto.next ∙ rooms.next, omega (arith, room_length v (own_fits e), own_fits e), c.settle-first.auto.sums ∙ rooms.sums);
      from_bound = (can_count a.step all.counts (omega arith), counted (net2 v) a.p a.state.now a.step a.list.now (lent2 v) ok c.if-list-eq0.false);
    }

pub returns : goal.returns
returns c =
    let w = goal.at.returns c in
    let a = c.args in
    let e = w.Else-is_err in
    let v = w.After-settle-first in
    let ok = passed e in
    let r = c.rest_of.result in
    let made = c.rest_of.ensures in
    let accepted = accepts v ok (c.is_err-2.ensures.negation ∙ ap not c.if-is_err-2.false) in
    let new = ap (λ (o : Settled). o.rooms.next) (settles v ok ∙ first_state (net2 v) a.p a.state.now a.step a.list.now (lent2 v) ok c.if-list-eq0.false accepted) in
    let n = length a.m.now.x.now in
    let steps = onward (net2 v) a.p a.step (forcing_at n a.list.now) (length a.list.now / forcing_length n - 1) 1 in
    (λ i. record { last = record { answer = answered r.asked; step = made.step_value.0 i; rooms = lent_rooms c.rest_of.new.next c.rest_of.new.work c.rest_of.new.sums }; accepted = r.accepted })
    ∙ list_more (net2 v) a.p a.state.now a.step a.list.now (lent2 v) ok c.if-list-eq0.false accepted
    (made.step_value.1 ∙ ap steps new) (made.work_after.0 ∙ ap zeros (room_length v (own_fits e))) (made.work_after.1 ∙ ap (λ (n : ℕ). table n (λ _. 0)) c.settle-first.auto.sums)

pub slice_bounds-settle-end : goal.slice_bounds-settle-end
slice_bounds-settle-end c = own_fits (goal.at.slice_bounds-settle-end c).Else-is_err

pub slice_bounds-settle-end-2 : goal.slice_bounds-settle-end-2
slice_bounds-settle-end-2 c = sym (length-take-le _ _ (own_fits (goal.at.slice_bounds-settle-end-2 c).Else-is_err))

pub slice_bounds-settle-end-3 : goal.slice_bounds-settle-end-3
slice_bounds-settle-end-3 c = sym (length-take-le _ _ (list_fits (goal.at.slice_bounds-settle-end-3 c).Else-is_err c.if-list-eq0.false))
