use Prim.Native.Nat.{◌+◌, ◌-◌, ◌*◌}
use mathlib.Core.Path.{◌≡◌, refl, ap, ◌∙◌}
use mathlib.Core.List.{List}
use native.Mathlib.Omega.{arith}
use lib.ListN.{length, take}
use lib.Ieee.{Float}
use Rattle.std.specs.Prelude.{Ok, Err}
use Rattle.rows.specs.declared.Answer.{Answer}
use Rattle.rows.specs.Refusals.{answered_by}
use Rattle.rows.specs.Scan.{accepted}
use Rattle.rows.proofs.ScanLaws.{then_next}
use Rattle.rows.proofs.RefusalLaws.{stands_by, refuses_by, made_by, accepts}
use Rattle.mesh.specs.Lent.{Mesh, N, mesh_of}
use Rattle.bounds.specs.Forcing.{wind_runs, winds_of, forced_rows}
use Rattle.bounds.proofs.ForcingLaws.{past_first, long_winds}
use Rattle.passes.specs.Settle.{Rooms, lent_rooms, settled}
use Rattle.passes.proofs.SettleLaws.{asked, refused, forcing_long, fits, next_long, work_long, sums_long, worked}
use Rattle.passes.proofs.settle.Goals as goal
use Rattle.passes.proofs.settle.Goals.{After-first, In_ok-forced_rows, Start}

abbrev net : (g : _) → Start g → Mesh
net g s = mesh_of s.args.m.now

abbrev lent : (g : _) → Start g → Rooms
lent g s = let a = s.args in lent_rooms a.next.now a.work.now a.sums.now

-- what the call asks first is row 1 of the rooms
same : (g : _) (c : After-first g) → let a = c.args in let also = answered_by g.E.Says.says a.also in
    forced_rows (answered_by g.E.Says.says c.first.result) (mesh_of a.m.now) a.p a.state.now also a.f.now ≡ asked (mesh_of a.m.now) a.p a.state.now a.f.now also (lent_rooms a.next.now a.work.now a.sums.now)
same g c =
    let a = c.args in
    ap (λ (q : Answer). forced_rows q (mesh_of a.m.now) a.p a.state.now (answered_by g.E.Says.says a.also) a.f.now)
    (c.first.ensures ∙ then_next accepted _ refl ∙ c.rooms_row-rooms.ensures)

pub returns-in_err-forced_rows : goal.returns-in_err-forced_rows
returns-in_err-forced_rows g c =
    let w = goal.at.returns-in_err-forced_rows g c in
    let law = g.met.E.Says.laws in
    let says = c.in_err-forced_rows.ensures ∙ same g w.After-first in
    refused (net g w.Start) c.args.p c.args.state.now c.args.f.now (answered_by g.E.Says.says c.args.also) (lent g w.Start)
    (stands_by law _ _ c.from_residual.ensures.1 says) (refuses_by law _ says)

-- ---- the rows before 13 accept
passed : (g : _) (c : In_ok-forced_rows g) → let a = c.args in
    (asked (mesh_of a.m.now) a.p a.state.now a.f.now (answered_by g.E.Says.says a.also) (lent_rooms a.next.now a.work.now a.sums.now)).number ≡ 0
passed g c =
    let a = c.args in
    accepts (c.in_ok-forced_rows.ensures ∙ ap (λ (q : Answer). forced_rows q (mesh_of a.m.now) a.p a.state.now (answered_by g.E.Says.says a.also) a.f.now)
    (c.first.ensures ∙ then_next accepted _ refl ∙ c.rooms_row-rooms.ensures))

-- the winds, as they are lent to the passes
abbrev winds : (g : _) → Start g → List Float
winds g s = take (length s.args.f.now - 1) (winds_of s.args.f.now)

long : (g : _) (c : In_ok-forced_rows g) → length c.args.f.now ≡ 1 + wind_runs * length c.args.m.now.x.now
long g c =
    let a = c.args in
    forcing_long (mesh_of a.m.now) a.p a.state.now a.f.now (answered_by g.E.Says.says a.also) (lent_rooms a.next.now a.work.now a.sums.now) (passed g c)

pub work_out-requires : goal.work_out-requires
work_out-requires g c =
    let w = goal.at.work_out-requires g c in
    let a = c.args in
    let ok = passed g w.In_ok-forced_rows in
    let also = answered_by g.E.Says.says a.also in
    let f = a.f.now in record {
      fits = fits (net g w.Start) a.p a.state.now f also (lent g w.Start) ok (winds g w.Start);
      next_len = (
        next_long (net g w.Start) a.p a.state.now f also (lent g w.Start) ok,
        work_long (net g w.Start) a.p a.state.now f also (lent g w.Start) ok,
        sums_long (net g w.Start) a.p a.state.now f also (lent g w.Start) ok,
        ap length (past_first f) ∙ long_winds (N (net g w.Start)) f (long g w.In_ok-forced_rows),
      );
    }

pub returns-in_err-work_out : goal.returns-in_err-work_out
returns-in_err-work_out g c =
    let w = goal.at.returns-in_err-work_out g c in
    let a = c.args in
    let e = c.in_err-work_out.ensures in
    ap (λ (q : Answer). settled q c.work_out.new.next c.work_out.new.work c.work_out.new.sums)
    (made_by g.met.E.Says.laws _ _ c.from_residual-in_err-work_out.ensures.1 refl)
    ∙ worked (net g w.Start) a.p a.state.now a.f.now (answered_by g.E.Says.says a.also) (lent g w.Start) (passed g w.In_ok-forced_rows)
    (Err c.in_err-work_out.field-0.0) (past_first a.f.now) e.value.0 e.value.1 e.work_after.0 e.work_after.1

pub returns : goal.returns
returns g c =
    let w = goal.at.returns g c in
    let a = c.args in
    let e = c.in_ok-work_out.ensures in
    worked (net g w.Start) a.p a.state.now a.f.now (answered_by g.E.Says.says a.also) (lent g w.Start) (passed g w.In_ok-forced_rows) (Ok tt) (past_first a.f.now) e.value.0 e.value.1 e.work_after.0 e.work_after.1

pub bounds-f-0 : goal.bounds-f-0
bounds-f-0 g c = omega (arith, long g (goal.at.bounds-f-0 g c).In_ok-forced_rows)

pub slice_bounds-g-count : goal.slice_bounds-g-count
slice_bounds-g-count g c = omega (arith, long g (goal.at.slice_bounds-g-count g c).In_ok-forced_rows)

pub slice_bounds-g-start : goal.slice_bounds-g-start
slice_bounds-g-start g c = omega (arith, long g (goal.at.slice_bounds-g-start g c).In_ok-forced_rows)

pub slice_bounds-g-end : goal.slice_bounds-g-end
slice_bounds-g-end g c = omega (arith, long g (goal.at.slice_bounds-g-end g c).In_ok-forced_rows)
