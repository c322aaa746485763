use Prim.Native.Nat.{ℕ}
use mathlib.Core.Path.{◌≡◌, ap, ◌∙◌}
use mathlib.Core.List.{List, ◌++◌}
use native.Mathlib.Omega.{arith}
use borrow.Author.Tests.{leb-true}
use lib.ListN.{drop}
use lib.Ieee.{Float}
use Rattle.rows.specs.Scan.{accepted}
use Rattle.rows.proofs.ScanLaws.{row_passed}
use Rattle.rows.proofs.RefusalLaws.{accepts}
use Rattle.quantities.specs.declared.Parameters.{Parameters}
use Rattle.mesh.specs.Lent.{Mesh, mesh_of, N, E}
use Rattle.areas.proofs.AreaLaws.{all_counted}
use Rattle.bounds.specs.State.{run_rows}
use Rattle.bounds.proofs.StateLaws.{AcceptedRun, accepted_run}
use Rattle.editions.specs.Lines.{save_length}
use Rattle.saves.specs.Save.{save_text, row24}
use Rattle.saves.proofs.SaveLaws.{run_refused, room_asked, save_refused, save_written}
use Rattle.saves.proofs.save.Goals as goal

-- a run that its rows accept
run : {m : Mesh} {p : Parameters} {state : List Float} → accepted ≡ run_rows accepted m p state → AcceptedRun accepted m p state
run e = accepted_run _ _ _ _ (accepts e)

pub returns-in_err-run_rows : goal.returns-in_err-run_rows
returns-in_err-run_rows c = save_refused _ _ _ _ _ _ _ c.from_residual.ensures.1 (run_refused _ _ _ _ _ c.in_err-run_rows.ensures)

pub overflow_mul-room : goal.overflow_mul-room
overflow_mul-room c = omega (arith, (run c.in_ok-run_rows.ensures).shape.sized.most_nodes)

pub overflow_add-room : goal.overflow_add-room
overflow_add-room c = omega (arith, (run c.in_ok-run_rows.ensures).shape.sized.most_nodes)

pub returns-in_err-tested : goal.returns-in_err-tested
unfolding row24
returns-in_err-tested c =
    save_refused _ _ _ _ _ _ _ c.from_residual-in_err-tested.ensures.1 (room_asked _ _ _ _ c.in_ok-run_rows.ensures c.in_err-tested.ensures)

pub write-requires : goal.write-requires
write-requires c =
    let its = run c.in_ok-run_rows.ensures in
    (its.shape.sized.most_nodes, its.long, leb-true _ _ (row_passed _ 23 _ (accepts c.in_ok-tested.ensures)))

pub returns : goal.returns
unfolding row24
returns c =
    let a = c.args in
    let m = mesh_of a.m.now in
    let same = c.twice_areas.ensures ∙ all_counted m (run c.in_ok-run_rows.ensures).shape in
    save_written m a.p a.state.now a.clock a.text.now (room_asked _ _ _ _ c.in_ok-run_rows.ensures c.in_ok-tested.ensures)
    (c.write.ensures ∙ ap (λ (total : ℕ). save_text (record { n = N m; e = E m; sum = total; p = a.p; state = a.state.now; clock = a.clock }) ++ drop (save_length (N m)) a.text.now) same)
