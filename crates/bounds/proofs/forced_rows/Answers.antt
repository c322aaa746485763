use mathlib.Core.Path.{◌≡◌, sym, ap, ◌∙◌}
use mathlib.Core.Bool.{Bool}
use Rattle.rows.specs.declared.Answer.{Answer}
use Rattle.rows.specs.Refusals.{answered_by}
use Rattle.rows.specs.Scan.{row, ◌then◌}
use Rattle.rows.proofs.ScanLaws.{then_rest}
use Rattle.rows.proofs.RefusalLaws.{stopped_by, made_by, went, accepts}
use Rattle.mesh.specs.Lent.{mesh_of}
use Rattle.bounds.specs.State.{run_rows}
use Rattle.bounds.specs.Forcing.{row1_forcing, forced_rows}
use Rattle.bounds.proofs.StateLaws.{accepted_run}
use Rattle.bounds.proofs.ForcingLaws.{long_forcing}
use Rattle.bounds.proofs.forced_rows.Goals as goal
use Rattle.bounds.proofs.forced_rows.Goals.{After-first}

-- what is asked before the run's rows
before : (g : _) (c : After-first g) → let a = c.args in let m = mesh_of a.m.now in let says = g.E.Says.says in
    run_rows (answered_by says c.first.result) m a.p a.state.now ≡ run_rows (answered_by says a.asked then row1_forcing m a.f.now) m a.p a.state.now
before g c =
    let a = c.args in
    let long = c.tested-long.ensures ∙ ap (λ (b : Bool). row b 1 0) c.is_forcing.ensures in
    ap (λ (b : Answer). run_rows b (mesh_of a.m.now) a.p a.state.now) (c.first.ensures ∙ ap (λ (b : Answer). answered_by g.E.Says.says a.asked then b) long)

pub returns-in_err-run_rows : goal.returns-in_err-run_rows
unfolding forced_rows
returns-in_err-run_rows g c =
    stopped_by g.met.E.Says.laws _ _ _ c.from_residual.ensures.1 (c.in_err-run_rows.ensures ∙ before g (goal.at.returns-in_err-run_rows g c).After-first)

pub returns-in_err-also : goal.returns-in_err-also
unfolding forced_rows
returns-in_err-also g c =
    went (c.in_ok-run_rows.ensures ∙ before g (goal.at.returns-in_err-also g c).After-first)
    (stopped_by g.met.E.Says.laws _ _ _ c.from_residual-in_err-also.ensures.1 (sym (ap (answered_by g.E.Says.says) c.in_err-also.was)))

pub forcing_rows-requires : goal.forcing_rows-requires
forcing_rows-requires g c =
    let a = c.args in
    let m = mesh_of a.m.now in
    let run = accepted_run _ m a.p a.state.now (accepts (c.in_ok-run_rows.ensures ∙ before g (goal.at.forcing_rows-requires g c).After-first)) in
    long_forcing m a.f.now (then_rest _ _ run.others)

pub returns-in_err-forcing_rows : goal.returns-in_err-forcing_rows
unfolding forced_rows
returns-in_err-forcing_rows g c =
    went (c.in_ok-run_rows.ensures ∙ before g (goal.at.returns-in_err-forcing_rows g c).After-first)
    (went (sym (ap (answered_by g.E.Says.says) c.in_ok-also.was))
    (made_by g.met.E.Says.laws _ _ c.from_residual-in_err-forcing_rows.ensures.1 c.in_err-forcing_rows.ensures))

pub returns : goal.returns
unfolding forced_rows
returns g c =
    went (c.in_ok-run_rows.ensures ∙ before g (goal.at.returns g c).After-first)
    (went (sym (ap (answered_by g.E.Says.says) c.in_ok-also.was)) c.in_ok-forcing_rows.ensures)
