use mathlib.Core.Path.{◌≡◌, sym, ◌∙◌}
use Rattle.mesh.specs.Lent.{mesh_of}
use Rattle.rows.specs.Refusals.{answered}
use Rattle.surge.specs.Open.{open_answer}
use Rattle.surge.proofs.OpenLaws.{opened, open_accepted, open_refused}
use Rattle.surge.proofs.open.Goals as goal
use Rattle.surge.proofs.open.Goals.{After-open_rows-asked, then-is_ok, else-is_ok}

rows_answer : (c : After-open_rows-asked) → answered c.open_rows-asked.result ≡ open_answer (mesh_of c.args.m.now) c.args.p c.args.state.now
rows_answer c = opened _ _ _ c.is_runs-long.ensures c.tested.ensures c.open_rows-asked.ensures

pub returns : goal.returns
returns c =
    let e = rows_answer (goal.at.returns c).After-open_rows-asked in
    elim c.if-is_ok.branch [
      | then-is_ok w ↦ open_accepted _ _ _ _ e _ c.cold.ensures (sym c.is_ok.ensures.value ∙ w.if-is_ok.true) _ (w.state-is ∙ w.clear.ensures)
      | else-is_ok w ↦ open_refused _ _ _ _ e _ c.cold.ensures (sym c.is_ok.ensures.value ∙ w.if-is_ok.false) _ w.state-is
    ]
