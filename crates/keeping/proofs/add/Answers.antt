use mathlib.Core.Path.{sym, ap}
use Rattle.rows.specs.Refusals.{answered_by}
use Rattle.keeping.proofs.RecordLaws.{add_stopped, add_turned, add_went}
use Rattle.keeping.proofs.add.Goals as goal

pub returns-in_err-asked : goal.returns-in_err-asked
returns-in_err-asked g c =
    add_stopped g.met.E.Says.laws _ _ _ _ _ _ c.from_residual.ensures.1 (sym (ap (answered_by g.E.Says.says) c.in_err-asked.was))

pub returns-in_err-add_rows : goal.returns-in_err-add_rows
returns-in_err-add_rows g c =
    add_turned g.met.E.Says.laws _ _ _ _ _ _ c.from_residual-in_err-add_rows.ensures.1 (sym (ap (answered_by g.E.Says.says) c.in_ok-asked.was)) c.in_err-add_rows.ensures

pub returns : goal.returns
returns g c =
    add_went _ _ _ _ (sym (ap (answered_by g.E.Says.says) c.in_ok-asked.was)) c.in_ok-add_rows.ensures c.count-gauge.ensures.0 c.put_gauge.ensures
