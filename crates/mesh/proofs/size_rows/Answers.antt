use mathlib.Core.Path.{sym, ap}
use Rattle.rows.specs.Refusals.{answered_by}
use Rattle.rows.proofs.RefusalLaws.{stopped_by, made_by, turned_by, went}
use Rattle.mesh.specs.Rows.{size_rows}
use Rattle.mesh.proofs.size_rows.Goals as goal

pub returns-in_err-asked : goal.returns-in_err-asked
unfolding size_rows
returns-in_err-asked g c =
    stopped_by g.met.E.Says.laws _ _ _ c.from_residual.ensures.1 (sym (ap (answered_by g.E.Says.says) c.in_err-asked.was))

pub returns-in_err-tested : goal.returns-in_err-tested
unfolding size_rows
returns-in_err-tested g c =
    went (sym (ap (answered_by g.E.Says.says) c.in_ok-asked.was))
    (turned_by g.met.E.Says.laws _ _ _ c.from_residual-in_err-tested.ensures.1 c.in_err-tested.ensures)

pub returns-in_err-tested-2 : goal.returns-in_err-tested-2
unfolding size_rows
returns-in_err-tested-2 g c =
    went (sym (ap (answered_by g.E.Says.says) c.in_ok-asked.was))
    (went c.in_ok-tested.ensures (made_by g.met.E.Says.laws _ _ c.from_residual-in_err-tested-2.ensures.1 c.in_err-tested-2.ensures))

pub returns : goal.returns
unfolding size_rows
returns g c = went (sym (ap (answered_by g.E.Says.says) c.in_ok-asked.was)) (went c.in_ok-tested.ensures c.in_ok-tested-2.ensures)
