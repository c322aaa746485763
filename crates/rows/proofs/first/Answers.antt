use mathlib.Core.Path.{sym, ap}
use Rattle.rows.specs.Refusals.{answered_by, answered}
use Rattle.rows.proofs.RefusalLaws.{stopped_by, made_by, went}
use Rattle.rows.proofs.first.Goals as goal

pub returns-in_err-a : goal.returns-in_err-a
returns-in_err-a g c = stopped_by g.met.E.Says.laws _ _ _ c.from_residual.ensures.1 (sym (ap (answered_by g.E.Says.says) c.in_err-a.was))

pub returns-in_err-b : goal.returns-in_err-b
returns-in_err-b g c =
    went (sym (ap (answered_by g.E.Says.says) c.in_ok-a.was))
    (made_by g.met.E.Says.laws _ _ c.from_residual-in_err-b.ensures.1 (sym (ap answered c.in_err-b.was)))

pub returns : goal.returns
returns g c = went (sym (ap (answered_by g.E.Says.says) c.in_ok-a.was)) (sym (ap answered c.in_ok-b.was))
