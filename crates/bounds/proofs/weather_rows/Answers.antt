use mathlib.Core.Path.{◌≡◌, ap, ◌∙◌}
use mathlib.Core.Bool.{Bool}
use borrow.Author.Tests.{eqb-true}
use Rattle.rows.specs.Scan.{row}
use Rattle.rows.proofs.ScanLaws.{row_passed}
use Rattle.rows.proofs.RefusalLaws.{stopped, went, accepts}
use Rattle.bounds.specs.Forcing.{is_forcing, weather_rows}
use Rattle.bounds.proofs.weather_rows.Goals as goal
use Rattle.bounds.proofs.weather_rows.Goals.{After-is_forcing}

long : (c : After-is_forcing) → row c.is_forcing.result 1 0 ≡ row (is_forcing c.args.n c.args.f.now) 1 0
long c = ap (λ (b : Bool). row b 1 0) c.is_forcing.ensures

pub returns-in_err-tested : goal.returns-in_err-tested
unfolding weather_rows
returns-in_err-tested c = stopped _ _ _ c.from_residual.ensures.1 (c.in_err-tested.ensures ∙ long (goal.at.returns-in_err-tested c).After-is_forcing)

pub forcing_rows-requires : goal.forcing_rows-requires
forcing_rows-requires c = eqb-true _ _ (row_passed _ 0 0 (accepts (c.in_ok-tested.ensures ∙ long (goal.at.forcing_rows-requires c).After-is_forcing)))

pub returns : goal.returns
unfolding weather_rows
returns c = went (c.in_ok-tested.ensures ∙ long (goal.at.returns c).After-is_forcing) c.forcing_rows.ensures
