use mathlib.Core.Path.{ap, ◌∙◌}
use mathlib.Core.List.{List}
use lib.ListN.{length}
use lib.Ieee.{Float}
use Rattle.rows.specs.Scan.{scan}
use Rattle.rows.proofs.RefusalLaws.{stopped, went}
use Rattle.limits.specs.Limits.{row12_wind}
use Rattle.bounds.specs.Forcing.{wind_at, row12}
use Rattle.bounds.proofs.ForcingLaws.{past_first, long_winds}
use Rattle.bounds.proofs.forcing.forcing_rows.Goals as goal

pub winds_rows-requires : goal.winds_rows-requires
winds_rows-requires c = ap length (past_first c.args.f.now) ∙ long_winds c.args.n c.args.f.now c.requires

pub returns-in_err-elevation : goal.returns-in_err-elevation
unfolding row12
returns-in_err-elevation c = stopped _ _ _ c.from_residual.ensures.1 c.in_err-elevation.ensures

pub returns : goal.returns
unfolding row12
returns c =
    let a = c.args in
    let winds = c.winds_rows.ensures ∙ ap (λ (l : List Float). scan (λ i. row12_wind (wind_at a.n l i) i) a.n) (past_first a.f.now) in
    went c.in_ok-elevation.ensures winds
