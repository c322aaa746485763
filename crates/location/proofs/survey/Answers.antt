use Rattle.std.proofs.Common.{refl, ap, ◌∙◌}
use Rattle.rows.proofs.RefusalLaws.{refuses_by, accepts}
use Rattle.bounds.proofs.StateLaws.{accepted_run}
use Rattle.location.specs.Survey.{sightings_by}
use Rattle.location.proofs.SightLaws.{handed_back, survey_refused, survey_accepted}
use Rattle.location.proofs.survey.Goals as goal

pub returns-in_err-run_rows : goal.returns-in_err-run_rows
returns-in_err-run_rows g c =
    ap (sightings_by g.E.Says.says) (handed_back _ _ c.from_residual.ensures.1)
    ∙ survey_refused _ _ _ _ _ c.in_err-run_rows.ensures (refuses_by g.met.E.Says.laws c.in_err-run_rows.field-0.0 refl)

pub at_points-requires : goal.at_points-requires
at_points-requires g c = let a = accepted_run _ _ _ _ (accepts c.in_ok-run_rows.ensures) in (a.shape, a.long)

pub returns : goal.returns
returns g c =
    c.at_points.ensures ∙ survey_accepted _ _ _ _ _ c.in_ok-run_rows.ensures refl
