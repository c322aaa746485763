use mathlib.Core.Path.{refl, ap, ◌∙◌}
use Rattle.rows.proofs.RefusalLaws.{refuses}
use Rattle.location.proofs.SightLaws.{handed_back}
use Rattle.gauges.specs.Calls.{peaked_by}
use Rattle.gauges.proofs.CallLaws.{peak_refused, peak_accepted}
use Rattle.gauges.proofs.peak.Goals as goal

pub returns-in_err-number_rows : goal.returns-in_err-number_rows
returns-in_err-number_rows c =
    ap peaked_by (handed_back _ _ c.from_residual.ensures.1)
    ∙ peak_refused _ _ c.in_err-number_rows.ensures (refuses c.in_err-number_rows.field-0.0 refl)

pub returns : goal.returns
returns c = peak_accepted _ _ c.in_ok-number_rows.ensures refl c.mark_at.ensures
