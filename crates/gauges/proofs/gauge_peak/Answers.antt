use mathlib.Core.Path.{ap, ◌∙◌}
use lib.Ieee.{of_bits}
use Rattle.rows.specs.declared.Answer.{Answer}
use Rattle.rows.specs.Refusals.{answered}
use Rattle.gauges.specs.Calls.{peaked}
use Rattle.gauges.proofs.CallLaws.{peaked_back}
use Rattle.gauges.proofs.gauge_peak.Goals as goal

pub returns : goal.returns
unfolding of_bits
returns c =
    ap (λ (q : Answer). peaked q c.unwrap_or-k.result) (c.hand_back.ensures ∙ ap answered c.and.ensures)
    ∙ peaked_back _ c.unwrap_or-k.ensures
    ∙ c.peak-found.ensures
