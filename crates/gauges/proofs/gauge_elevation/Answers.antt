use mathlib.Core.Path.{ap, ◌∙◌}
use lib.Ieee.{of_bits}
use Rattle.quantities.specs.declared.Parameters.{Parameters}
use Rattle.rows.specs.declared.Answer.{Answer}
use Rattle.rows.specs.Refusals.{answered}
use Rattle.looking.specs.Lent.{lent}
use Rattle.gauges.specs.Calls.{measured, elevation_of}
use Rattle.gauges.proofs.CallLaws.{measured_back}
use Rattle.gauges.proofs.gauge_elevation.Goals as goal

pub returns : goal.returns
unfolding of_bits
returns c =
    let a = c.args in
    ap (λ (q : Answer). measured q c.unwrap_or.result) (c.hand_back.ensures ∙ ap answered c.and.ensures)
    ∙ measured_back _ c.unwrap_or.ensures
    ∙ c.elevation-found.ensures
    ∙ ap (λ (p : Parameters). elevation_of (lent a.state.now a.x.now a.y.now a.tri.now a.h.now a.kind.now p) a.kept.now a.gauge) c.parameters.ensures
