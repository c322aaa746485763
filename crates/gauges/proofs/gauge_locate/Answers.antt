use mathlib.Core.Path.{refl, ap, ◌∙◌}
use mir.Syntax.{w32}
use Rattle.geometry.proofs.SizeLaws.{kept_as}
use Rattle.rows.specs.declared.Answer.{Answer}
use Rattle.rows.specs.Refusals.{answered}
use Rattle.looking.specs.Lent.{lent}
use Rattle.gauges.specs.Calls.{point, located, locate_of}
use Rattle.gauges.proofs.CallLaws.{located_back}
use Rattle.gauges.proofs.gauge_locate.Goals as goal

pub returns : goal.returns
returns c =
    let a = c.args in
    ap (λ (q : Answer). located q c.unwrap_or.result) (c.hand_back.ensures ∙ ap answered c.and.ensures)
    ∙ located_back _ c.unwrap_or.ensures
    ∙ c.locate-found.ensures
    ∙ (λ i.
    locate_of (lent a.state.now a.x.now a.y.now a.tri.now a.h.now a.kind.now (c.parameters.ensures i))
    (point (kept_as w32 c.ranges.px refl i) (kept_as w32 c.ranges.py refl i)))
