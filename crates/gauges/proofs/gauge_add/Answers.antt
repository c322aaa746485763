use mathlib.Core.Path.{refl, ap, ◌∙◌}
use mir.Syntax.{w32}
use Rattle.geometry.proofs.SizeLaws.{kept_as}
use Rattle.rows.specs.declared.Answer.{Answer}
use Rattle.rows.specs.Refusals.{answered}
use Rattle.looking.specs.Lent.{lent}
use Rattle.keeping.specs.Keeping.{Given, add_out}
use Rattle.gauges.specs.Calls.{point, given, add_of}
use Rattle.gauges.proofs.CallLaws.{given_back}
use Rattle.gauges.proofs.gauge_add.Goals as goal

pub returns : goal.returns
returns c =
    let a = c.args in
    ap (λ (g : Given). add_out g c.add-added.new.kept)
    (ap (λ (q : Answer). given q c.unwrap_or.result) (c.hand_back.ensures ∙ ap answered c.and.ensures) ∙ given_back _ c.unwrap_or.ensures)
    ∙ c.add-added.ensures
    ∙ (λ i.
    add_of (lent a.state.now a.x.now a.y.now a.tri.now a.h.now a.kind.now (c.parameters.ensures i)) a.kept.now
    (point (kept_as w32 c.ranges.px refl i) (kept_as w32 c.ranges.py refl i)))
