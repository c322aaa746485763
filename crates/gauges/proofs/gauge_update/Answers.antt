use mathlib.Core.Path.{ap, ◌∙◌}
use Rattle.quantities.specs.declared.Parameters.{Parameters}
use Rattle.rows.specs.declared.Answer.{Answer}
use Rattle.keeping.specs.Keeping.{update_out}
use Rattle.looking.specs.Lent.{lent}
use Rattle.gauges.specs.Calls.{update_of}
use Rattle.gauges.proofs.gauge_update.Goals as goal

pub returns : goal.returns
returns c =
    let a = c.args in
    ap (λ (q : Answer). update_out q c.update-asked.new.kept) c.hand_back.ensures
    ∙ c.update-asked.ensures
    ∙ ap (λ (p : Parameters). update_of (lent a.state.now a.x.now a.y.now a.tri.now a.h.now a.kind.now p) a.kept.now a.step) c.parameters.ensures
