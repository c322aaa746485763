use mathlib.Core.Path.{ap, ◌∙◌}
use Rattle.quantities.specs.declared.Parameters.{Parameters}
use Rattle.mesh.specs.Lent.{mesh}
use Rattle.passes.specs.Settle.{lent_rooms}
use Rattle.surge.specs.Lent.{run}
use Rattle.surge.specs.StepAll.{step_all_of}
use Rattle.capi.specs.Numbers.{clock, reply}
use Rattle.capi.proofs.HandLaws.{list_handed}
use Rattle.capi.proofs.surge_step_all.Goals as goal

pub returns : goal.returns
returns c =
    let a = c.args in
    let m = mesh a.x.now a.y.now a.tri.now a.h.now a.kind.now in
    let rooms = lent_rooms a.next.now a.work.now a.sums.now in
    list_handed _ _ (λ i. reply (c.hand_back.ensures i) c.step_all-stepped.result.clock) _ _ _ _ _
    (c.step_all-stepped.ensures ∙ ap (λ (p : Parameters). step_all_of m p (run a.state.now (clock a.step.now)) a.forcings.now rooms) c.parameters-p.ensures)
