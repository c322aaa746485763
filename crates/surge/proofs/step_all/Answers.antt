use mathlib.Core.Path.{ap, ◌∙◌}
use Rattle.mesh.specs.Lent.{mesh_of}
use Rattle.passes.specs.Settle.{lent_rooms}
use Rattle.passes.specs.InTurn.{Single, list_of}
use Rattle.surge.proofs.SingleLaws.{same_single}
use Rattle.surge.proofs.step_all.Goals as goal

pub returns : goal.returns
returns c =
    let a = c.args in
    let m = mesh_of a.m.now in
    let rooms = lent_rooms a.next.now a.work.now a.sums.now in
    c.settle_all-made.ensures
    ∙ ap (λ (single : Single). list_of single m a.p a.state.now a.clock.step a.list.now rooms) (same_single m a.p)
