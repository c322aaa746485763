use mathlib.Core.Path.{ap, ◌∙◌}
use Rattle.rows.specs.declared.Answer.{Answer}
use Rattle.quantities.specs.declared.Parameters.{Parameters}
use Rattle.mesh.specs.Lent.{mesh}
use Rattle.saves.specs.Save.{save_out, save_of}
use Rattle.capi.specs.Numbers.{clock, answer}
use Rattle.capi.proofs.surge_save.Goals as goal

pub returns-in-Ok : goal.returns-in-Ok
returns-in-Ok c =
    let a = c.args in
    let m = mesh a.x.now a.y.now a.tri.now a.h.now a.kind.now in
    ap (λ (q : Answer). save_out (answer q.number c.in-Ok.bytes q.value) c.save.new.text) c.hand_back-number.ensures
    ∙ c.in-Ok.ensures
    ∙ ap (λ (p : Parameters). save_of m p a.state.now (clock a.step) a.text.now) c.parameters-p.ensures

pub returns-in-Err : goal.returns-in-Err
returns-in-Err c =
    let a = c.args in
    let m = mesh a.x.now a.y.now a.tri.now a.h.now a.kind.now in
    ap (λ (q : Answer). save_out q c.save.new.text) c.hand_back.ensures
    ∙ c.in-Err.ensures
    ∙ ap (λ (p : Parameters). save_of m p a.state.now (clock a.step) a.text.now) c.parameters-p.ensures
