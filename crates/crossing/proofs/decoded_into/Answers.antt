use mathlib.Core.Path.{◌≡◌, sym, ◌∙◌}
use native.Mathlib.Omega.{arith}
use Rattle.lists.proofs.TableLaws.{up_none, fill_more}
use Rattle.crossing.proofs.CrossLaws.{element_there, filled_whole}
use Rattle.crossing.proofs.decoded_into.Goals as goal

pub loop-i-preserved : goal.loop-i-preserved
loop-i-preserved g c f says =
    fill_more _ _ _ (c.loop-i.invariant f says) (omega arith) (says _ _ (element_there _ _ _ (omega arith)) c.read.ensures)

pub returns : goal.returns
returns g c f says =
    let whole : c.loop-i.i ≡ c.min-i-end.result = omega arith in
    c.loop-i.invariant f says ∙ filled_whole _ f _ _ (whole ∙ c.min-i-end.ensures)

pub loop-i-init : goal.loop-i-init
loop-i-init g c f says = sym (up_none _ _)
