use Rattle.capi.specs.Numbers.{clock}
use Rattle.capi.proofs.HandLaws.{after_handed}
use Rattle.capi.proofs.surge_load.Goals as goal

pub returns : goal.returns
returns c = after_handed _ _ c.hand_clock.ensures _ _ (rw (c.load.ensures (clock c.args.step.now), c.parameters-p.ensures))
