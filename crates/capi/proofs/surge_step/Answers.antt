use Rattle.capi.proofs.HandLaws.{step_handed}
use Rattle.capi.proofs.surge_step.Goals as goal

pub returns : goal.returns
returns c = step_handed _ _ c.hand_clock.ensures _ _ _ _ (rw (c.step-stepped.ensures, c.parameters-p.ensures))
