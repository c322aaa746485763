use Rattle.capi.specs.Numbers.{reply}
use Rattle.capi.proofs.HandLaws.{after_handed}
use Rattle.capi.proofs.surge_open.Goals as goal

pub returns : goal.returns
returns c =
    after_handed _ _ (λ i. reply (c.hand_back.ensures i) c.open-opened.result.clock) _ _ (rw (c.open-opened.ensures, c.parameters-p.ensures))
