use mathlib.Core.Path.{◌∙◌}
use Rattle.passes.proofs.SettleLaws.{published}
use Rattle.passes.proofs.working.publish.Goals as goal

pub returns : goal.returns
returns c =
    c.write_new.ensures ∙ rw c.copy_run.ensures (published _ _ _ _ _ _ _ _ c.requires.0)
