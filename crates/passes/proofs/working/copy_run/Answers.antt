use lib.Ieee.{nan}
use Rattle.lists.proofs.RunLaws.{run_copied}
use Rattle.passes.proofs.working.copy_run.Goals as goal

pub returns : goal.returns
returns c =
    run_copied _ nan c.args.a c.args.b _ _ c.requires.0 c.requires.1 c.copy.ensures
