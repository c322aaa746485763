use mathlib.Core.Path.{◌∙◌}
use Rattle.passes.proofs.working.write_new.Goals as goal

pub returns : goal.returns
returns c =
    c.copy_run-5.ensures
    ∙ rw (c.copy_run-4.ensures, c.copy_run-3.ensures, c.copy_run-2.ensures, c.copy_run.ensures)
