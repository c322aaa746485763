use Rattle.passes.specs.Private.{slope_of}
use Rattle.passes.proofs.velocities.slope_of.Goals as goal

pub returns : goal.returns
unfolding slope_of
returns c =
    rw (c.slope-y.ensures, c.slope-x.ensures, c.both_at-b3.ensures, c.both_at-b2.ensures, c.both_at-b1.ensures)
