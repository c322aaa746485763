use Rattle.elevation.specs.Elevation.{shares}
use Rattle.elevation.proofs.shares.Goals as goal

pub returns : goal.returns
unfolding shares
returns c =
    rw (c.corner-3.ensures, c.corner-2.ensures, c.corner.ensures, c.jy-y.ensures, c.jx-x.ensures)
