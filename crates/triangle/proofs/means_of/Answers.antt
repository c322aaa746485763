use Rattle.triangle.specs.Triangle.{means, z*, H, qx, qy}
use Rattle.triangle.proofs.means_of.Goals as goal

-- each place is named for the mean or the gradient that has just been made there
pub returns : goal.returns
unfolding means z* H qx qy
returns c =
    λ i. record {
      hb = c.mean.ensures i;
      ub = c.mean-2.ensures i;
      vb = c.mean-3.ensures i;
      z = c.mean-4.ensures i;
      qx = c.mean-5.ensures i;
      qy = c.mean-6.ensures i;
      gx = c.slope.ensures i;
      gy = c.slope-2.ensures i;
      sx = c.slope-3.ensures i;
      sy = c.slope-4.ensures i;
      xu = c.slope-5.ensures i;
      yu = c.slope-6.ensures i;
      xv = c.slope-7.ensures i;
      yv = c.slope-8.ensures i;
      wx = c.mean-7.ensures i;
      wy = c.mean-8.ensures i;
    }
