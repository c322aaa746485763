use Rattle.loads.specs.Private.{head_wind}
use Rattle.loads.proofs.loading.SaveText.head_wind.Goals as goal

pub returns : goal.returns
unfolding head_wind
returns c = rw (c.float_at-2.ensures, c.float_at.ensures, c.line_at-head.ensures)
