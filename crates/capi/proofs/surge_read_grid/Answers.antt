use mathlib.Core.Path.{ap, ◌∙◌}
use Rattle.rows.specs.declared.Answer.{Answer}
use Rattle.grids.specs.Grid.{grid, read_out}
use Rattle.capi.proofs.surge_read_grid.Goals as goal

pub returns : goal.returns
returns c =
    let new = c.read_grid-read.new in
    ap (λ (a : Answer). read_out a (grid new.x new.y new.h new.tri)) c.hand_back.ensures ∙ c.read_grid-read.ensures
