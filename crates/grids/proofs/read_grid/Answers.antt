use Rattle.grids.specs.Grid.{grid}
use Rattle.grids.proofs.GridLaws.{read_done, read_refused}
use Rattle.grids.proofs.read_grid.Goals as goal

pub returns-in_err-grid_rows : goal.returns-in_err-grid_rows
returns-in_err-grid_rows c =
    let a = c.args in read_refused (grid a.x.now a.y.now a.h.now a.tri.now) a.text.now _ _ c.from_residual.ensures.1 c.in_err-grid_rows.ensures

pub returns : goal.returns
returns c = let a = c.args in read_done (grid a.x.now a.y.now a.h.now a.tri.now) a.text.now c.in_ok-grid_rows.ensures c.fill.ensures
