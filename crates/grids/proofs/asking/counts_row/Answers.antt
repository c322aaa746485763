use Rattle.std.proofs.Common.{◌∙◌}
use Rattle.grids.specs.Grid.{count_line_rows}
use Rattle.grids.proofs.RowLaws.{no_line, line_stands, counts_row}
use Rattle.grids.proofs.asking.counts_row.Goals as goal

pub returns-in_default-clause-answer : goal.returns-in_default-clause-answer
unfolding count_line_rows
returns-in_default-clause-answer c = c.malformed.ensures ∙ no_line 29 1 _ c.in_default.ensures

pub returns-in_err-tested-clause-answer : goal.returns-in_err-tested-clause-answer
returns-in_err-tested-clause-answer c =
    let a = c.args in
    let said = rw c.is_runs-triangles.ensures at c.in_err-tested.ensures in
    line_stands _ _ c.from_residual.ensures.1 (said ∙ counts_row a.x a.y a.h a.tri c.in-Some.ensures c.requires.0 c.requires.1)

pub returns-clause-answer : goal.returns-clause-answer
returns-clause-answer c =
    let a = c.args in
    let said = rw c.is_runs-triangles.ensures at c.in_ok-tested.ensures in
    said ∙ counts_row a.x a.y a.h a.tri c.in-Some.ensures c.requires.0 c.requires.1
