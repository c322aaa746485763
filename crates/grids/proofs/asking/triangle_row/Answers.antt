use Rattle.std.proofs.Common.{◌+◌, ◌∙◌}
use Rattle.rows.proofs.RefusalLaws.{went}
use Rattle.grids.specs.Grid.{triangle_line_rows}
use Rattle.grids.proofs.RowLaws.{no_line, line_stands, line_stopped, triangle_row}
use Rattle.grids.proofs.asking.triangle_row.Goals as goal

pub returns-in_default-clause-answer : goal.returns-in_default-clause-answer
unfolding triangle_line_rows
returns-in_default-clause-answer c = c.malformed.ensures ∙ no_line 29 (2 + c.args.n + c.args.k) _ c.in_default.ensures

pub returns-in_err-tested-clause-answer : goal.returns-in_err-tested-clause-answer
returns-in_err-tested-clause-answer c =
    line_stopped _ _ _ c.from_residual.ensures.1 c.in_err-tested.ensures ∙ triangle_row c.args.n c.args.k c.in-Some.ensures c.requires.1

pub returns-in_err-tested-2-clause-answer : goal.returns-in_err-tested-2-clause-answer
returns-in_err-tested-2-clause-answer c =
    let said = rw (c.is_corner.ensures, c.is_corner-2.ensures, c.is_corner-3.ensures) at c.in_err-tested-2.ensures in
    went c.in_ok-tested.ensures (line_stands _ _ c.from_residual-in_err-tested-2.ensures.1 said)
    ∙ triangle_row c.args.n c.args.k c.in-Some.ensures c.requires.1

pub returns-clause-answer : goal.returns-clause-answer
returns-clause-answer c =
    let said = rw (c.is_corner.ensures, c.is_corner-2.ensures, c.is_corner-3.ensures) at c.in_ok-tested-2.ensures in
    went c.in_ok-tested.ensures said ∙ triangle_row c.args.n c.args.k c.in-Some.ensures c.requires.1
