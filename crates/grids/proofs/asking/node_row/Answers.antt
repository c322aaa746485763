use Rattle.std.proofs.Common.{◌+◌, ◌∙◌}
use Rattle.rows.proofs.RefusalLaws.{went}
use Rattle.grids.specs.Grid.{node_line_rows}
use Rattle.grids.proofs.RowLaws.{no_line, line_stands, line_stopped, node_row}
use Rattle.grids.proofs.asking.node_row.Goals as goal

pub returns-in_default-clause-answer : goal.returns-in_default-clause-answer
unfolding node_line_rows
returns-in_default-clause-answer c = c.malformed.ensures ∙ no_line 29 (2 + c.args.i) _ c.in_default.ensures

pub returns-in_err-tested-clause-answer : goal.returns-in_err-tested-clause-answer
returns-in_err-tested-clause-answer c =
    line_stopped _ _ _ c.from_residual.ensures.1 c.in_err-tested.ensures ∙ node_row c.args.i c.in-Some.ensures c.requires

pub returns-in_err-tested-2-clause-answer : goal.returns-in_err-tested-2-clause-answer
returns-in_err-tested-2-clause-answer c =
    let said = rw (c.is_in_32.ensures, c.is_in_32-2.ensures) at c.in_err-tested-2.ensures in
    went c.in_ok-tested.ensures (line_stands _ _ c.from_residual-in_err-tested-2.ensures.1 said) ∙ node_row c.args.i c.in-Some.ensures c.requires

pub returns-clause-answer : goal.returns-clause-answer
returns-clause-answer c =
    let said = rw (c.is_in_32.ensures, c.is_in_32-2.ensures) at c.in_ok-tested-2.ensures in
    went c.in_ok-tested.ensures said ∙ node_row c.args.i c.in-Some.ensures c.requires
