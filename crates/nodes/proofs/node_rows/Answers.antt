use Rattle.rows.proofs.RefusalLaws.{stopped, went}
use Rattle.nodes.specs.Rows.{node_rows}
use Rattle.nodes.proofs.node_rows.Goals as goal

pub returns-in_err-named : goal.returns-in_err-named
unfolding node_rows
returns-in_err-named c = stopped _ _ _ c.from_residual.ensures.1 c.in_err-named.ensures

pub returns-in_err-depths : goal.returns-in_err-depths
unfolding node_rows
returns-in_err-depths c = went c.in_ok-named.ensures (stopped _ _ _ c.from_residual-in_err-depths.ensures.1 c.in_err-depths.ensures)

pub returns : goal.returns
unfolding node_rows
returns c = went c.in_ok-named.ensures (went c.in_ok-depths.ensures c.parameters.ensures)
