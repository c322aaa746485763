use Rattle.rows.proofs.RefusalLaws.{stopped_by, made_by, turned_by, went, accepts}
use Rattle.nodes.specs.Rows.{open_rows}
use Rattle.nodes.proofs.PartLaws.{for_nodes}
use Rattle.nodes.proofs.open_rows.Goals as goal

pub returns-in_err-shape_rows : goal.returns-in_err-shape_rows
unfolding open_rows
returns-in_err-shape_rows g c = stopped_by g.met.E.Says.laws _ _ _ c.from_residual.ensures.1 c.in_err-shape_rows.ensures

pub returns-in_err-leg_rows : goal.returns-in_err-leg_rows
unfolding open_rows
returns-in_err-leg_rows g c =
    went c.in_ok-shape_rows.ensures (turned_by g.met.E.Says.laws _ _ _ c.from_residual-in_err-leg_rows.ensures.1 c.in_err-leg_rows.ensures)

pub returns-in_err-node_rows : goal.returns-in_err-node_rows
unfolding open_rows
returns-in_err-node_rows g c =
    went c.in_ok-shape_rows.ensures
    (went c.in_ok-leg_rows.ensures (made_by g.met.E.Says.laws _ _ c.from_residual-in_err-node_rows.ensures.1 c.in_err-node_rows.ensures))

pub returns : goal.returns
unfolding open_rows
returns g c = went c.in_ok-shape_rows.ensures (went c.in_ok-leg_rows.ensures c.in_ok-node_rows.ensures)

pub node_rows-requires : goal.node_rows-requires
node_rows-requires g c = let of = for_nodes _ _ (accepts c.in_ok-shape_rows.ensures) in record { n_bound = of.0; by_index = of.1 }
