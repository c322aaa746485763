use Rattle.passes.proofs.velocities.flow_at.Goals as goal

pub returns : goal.returns
returns c =
    rw (c.flow_of.ensures, c.sum_of-s.ensures, c.wind_at-new.ensures, c.node_of-c.ensures)
