use Rattle.passes.proofs.elevations.means_at.Goals as goal

pub returns : goal.returns
returns c =
    rw (
      c.means_of.ensures,
      c.node_of-n3.ensures,
      c.node_of-n2.ensures,
      c.node_of-n1.ensures,
    )
