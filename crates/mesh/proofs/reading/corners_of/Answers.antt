use borrow.Author.Tests.{lt-ltb, le-ltb}
use Rattle.mesh.specs.Lent.{corners_at}
use Rattle.mesh.proofs.reading.corners_of.Goals as goal

pub returns-then-t-tri : goal.returns-then-t-tri
unfolding corners_at
returns-then-t-tri c =
    rw (c.node_at.ensures, c.node_at-then-t-tri.ensures, c.node_at-then-t-tri-2.ensures, lt-ltb _ _ c.if-t-tri.true)

pub returns-else-t-tri : goal.returns-else-t-tri
unfolding corners_at
returns-else-t-tri c = rw (le-ltb _ _ c.if-t-tri.false)
