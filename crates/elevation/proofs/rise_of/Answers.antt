use borrow.Author.Tests.{eq-eqb, ne_eqb}
use Rattle.triangle.specs.Triangle.{z*}
use Rattle.elevation.specs.Elevation.{rise_of}
use Rattle.elevation.proofs.rise_of.Goals as goal

pub returns-then-kind-eq1 : goal.returns-then-kind-eq1
unfolding rise_of
returns-then-kind-eq1 c = rw (eq-eqb _ _ c.if-kind-eq1.true)

pub returns-else-kind-eq1 : goal.returns-else-kind-eq1
unfolding rise_of z*
returns-else-kind-eq1 c = rw (c.rise-rise.ensures, c.lumped.ensures, ne_eqb _ _ c.if-kind-eq1.false)
