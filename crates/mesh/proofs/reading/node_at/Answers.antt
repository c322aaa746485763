use native.Mathlib.Omega.{arith}
use Rattle.mesh.proofs.reading.node_at.Goals as goal

pub overflow_cast-result : goal.overflow_cast-result
overflow_cast-result c = omega (arith, c.type_inv.tri c.args.at)
