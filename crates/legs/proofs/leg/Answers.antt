use mathlib.Core.Path.{◌≡◌}
use native.Mathlib.Omega.{arith}
use Rattle.legs.proofs.leg.Goals as goal

pub returns-then-j-eq0 : goal.returns-then-j-eq0
returns-then-j-eq0 c = rw c.if-j-eq0.true

pub returns-then-j-eq1 : goal.returns-then-j-eq1
returns-then-j-eq1 c = rw c.if-j-eq1.true

pub returns : goal.returns
returns c = let last : c.args.j ≡ 2 = omega arith in rw last
