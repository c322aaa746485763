use Prim.Native.Nat.{◌+◌}
use mathlib.Core.Path.{refl}
use native.Mathlib.Omega.{arith}
use borrow.Author.Tests.{ne_eqb}
use lib.ListN.{length}
use Rattle.faults.specs.Faults.{is_framed}
use Rattle.faults.proofs.is_framed.Goals as goal

pub returns-then-line-due : goal.returns-then-line-due
unfolding is_framed
returns-then-line-due c = rw (ne_eqb (length c.args.line.now) (c.args.due + 1) (λ e. omega arith))

pub returns : goal.returns
unfolding is_framed
returns c = refl
