use Prim.Native.Nat.{◌+◌, ◌*◌}
use mathlib.Core.Path.{sym, ◌∙◌}
use native.Mathlib.Omega.{arith}
use borrow.Author.Tests.{ne_eqb}
use lib.ListN.{length}
use Rattle.bounds.specs.Forcing.{wind_runs}
use Rattle.bounds.proofs.ForcingLaws.{less_one}
use Rattle.bounds.proofs.forcing.is_forcing.Goals as goal

pub returns-then-f-eq0 : goal.returns-then-f-eq0
returns-then-f-eq0 c =
    let a = c.args in
    sym (ne_eqb (length a.f.now) (1 + wind_runs * a.n) (λ e. absurd (omega (arith, e, c.if-f-eq0.true))))

pub returns : goal.returns
returns c = c.is_runs.ensures ∙ less_one _ _ c.if-f-eq0.false
