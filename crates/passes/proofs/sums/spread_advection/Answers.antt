use Prim.Native.Nat.{◌*◌}
use mathlib.Core.Path.{ap, ◌∙◌}
use lib.Dec.{lit<}
use lib.Ieee.{Float, nan}
use Rattle.lists.specs.Gather.{Three}
use Rattle.lists.specs.Private.{past, spread}
use Rattle.triangle.specs.declared.Advection.{Advection}
use Rattle.geometry.specs.Geometry.{nodes_of}
use Rattle.passes.specs.Equations.{floating}
use Rattle.passes.specs.Settle.{work_runs}
use Rattle.passes.specs.Private.{spread_both}
use Rattle.passes.proofs.PassLaws.{in_run_lem}
use Rattle.passes.proofs.sums.spread_advection.Goals as goal

pub spread-requires : goal.spread-requires
spread-requires c =
    rw c.requires.1 (in_run_lem 3 work_runs (lit< tt) c.requires.0)

pub spread-requires-then-on : goal.spread-requires-then-on
spread-requires-then-on c =
    rw (c.spread.auto.work ∙ c.requires.1) (in_run_lem 4 work_runs (lit< tt) c.requires.0)

pub returns-then-on : goal.returns-then-on
unfolding spread_both
returns-then-on c =
    let x = c.args in
    let at = nodes_of x.c in
    let n = x.n in
    c.spread-then-on.ensures
    ∙ (λ i. spread floating nan (past (4 * n) at) (c.alike-then-on.ensures i) ((c.spread.ensures ∙ ap (λ (v : Three Float). spread floating nan (past (3 * n) at) v x.work.now) c.alike.ensures) i))
    ∙ rw c.if-on.true (ap (λ (k : Advection). spread_both n at k x.work.now) c.advection_of-a.ensures)

pub returns-else-on : goal.returns-else-on
returns-else-on c = rw c.if-on.false
