use native.Mathlib.Omega.{arith}
use Rattle.forcelog.proofs.SavableLaws.{cold_savable, taken_on}
use Rattle.printing.proofs.main.Goals as goal

pub loop-n-init : goal.loop-n-init
loop-n-init c = rw c.cold-log.ensures cold_savable

pub loop-n-smaller : goal.loop-n-smaller
loop-n-smaller c =
    let t = taken_on _ _ c.in-Ok-take.next c.loop-n.invariant c.in-Ok-take.ensures in
    omega (arith, t.0, t.1.steps)

pub loop-n-preserved : goal.loop-n-preserved
loop-n-preserved c =
    (taken_on _ _ c.in-Ok-take.next c.loop-n.invariant c.in-Ok-take.ensures).1
