use mathlib.Core.Path.{◌≡◌, refl}
use lib.Ieee.{round, of_bits}
use Rattle.std.specs.Prelude.{Ok, Err}
use Rattle.lists.specs.Table.{table}
use Rattle.rows.specs.Numbers.{decimal}
use Rattle.rows.specs.SaysLaws.{number_positive}
use Rattle.surge.specs.Lent.{replied}
use Rattle.surge.specs.Step.{step_out}
use Rattle.forcelog.specs.MeshT.{T, T_parameters}
use Rattle.forcelog.specs.Log.{stepped}
use Rattle.forcelog.proofs.LogLaws.{step_refused, step_gone}
use Rattle.forcelog.proofs.step.Goals as goal

pub returns-in-Ok : goal.returns-in-Ok
unfolding stepped T T_parameters decimal round of_bits table
returns-in-Ok c =
    let log = c.args.log.now in
    let e : step_out (replied log.clock (Ok c.in-Ok.clock)) c.step.new.next c.step.new.work c.step.new.sums ≡ stepped log c.args.forcing.now = c.in-Ok.ensures in
    rw c.later.ensures (step_gone c.args.lines log _ _ e refl)

pub returns-in-Err : goal.returns-in-Err
unfolding stepped T T_parameters decimal round of_bits table
returns-in-Err c =
    let log = c.args.log.now in
    let e : step_out (replied log.clock (Err c.in-Err.refusal)) c.step.new.next c.step.new.work c.step.new.sums ≡ stepped log c.args.forcing.now = c.in-Err.ensures in
    rw c.at_line.ensures (step_refused c.args.lines log _ _ e (number_positive c.in-Err.refusal.row))
