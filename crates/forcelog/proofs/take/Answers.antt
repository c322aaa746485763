use mathlib.Core.Path.{◌≡◌, refl, ◌∙◌}
use lib.Ieee.{of_bits}
use Rattle.std.specs.Prelude.{Err}
use Rattle.lists.specs.Table.{table}
use Rattle.rows.specs.Scan.{accepted}
use Rattle.rows.specs.Refusals.{answered}
use Rattle.rows.specs.SaysLaws.{number_positive}
use Rattle.forcings.specs.Forcings.{taken}
use Rattle.forcelog.specs.Log.{reading}
use Rattle.forcelog.proofs.LogLaws.{not_read, was_read}
use Rattle.forcelog.proofs.take.Goals as goal

pub returns-in-Ok : goal.returns-in-Ok
unfolding of_bits table
returns-in-Ok c =
    let log = c.args.log.now in
    let e : taken accepted c.read_forcing.new.room ≡ reading c.args.text.now log = c.in-Ok.ensures in
    c.step.ensures ∙ rw c.lines_in.ensures (was_read c.args.text.now log _ e refl)

pub returns-in-Err : goal.returns-in-Err
unfolding of_bits table
returns-in-Err c =
    let log = c.args.log.now in
    let e : taken (answered (Err c.in-Err.fault)) c.read_forcing.new.room ≡ reading c.args.text.now log = c.in-Err.ensures in
    rw (c.at_line.ensures, c.later.ensures) (not_read c.args.text.now log _ e (number_positive c.in-Err.fault.row))
