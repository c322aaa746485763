use Rattle.rows.proofs.RefusalLaws.{stopped, went}
use Rattle.frames.specs.Reading.{tallied}
use Rattle.faults.specs.Faults.{row20, row21, row22, fault}
use Rattle.faults.proofs.fault.Goals as goal

pub returns-in_err-tested : goal.returns-in_err-tested
unfolding tallied fault row20
returns-in_err-tested c =
    stopped _ _ _ c.from_residual.ensures.1 (rw (c.is_framed.ensures, c.tallied-tally.ensures) at c.in_err-tested.ensures)

pub returns-in_err-tested-2 : goal.returns-in_err-tested-2
unfolding tallied fault row20 row21
returns-in_err-tested-2 c =
    went (rw (c.is_framed.ensures, c.tallied-tally.ensures) at c.in_ok-tested.ensures)
    (stopped _ _ _ c.from_residual-in_err-tested-2.ensures.1 (rw c.tallied-tally.ensures at c.in_err-tested-2.ensures))

pub returns : goal.returns
unfolding tallied fault row20 row21 row22
returns c =
    went (rw (c.is_framed.ensures, c.tallied-tally.ensures) at c.in_ok-tested.ensures)
    (went (rw c.tallied-tally.ensures at c.in_ok-tested-2.ensures) (rw (c.value.ensures, c.value-2.ensures) at c.tested-3.ensures))
