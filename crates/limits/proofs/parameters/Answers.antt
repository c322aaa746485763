use lib.Ieee.{of_bits, neg, round}
use Rattle.rows.specs.Numbers.{decimal, minus}
use Rattle.rows.proofs.RefusalLaws.{stopped, went}
use Rattle.limits.specs.Limits.{row9}
use Rattle.limits.proofs.parameters.Goals as goal

pub returns-in_err-limit : goal.returns-in_err-limit
unfolding row9 decimal minus round of_bits neg
returns-in_err-limit c = stopped _ _ _ c.from_residual.ensures.1 c.in_err-limit.ensures

pub returns-in_err-limit-2 : goal.returns-in_err-limit-2
unfolding row9 decimal minus round of_bits neg
returns-in_err-limit-2 c = went c.in_ok-limit.ensures (stopped _ _ _ c.from_residual-in_err-limit-2.ensures.1 c.in_err-limit-2.ensures)

pub returns-in_err-limit-3 : goal.returns-in_err-limit-3
unfolding row9 decimal minus round of_bits neg
returns-in_err-limit-3 c =
    went c.in_ok-limit.ensures (went c.in_ok-limit-2.ensures (stopped _ _ _ c.from_residual-in_err-limit-3.ensures.1 c.in_err-limit-3.ensures))

pub returns : goal.returns
unfolding row9 decimal minus round of_bits neg
returns c = went c.in_ok-limit.ensures (went c.in_ok-limit-2.ensures (went c.in_ok-limit-3.ensures c.limit-4.ensures))
