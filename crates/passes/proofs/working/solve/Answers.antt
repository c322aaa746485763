use Rattle.std.proofs.Common.{rules}
use Rattle.rows.proofs.RefusalLaws.{stopped, went}
use Rattle.passes.specs.Row13.{row13}
use Rattle.passes.proofs.working.solve.Goals as goal

pub returns-in_err-rises : goal.returns-in_err-rises
unfolding row13
returns-in_err-rises c = (stopped _ _ _ c.from_residual.ensures.1 c.in_err-rises.ensures.0, λ e. absurd (search rules))

pub flows-requires : goal.flows-requires
flows-requires c = record { fits = c.requires.fits; work_value = (c.slopes.ensures, c.assemble.ensures.1, c.requires.work_len.2) }

pub returns : goal.returns
unfolding row13
returns c = (went c.in_ok-rises.ensures.0 c.flows.ensures.0, λ _. c.flows.ensures.1)

pub assemble-requires : goal.assemble-requires
assemble-requires c = record { fits = c.requires.fits; work_len = (c.requires.work_len.0, c.requires.work_len.1) }

pub rises-requires : goal.rises-requires
rises-requires c = record { fits = c.requires.fits; work_value = c.assemble.ensures }

pub slopes-requires : goal.slopes-requires
slopes-requires c = record { fits = c.requires.fits; work_value = c.in_ok-rises.ensures.1 }
