use mathlib.Core.Path.{refl, ap, ◌∙◌}
use native.Mathlib.Omega.{arith}
use Rattle.rows.specs.SaysLaws.{number_positive}
use Rattle.surge.specs.Lent.{Reply}
use Rattle.surge.specs.Step.{step_out}
use Rattle.surge.proofs.ReplyLaws.{refused_reply}
use Rattle.surge.proofs.StepLaws.{step_refused, step_counts, step_accepted}
use Rattle.surge.proofs.step.Goals as goal

pub returns-in_err-settle : goal.returns-in_err-settle
returns-in_err-settle c =
    let new = c.settle.new in
    ap (λ (r : Reply). step_out r new.next new.work new.sums) (refused_reply _ _ _ c.from_residual.ensures.1)
    ∙ step_refused _ _ _ _ _ c.may_count-also.ensures c.in_err-settle.ensures (number_positive _)

pub advanced-requires : goal.advanced-requires
advanced-requires c = omega (arith, step_counts _ _ _ _ _ c.may_count-also.ensures c.in_ok-settle.ensures refl)

pub returns : goal.returns
returns c = step_accepted _ _ _ _ _ c.may_count-also.ensures c.in_ok-settle.ensures refl c.advanced.ensures
