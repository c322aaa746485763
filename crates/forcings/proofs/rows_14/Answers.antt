use Prim.Native.Nat.{◌≤◌}
use native.Mathlib.Omega.{arith}
use lib.ListN.{length}
use Rattle.std.proofs.Common.{rules}
use Rattle.rows.proofs.RefusalLaws.{stopped, went, accepts}
use Rattle.faults.specs.Faults.{line_fault}
use Rattle.forcings.specs.Forcings.{forcing_lines, forcing_length}
use Rattle.forcings.proofs.ForcingLaws.{all_there}
use Rattle.forcings.proofs.rows_14.Goals as goal
use Rattle.forcings.proofs.rows_14.Goals.{In_ok-scan}

pub returns-in_err-scan : goal.returns-in_err-scan
returns-in_err-scan c =
    stopped _ _ _ c.from_residual.ensures.1 (c.in_err-scan.ensures (line_fault forcing_lines c.args.text.now) (λ i r l p. search rules))

pub returns : goal.returns
returns c = went (c.in_ok-scan.ensures (line_fault forcing_lines c.args.text.now) (λ i r l p. search rules)) c.tested.ensures

there : (c : In_ok-scan) → forcing_length c.args.n ≤ length c.args.text.now
there c = all_there c.args.n c.args.text.now (accepts (c.in_ok-scan.ensures (line_fault forcing_lines c.args.text.now) (λ i r l p. search rules)))

pub overflow_mul-n : goal.overflow_mul-n
overflow_mul-n c = omega (arith, there (goal.at.overflow_mul-n c).In_ok-scan)

pub overflow_add-n-2 : goal.overflow_add-n-2
overflow_add-n-2 c = omega (arith, there (goal.at.overflow_add-n-2 c).In_ok-scan)
