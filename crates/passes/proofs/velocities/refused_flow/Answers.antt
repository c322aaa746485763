use mathlib.Core.Path.{◌≡◌, ◌∙◌}
use Rattle.std.proofs.Common.{rules}
use Rattle.rows.specs.Refusals.{answered}
use Rattle.rows.specs.Scan.{scan}
use Rattle.lists.specs.Runs.{in_run}
use Rattle.outcomes.specs.Outcomes.{flow_row}
use Rattle.passes.proofs.PassLaws.{flows_read}
use Rattle.passes.proofs.velocities.refused_flow.Goals as goal

pub returns : goal.returns
returns c =
    let a = c.args in
    let said : answered c.scan.result ≡ scan (λ i. flow_row (record { u = in_run a.n 1 a.work.now i; v = in_run a.n 2 a.work.now i }) i) a.n = search rules in record {
      value = said;
      of_a_step = λ g ew en. said ∙ flows_read g ew en;
    }
