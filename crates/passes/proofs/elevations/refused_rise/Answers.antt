use mathlib.Core.Path.{◌≡◌, ◌∙◌}
use lib.ListN.{get_or}
use lib.Ieee.{nan}
use Rattle.std.proofs.Common.{rules}
use Rattle.rows.specs.Refusals.{answered}
use Rattle.rows.specs.Scan.{scan}
use Rattle.lists.specs.Runs.{in_run}
use Rattle.outcomes.specs.Outcomes.{rise_row}
use Rattle.passes.proofs.PassLaws.{rises_read}
use Rattle.passes.proofs.elevations.refused_rise.Goals as goal

pub returns : goal.returns
returns c =
    let a = c.args in
    let said : answered c.scan.result ≡ scan (λ i. rise_row (get_or a.h.now i nan) (in_run a.n 0 a.work.now i) i) a.n = search rules in record {
      value = said;
      of_a_step = λ g eh ew en. said ∙ rises_read g eh ew en;
    }
