use mathlib.Core.Path.{◌∙◌}
use mathlib.Core.Bool.{◌&&◌}
use Rattle.rows.specs.Scan.{row}
use Rattle.passes.proofs.rooms_row.Goals as goal

pub returns : goal.returns
returns c =
    c.tested.ensures ∙ (λ i. row (c.is_runs.ensures i && c.is_runs-2.ensures i && c.is_runs-3.ensures i) 1 0)
