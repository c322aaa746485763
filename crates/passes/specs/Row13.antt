-- Document 01, "Refusal table": row 13 over a mesh.
use Rattle.std.specs.Prelude.{ℕ}
use Rattle.rows.specs.declared.Answer.{Answer}
use Rattle.rows.specs.Scan.{◌then◌, scan}
use Rattle.quantities.specs.declared.Flow.{Flow}
use Rattle.outcomes.specs.Outcomes.{rise_row, flow_row}
use Rattle.passes.specs.Equations.{Given, count, node, rise, flow_at}

-- "then 13: all z' first (node by node, size, then H'), then, node by node, U' before V'."
module _ (g : Given) where
  abbrev pub rise_rows : Answer
  rise_rows = scan (λ i. rise_row (node g i).h (rise g i) i) (count g)

  -- with U' and V' of each node
  abbrev pub flow_rows_by : (ℕ → Flow) → Answer
  flow_rows_by flows = scan (λ i. flow_row (flows i) i) (count g)

  abbrev pub flow_rows : Answer
  flow_rows = flow_rows_by (flow_at g)

  abbrev pub row13_by : (ℕ → Flow) → Answer
  row13_by flows = rise_rows then flow_rows_by flows

  unfoldable pub row13 : Answer
  row13 = row13_by (flow_at g)
