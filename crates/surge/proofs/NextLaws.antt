-- A run that can be saved stays one: where a step accepts, what it leaves passes row 10, as the next step and a save ask them.
use mathlib.Core.Path.{◌≡◌}
use mathlib.Core.List.{List}
use lib.Ieee.{Float}
use Rattle.rows.specs.Scan.{accepted}
use Rattle.quantities.specs.declared.Parameters.{Parameters}
use Rattle.mesh.specs.Lent.{Mesh}
use Rattle.nodes.specs.Rows.{mesh_rows}
use Rattle.bounds.specs.State.{run_rows}
use Rattle.bounds.proofs.ForcingLaws.{accepted_forced}
use Rattle.passes.specs.Row13.{row13}
use Rattle.passes.specs.Settle.{Rooms}
use Rattle.passes.proofs.NextLaws.{settled_rows}
use Rattle.surge.specs.Lent.{Run}
use Rattle.surge.specs.Step.{given_of, advance, step_rows}

module _ (m : Mesh) (p : Parameters) (s : Run) (f : List Float) (r : Rooms) (first : (step_rows m p s f r).number ≡ 0) where
  pub step_mesh : (mesh_rows accepted m p).number ≡ 0
  unfolding step_rows
  step_mesh = (accepted_forced _ _ _ _ _ _ first).run.mesh

  pub next_rows : (row13 (given_of m p s f)).number ≡ 0 → (run_rows accepted m p (advance m p s f).state).number ≡ 0
  unfolding step_rows advance
  next_rows = settled_rows _ m p s.state _ f first
