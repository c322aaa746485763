-- Document 02, #102: "Demands 2 and 3 read the corrected rule; with K = 0 all bits stay as they were."
-- A step with the m that document 01 had, which is kept for this statement alone; all else of it is the step's own definitions.
use Rattle.std.specs.Prelude.{ℕ, ◌≡◌, List, Float}
use Rattle.quantities.specs.declared.Parameters.{Parameters}
use Rattle.quantities.specs.declared.Push.{Push}
use Rattle.quantities.specs.declared.Flow.{Flow}
use Rattle.quantities.specs.Operations.{◌⊖◌}
use Rattle.quantities.specs.Constants.{one, IsZero}
use Rattle.velocity.specs.Velocity.{r, flow_by, of_kind}
use Rattle.mesh.specs.Lent.{Mesh}
use Rattle.passes.specs.Equations.{Given, kind_of, push_at, next_by}
use Rattle.passes.specs.Row13.{row13_by}
use Rattle.passes.specs.Settle.{Rooms}
use Rattle.surge.specs.Lent.{Run, run, advanced}
use Rattle.surge.specs.Step.{StepOut, given_of, step_rows, steps_to}
use Rattle.demands.specs.CallContracts.{Stepping, SteppingC}

-- document 01: "r = (dt·K)/(2·H'), … m = 1-r"
unfoldable pub earlier_m : Parameters → Push → Float
earlier_m p x = one ⊖ r p x

-- U' and V' of node i with it
abbrev pub earlier_flow : Given → ℕ → Flow
earlier_flow g i = of_kind (kind_of g i) (flow_by g.p (push_at g i) g.less (earlier_m g.p (push_at g i)))

-- the whole outcome of a step with these
unfoldable pub earlier_step : Mesh → Parameters → Run → List Float → Rooms → StepOut
earlier_step m p s f rooms =
    let g = given_of m p s f in
    steps_to m p s f rooms (run (next_by g (earlier_flow g)) (advanced s.clock)) (step_rows m p s f rooms) (row13_by g (earlier_flow g))

-- with K = +0 or -0 every outcome that meets the contract of a step, or of a step for C, is the earlier one: answer, value, clock, next state and work room
pub record SameAtZeroFriction : Type 0 where
  pub surge_step : Stepping (λ m p s f r o. IsZero p.k → o ≡ earlier_step m p s f r)
  pub capi_surge_step : SteppingC (λ m p s f r o. IsZero p.k → o ≡ earlier_step m p s f r)
