-- Document 02, #103: "Off gives the earlier bits. One statement covers both settings; the setting is a fixed parameter in demand 3."
-- The contract of a step is one equation at both settings, and demands 2 and 3 are said of all parameters. Here: with the setting off, a step is the one
-- that leaves every advective term out, which is the earlier step, formula by formula; all else of it is the step's own definitions.
use Rattle.std.specs.Prelude.{◌≡◌, false, List, Float}
use Rattle.std.specs.Float.Ieee.{neg}
use Rattle.quantities.specs.declared.Parameters.{Parameters}
use Rattle.quantities.specs.declared.Push.{Push}
use Rattle.quantities.specs.Operations.{◌⊕◌, ◌⊖◌, ◌⊗◌, ◌⊘◌, Taking}
use Rattle.quantities.specs.Constants.{g, two}
use Rattle.triangle.specs.declared.Means.{Means}
use Rattle.elevation.specs.Elevation.{Jx, Jy}
use Rattle.velocity.specs.Velocity.{q, gx, gy, wx, wy, Rx, Ry}
use Rattle.mesh.specs.Lent.{Mesh}
use Rattle.passes.specs.Equations.{Given, next_state}
use Rattle.passes.specs.Row13.{row13}
use Rattle.passes.specs.Settle.{Rooms}
use Rattle.surge.specs.Lent.{Run, run, advanced}
use Rattle.surge.specs.Step.{StepOut, given_of, step_rows, steps_to}
use Rattle.demands.specs.CallContracts.{Stepping, SteppingC}

-- an advective term is left out
abbrev pub left_out : Taking
left_out = λ x term. x

-- ---- the formulas that #103 touched are then those of document 01, to the letter
pub record EarlierFormulas : Type 0 where
  -- "Jx = ((((f·Qy - (g·Sx)/(2·D)) + Wx) - K·Ub) + (Ub·Z)/dt) + tau·Qx"
  pub Jx_is : (p : Parameters) (m : Means) (D : Float)
      → Jx left_out p m D ≡ ((((p.f ⊗ m.qy ⊖ (g ⊗ m.sx) ⊘ (two ⊗ D)) ⊕ m.wx) ⊖ p.k ⊗ m.ub) ⊕ (m.ub ⊗ m.z) ⊘ p.dt) ⊕ p.tau ⊗ m.qx
  -- "Jy = (((((-f)·Qx - (g·Sy)/(2·D)) + Wy) - K·Vb) + (Vb·Z)/dt) + tau·Qy"
  pub Jy_is : (p : Parameters) (m : Means) (D : Float)
      → Jy left_out p m D ≡ (((((neg p.f) ⊗ m.qx ⊖ (g ⊗ m.sy) ⊘ (two ⊗ D)) ⊕ m.wy) ⊖ p.k ⊗ m.vb) ⊕ (m.vb ⊗ m.z) ⊘ p.dt) ⊕ p.tau ⊗ m.qy
  -- "Rx = ((m·U + q·V) - gx) + wx, Ry = ((m·V - q·U) - gy) + wy"
  pub Rx_is : (p : Parameters) (x : Push) (m : Float) → Rx p x left_out m ≡ ((m ⊗ x.u ⊕ q p x ⊗ x.v) ⊖ gx p x) ⊕ wx p x
  pub Ry_is : (p : Parameters) (x : Push) (m : Float) → Ry p x left_out m ≡ ((m ⊗ x.v ⊖ q p x ⊗ x.u) ⊖ gy p x) ⊕ wy p x

-- ---- the whole outcome of a step with these
abbrev pub without : Given → Given
without r = record { mesh = r.mesh; p = r.p; state = r.state; elevation = r.elevation; winds = r.winds; less = left_out }

unfoldable pub step_without : Mesh → Parameters → Run → List Float → Rooms → StepOut
step_without m p s f rooms =
    let r = without (given_of m p s f) in
    steps_to m p s f rooms (run (next_state r) (advanced s.clock)) (step_rows m p s f rooms) (row13 r)

-- with the setting off every outcome that meets the contract of a step, or of a step for C, is this one: answer, value, clock, next state and work room
pub record OffGivesEarlier : Type 0 where
  pub formulas : EarlierFormulas
  pub surge_step : Stepping (λ m p s f r o. p.advection ≡ false → o ≡ step_without m p s f r)
  pub capi_surge_step : SteppingC (λ m p s f r o. p.advection ≡ false → o ≡ step_without m p s f r)
