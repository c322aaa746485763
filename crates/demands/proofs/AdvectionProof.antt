-- #103 with the setting off: what a step reads says then that an advective term is left out, and all else follows.
use mathlib.Core.Path.{◌≡◌, refl, ◌∙◌}
use mathlib.Core.Bool.{false}
use mathlib.Core.List.{List}
use lib.Ieee.{Float}
use Rattle.quantities.specs.declared.Parameters.{Parameters}
use Rattle.quantities.specs.Operations.{less_if}
use Rattle.elevation.specs.Elevation.{Jx, Jy}
use Rattle.velocity.specs.Velocity.{Rx, Ry}
use Rattle.mesh.specs.Lent.{Mesh}
use Rattle.bounds.specs.Forcing.{elevation_of, winds_of}
use Rattle.passes.specs.Equations.{Given, next_state}
use Rattle.passes.specs.Row13.{row13}
use Rattle.passes.specs.Settle.{Rooms}
use Rattle.surge.specs.Lent.{Run, run, advanced}
use Rattle.surge.specs.Step.{given_of, advance, step_rows, steps_to, step_of}
use Rattle.demands.specs.Advection.{EarlierFormulas, without, step_without, OffGivesEarlier}

earlier_formulas : EarlierFormulas
unfolding Jx Jy Rx Ry
earlier_formulas = record { Jx_is = λ p m D. refl; Jy_is = λ p m D. refl; Rx_is = λ p x m. refl; Ry_is = λ p x m. refl }

off : (m : Mesh) (p : Parameters) (s : Run) (f : List Float) → p.advection ≡ false → given_of m p s f ≡ without (given_of m p s f)
off m p s f e = λ i. record { mesh = m; p = p; state = s.state; elevation = elevation_of f; winds = winds_of f; less = less_if (e i) }

off_step : (m : Mesh) (p : Parameters) (s : Run) (f : List Float) (rooms : Rooms) → p.advection ≡ false → step_of m p s f rooms ≡ step_without m p s f rooms
unfolding step_of step_without advance
off_step m p s f rooms e = λ i. let r : Given = off m p s f e i in steps_to m p s f rooms (run (next_state r) (advanced s.clock)) (step_rows m p s f rooms) (row13 r)

pub off_gives_earlier : OffGivesEarlier
off_gives_earlier = record {
  formulas = earlier_formulas;
  surge_step = λ κs a g x v met e. met ∙ off_step _ _ _ _ _ e;
  capi_surge_step = λ κs a g x v met e. met ∙ off_step _ _ _ _ _ e;
}
