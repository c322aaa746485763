-- What the passes of a step ask and give, for the contracts of the private functions that make them. No public contract cites it.
use Rattle.std.specs.Prelude.{ℕ, zero as none, suc, ◌+◌, ◌*◌, ◌≡◌, cond, List, [], ◌∷◌, eqb, length, Float}
use Rattle.std.specs.Float.{nan}
use Rattle.rows.specs.declared.Answer.{Answer}
use Rattle.rows.specs.Numbers.{plus0}
use Rattle.rows.specs.Scan.{accepted, ◌then◌}
use Rattle.lists.specs.Runs.{in_run, runs_of}
use Rattle.lists.specs.Gather.{Three, alike}
use Rattle.lists.specs.Private.{with_run, past, spread}
use Rattle.quantities.specs.declared.Parameters.{Parameters}
use Rattle.quantities.specs.declared.Sides.{Sides}
use Rattle.quantities.specs.Operations.{◌⊕◌, less_if}
use Rattle.triangle.specs.declared.Advection.{Advection}
use Rattle.triangle.specs.Triangle.{slope}
use Rattle.limits.specs.Limits.{row11}
use Rattle.mesh.specs.Lent.{Mesh, N, mesh_of}
use Rattle.mesh.specs.Private.{Shaped}
use Rattle.bounds.specs.State.{state_runs}
use Rattle.bounds.specs.Forcing.{elevation_of, winds_of, row12}
use Rattle.passes.specs.declared.state.Given as lent
use Rattle.passes.specs.declared.velocities.Slope.{Slope}
use Rattle.passes.specs.Equations.{Given, given, floating, count, R, rise, Px, Py, Au, Av, U', V', next_state}
use Rattle.passes.specs.Row13.{row13}

-- what a step reads, of the slices that hold it
abbrev pub given_of : lent.Given → Given
given_of g = given (mesh_of g.mesh) g.p g.state.now g.elevation g.winds.now

-- what holds after the tests that come before anything is worked out
pub record Fits (g : Given) : Type 0 where
  pub shape : Shaped g.mesh
  pub state : length g.state ≡ state_runs * count g
  pub setting : g.less ≡ less_if g.p.advection

-- ---- the work room: before the first pass, and after each
abbrev pub zero : ℕ → Float
zero _ = plus0

module _ (g : Given) where
  -- a sum that is formed only where advection is on, and the runs of Au and Av
  abbrev pub if_on : (ℕ → Float) → ℕ → Float
  if_on sum = cond g.p.advection sum zero

  abbrev pub advected : List (ℕ → Float)
  advected = if_on (Au g) ∷ if_on (Av g) ∷ []

  abbrev pub clear_room : List Float
  clear_room = runs_of (count g) (zero ∷ zero ∷ zero ∷ zero ∷ zero ∷ [])

  abbrev pub sum_room : List Float
  sum_room = runs_of (count g) (R g ∷ zero ∷ zero ∷ advected)

  abbrev pub rise_room : List Float
  rise_room = runs_of (count g) (rise g ∷ zero ∷ zero ∷ advected)

  abbrev pub slope_room : List Float
  slope_room = runs_of (count g) (rise g ∷ Px g ∷ Py g ∷ advected)

  abbrev pub flow_room : List Float
  flow_room = runs_of (count g) (rise g ∷ U' g ∷ V' g ∷ advected)

-- ---- the next state, where the runs past the first are written: z', U' and V' of the work room, and the new winds
abbrev pub with_new : ℕ → List Float → List Float → List Float → List Float
with_new n work winds next =
    with_run n 5 (in_run n 1 winds) (with_run n 4 (in_run n 0 winds) (with_run n 3 (in_run n 2 work) (with_run n 2 (in_run n 1 work) (with_run n 1 (in_run n 0 work) next))))

-- ---- further steps of a list
-- what is left of the answer, the count of accepted steps and the next slice
pub record Onward : Type 0 where
  pub answer : Answer
  pub accepted : ℕ
  pub next : List Float

abbrev pub onward_of : Answer → ℕ → List Float → Onward
onward_of a k next = record { answer = a; accepted = k; next = next }

module _ (m : Mesh) (p : Parameters) where
  abbrev pub of_forcing : List Float → List Float → Given
  of_forcing f state = given m p state (elevation_of f) (winds_of f)

  -- what a step after an accepted one asks
  unfoldable pub later_rows : ℕ → List Float → List Float → Answer
  later_rows step f state = (row11 step then row12 (N m) f) then row13 (of_forcing f state)

  -- k forcings more, of which f j is the first, from a state after j accepted steps
  unfoldable pub onward : ℕ → (ℕ → List Float) → ℕ → ℕ → List Float → Onward
  onward from f none j state = onward_of accepted j state
  onward from f (suc k) j state =
      let a = later_rows (from + j) (f j) state in
      cond (eqb a.number 0) (onward from f k (j + 1) (next_state (of_forcing (f j) state))) (onward_of a j state)

-- ---- what a triangle with these corners and sides adds to Px and to Py, with z in the state and z' in the work room
abbrev pub both_of : ℕ → List Float → List Float → ℕ → Float
both_of n state work i = in_run n 1 state i ⊕ in_run n 0 work i

unfoldable pub slope_of : ℕ → List Float → List Float → Three ℕ → Sides → Slope
slope_of n state work c s =
    let b1 = both_of n state work c.first in
    let b2 = both_of n state work c.second in
    let b3 = both_of n state work c.third in
    record { x = slope b1 b2 b3 s.b1 s.b2 s.b3; y = slope b1 b2 b3 s.a1 s.a2 s.a3 }

-- ---- what a triangle with these corners adds to Au and to Av, in the fourth and the fifth run
unfoldable pub spread_both : ℕ → Three ℕ → Advection → List Float → List Float
spread_both n c a work = spread floating nan (past (4 * n) c) (alike a.v) (spread floating nan (past (3 * n) c) (alike a.u) work)
