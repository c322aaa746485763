-- Document 02, #101: "Demands 2 and 3 stand over the mesh so read. A refused reading leaves the lent rooms untouched."
-- Demands 1 and 2 of the reading itself, as demands/specs has them of the calls on a run; and what a run is on the mesh that was read.
use Rattle.std.specs.Prelude.{ℕ, ◌≡◌, true, List, Float}
use Rattle.rows.specs.Refusals.{answered}
use Rattle.quantities.specs.declared.Parameters.{Parameters}
use Rattle.mesh.specs.Lent.{Mesh}
use Rattle.surge.specs.Lent.{Run, run}
use Rattle.surge.specs.Open.{open_of}
use Rattle.surge.specs.Step.{step_of}
use Rattle.passes.specs.Settle.{Rooms}
use Rattle.grids.specs.Grid.{Grid, grid, grid_answer, grid_of, with_kinds, grid_mesh, ReadOut, read_out, read_of}
use Rattle.capi.specs.Numbers as C
use Rattle.loads.specs.Storable.{StorableParameters}
use Rattle.history.specs.History.{Demand3}
use Rattle.demands.specs.Ensured.{says, 𝓛₀, mem₀, run₀}
use Rattle.demands.specs.CallContracts.{Keeps}
use Rattle.demands.specs.Demand1.{Accepts, Refuses}
use Rattle.demands.specs.Demand3.{accepts, surge}
use Rattle.grids.specs.contracts.read_grid as read_grid_contract
use Rattle.capi.specs.contracts.surge_read_grid as surge_read_grid_contract

-- ---- what a reading leaves, read off its own contract: of the rooms as they were lent, the text, and what is left

-- read_grid(x, y, h, tri, text)
abbrev pub ReadingGrid : (Grid → List ℕ → ReadOut → Type 0) → Type 0
ReadingGrid Says =
    Keeps read_grid_contract.ended (read_grid_contract.clauses 𝓛₀ mem₀ run₀) (λ κs a g x s. says _)
    (λ κs (x, (y, (h, (tri, (text, _))))) result left.
    Says (grid x.now y.now h.now tri.now) text.now (read_out (answered result) (grid left.0 left.1.0 left.1.1.0 left.1.1.1.0)))

-- surge_read_grid(x, y, h, tri, place, value, text)
abbrev pub ReadingGridC : (Grid → List ℕ → ReadOut → Type 0) → Type 0
ReadingGridC Says =
    Keeps surge_read_grid_contract.ended (surge_read_grid_contract.clauses 𝓛₀ mem₀ run₀) (λ κs a g x s. says _)
    (λ κs (x, (y, (h, (tri, (_, (_, (text, _))))))) number (x', (y', (h', (tri', (place, (value, _)))))).
    Says (grid x.now y.now h.now tri.now) text.now (read_out (C.answer number place value) (grid x' y' h' tri')))

-- ---- demand 1: the answer is the table's; an accepted reading leaves the grid of the text, a refused one the rooms as found
pub record GridSays (r : Grid) (t : List ℕ) (o : ReadOut) : Type 0 where
  pub answer : o.answer ≡ grid_answer r t
  pub accepted : Accepts o.answer → o.rooms ≡ grid_of t
  pub refused : Refuses o.answer → o.rooms ≡ r

-- ---- and demand 2: what is left is the definition's, on all inputs
pub record GridDemands : Type 0 where
  pub grids_read_grid : ReadingGrid GridSays
  pub capi_surge_read_grid : ReadingGridC GridSays
  pub grids_read_grid_is : ReadingGrid (λ r t o. o ≡ read_of r t)
  pub capi_surge_read_grid_is : ReadingGridC (λ r t o. o ≡ read_of r t)

-- ---- "Demands 2 and 3 stand over the mesh so read."
-- the mesh that a program holds after a reading: the rooms as they were left, beside the kinds lent
abbrev pub mesh_left : ReadOut → List ℕ → Mesh
mesh_left o kind = with_kinds o.rooms kind

pub record OnTheMesh (t kind : List ℕ) (p : Parameters) (m : Mesh) : Type 0 where
  pub of_the_text : m ≡ grid_mesh t kind
  -- demand 2: a step on it is the step on the mesh of the text
  pub steps : (s : Run) (f : List Float) (rooms : Rooms) → step_of m p s f rooms ≡ step_of (grid_mesh t kind) p s f rooms
  -- demand 3, from the cold start that opening it hands back
  pub cold : (state : List Float) → accepts (open_of m p state).reply.answer ≡ true
      → run (open_of m p state).state (open_of m p state).reply.clock ≡ (surge (grid_mesh t kind) p).cold
  pub demand3 : StorableParameters p → Demand3 (surge (grid_mesh t kind) p)

abbrev pub RunsOnMeshesRead : Type 0
RunsOnMeshesRead = (r : Grid) (t kind : List ℕ) (p : Parameters) → Accepts (read_of r t).answer → OnTheMesh t kind p (mesh_left (read_of r t) kind)
