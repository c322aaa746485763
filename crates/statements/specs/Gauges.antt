-- Document 02, #106: demands 1 and 2 of the gauges' calls, as demands/specs has them of the calls on a run. What else is proved of them stands in boards/specs.
use Rattle.std.specs.Prelude.{ℕ, ◌≡◌, List}
use Rattle.rows.specs.Numbers.{plus0}
use Rattle.rows.specs.Scan.{◌then◌}
use Rattle.location.specs.declared.seeking.Point.{Point}
use Rattle.keeping.specs.Record.{count_in, point_in, mark_in, added, all_noted, row43}
use Rattle.keeping.specs.Keeping.{number_rows, AddOut, add_out, add_answer, UpdateOut, update_out}
use Rattle.looking.specs.Lent.{Lent, lent, lent_rows}
use Rattle.looking.specs.Looking.{is_on, triangle_at, level_at}
use Rattle.gauges.specs.Calls.{parameters, answer, point, given, mark, Located, located, locate_answer, locate_of, add_of, Measured, measured, elevation_answer, elevation_of, all_on, update_of, Peaked, peaked, peak_of}
use Rattle.demands.specs.Ensured.{says, 𝓛₀, mem₀, run₀}
use Rattle.demands.specs.CallContracts.{Keeps}
use Rattle.demands.specs.Demand1.{Accepts, Refuses}
use Rattle.gauges.specs.contracts.gauge_locate as gauge_locate_contract
use Rattle.gauges.specs.contracts.gauge_add as gauge_add_contract
use Rattle.gauges.specs.contracts.gauge_elevation as gauge_elevation_contract
use Rattle.gauges.specs.contracts.gauge_update as gauge_update_contract
use Rattle.gauges.specs.contracts.gauge_peak as gauge_peak_contract

-- ---- what a call leaves, read off its own contract: of what is lent, the record as it was, the point, the gauge or the step number, and what comes back

-- gauge_locate(triangle, place, value, state, x, y, tri, h, kind, dt, tau, k, f, px, py)
abbrev pub Locating : (Lent → Point → Located → Type 0) → Type 0
Locating Says =
    Keeps gauge_locate_contract.ended (gauge_locate_contract.clauses 𝓛₀ mem₀ run₀) (λ κs a g x s. says _)
    (λ κs (_, (_, (_, (state, (x, (y, (tri, (h, (kind, (dt, (tau, (k, (f, (px, (py, _))))))))))))))) number (triangle, (place, (value, _))).
    Says (lent state.now x.now y.now tri.now h.now kind.now (parameters dt tau k f)) (point px py) (located (answer number place value) triangle))

-- gauge_add(record, gauge, place, value, state, .., f, px, py)
abbrev pub Adding : (Lent → List ℕ → Point → AddOut → Type 0) → Type 0
Adding Says =
    Keeps gauge_add_contract.ended (gauge_add_contract.clauses 𝓛₀ mem₀ run₀) (λ κs a g x s. says _)
    (λ κs (r, (_, (_, (_, (state, (x, (y, (tri, (h, (kind, (dt, (tau, (k, (f, (px, (py, _)))))))))))))))) number (r', (gauge, (place, (value, _)))).
    Says (lent state.now x.now y.now tri.now h.now kind.now (parameters dt tau k f)) r.now (point px py)
    (add_out (given (answer number place value) gauge) r'))

-- gauge_elevation(elevation, place, value, record, state, .., f, gauge)
abbrev pub Measuring : (Lent → List ℕ → ℕ → Measured → Type 0) → Type 0
Measuring Says =
    Keeps gauge_elevation_contract.ended (gauge_elevation_contract.clauses 𝓛₀ mem₀ run₀) (λ κs a g x s. says _)
    (λ κs (_, (_, (_, (r, (state, (x, (y, (tri, (h, (kind, (dt, (tau, (k, (f, (gauge, _))))))))))))))) number (elevation, (place, (value, _))).
    Says (lent state.now x.now y.now tri.now h.now kind.now (parameters dt tau k f)) r.now gauge
    (measured (answer number place value) elevation))

-- gauge_update(record, place, value, state, .., f, step)
abbrev pub Updating : (Lent → List ℕ → ℕ → UpdateOut → Type 0) → Type 0
Updating Says =
    Keeps gauge_update_contract.ended (gauge_update_contract.clauses 𝓛₀ mem₀ run₀) (λ κs a g x s. says _)
    (λ κs (r, (_, (_, (state, (x, (y, (tri, (h, (kind, (dt, (tau, (k, (f, (step, _)))))))))))))) number (r', (place, (value, _))).
    Says (lent state.now x.now y.now tri.now h.now kind.now (parameters dt tau k f)) r.now step
    (update_out (answer number place value) r'))

-- gauge_peak(seen, peak, step, place, value, record, gauge)
abbrev pub Peaking : (List ℕ → ℕ → Peaked → Type 0) → Type 0
Peaking Says =
    Keeps gauge_peak_contract.ended (gauge_peak_contract.clauses 𝓛₀ mem₀ run₀) (λ κs a g x s. says _)
    (λ κs (_, (_, (_, (_, (_, (r, (gauge, _))))))) number (seen, (peak, (step, (place, (value, _))))).
    Says r.now gauge (peaked (answer number place value) (mark seen peak step)))

-- ---- demand 1: the answer is the table's; what an accepted call finds and leaves; a refused one finds 0 and +0 and leaves the record as found
pub record LocateSays (b : Lent) (q : Point) (o : Located) : Type 0 where
  pub answer : o.answer ≡ locate_answer b q
  pub accepted : Accepts o.answer → o.triangle ≡ triangle_at b q
  pub refused : Refuses o.answer → o.triangle ≡ 0

pub record AddSays (b : Lent) (r : List ℕ) (q : Point) (o : AddOut) : Type 0 where
  pub answer : o.given.answer ≡ add_answer (lent_rows b) (is_on b q) r
  pub accepted : Accepts o.given.answer → (o.given.gauge ≡ count_in r) × (o.left ≡ added q r)
  pub refused : Refuses o.given.answer → (o.given.gauge ≡ 0) × (o.left ≡ r)

pub record MeasureSays (b : Lent) (r : List ℕ) (g : ℕ) (o : Measured) : Type 0 where
  pub answer : o.answer ≡ elevation_answer b r g
  pub accepted : Accepts o.answer → o.level ≡ level_at b (point_in r g)
  pub refused : Refuses o.answer → o.level ≡ plus0

pub record UpdateSays (b : Lent) (r : List ℕ) (step : ℕ) (o : UpdateOut) : Type 0 where
  pub answer : o.answer ≡ (lent_rows b then row43 r then all_on b r)
  pub accepted : Accepts o.answer → o.left ≡ all_noted (λ g. level_at b (point_in r g)) step (count_in r) r
  pub refused : Refuses o.answer → o.left ≡ r

pub record PeakSays (r : List ℕ) (g : ℕ) (o : Peaked) : Type 0 where
  pub answer : o.answer ≡ number_rows r g
  pub accepted : Accepts o.answer → o.mark ≡ mark_in r g
  pub refused : Refuses o.answer → o.mark ≡ mark 0 plus0 0

-- ---- and demand 2: what is left is the definition's, on all inputs
pub record GaugeDemands : Type 0 where
  pub gauges_gauge_locate : Locating LocateSays
  pub gauges_gauge_add : Adding AddSays
  pub gauges_gauge_elevation : Measuring MeasureSays
  pub gauges_gauge_update : Updating UpdateSays
  pub gauges_gauge_peak : Peaking PeakSays
  pub gauges_gauge_locate_is : Locating (λ b q o. o ≡ locate_of b q)
  pub gauges_gauge_add_is : Adding (λ b r q o. o ≡ add_of b r q)
  pub gauges_gauge_elevation_is : Measuring (λ b r g o. o ≡ elevation_of b r g)
  pub gauges_gauge_update_is : Updating (λ b r step o. o ≡ update_of b r step)
  pub gauges_gauge_peak_is : Peaking (λ r g o. o ≡ peak_of r g)
