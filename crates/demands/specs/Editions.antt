-- Document 02, #105, on saves of edition 1: "We read both editions and write 2; an edition 1 load gives every node the head's wind. An old build refuses a
-- head 04 with 20, by its length." What is said here is of what is loaded, and not of the steps after it: a run with one wind at every node does not keep
-- document 01's bits, since the mean of three equal winds is not always that wind.
use Rattle.std.specs.Prelude.{ℕ, ◌*◌, ◌^◌, ◌<◌, ◌≡◌, List, T, length, get_or, Float}
use Rattle.std.specs.Float.{nan, binary64}
use Rattle.std.specs.Float.Ieee.{fits}
use Rattle.rows.specs.Scan.{accepted, refused}
use Rattle.quantities.specs.declared.Parameters.{Parameters}
use Rattle.quantities.specs.declared.Wind.{Wind}
use Rattle.faults.specs.Faults.{line_fault}
use Rattle.surge.specs.declared.Clock.{Clock}
use Rattle.mesh.specs.Lent.{Mesh, N, E}
use Rattle.bounds.specs.State.{state_runs, run_rows}
use Rattle.editions.specs.Lines.{edition1, layout_at}
use Rattle.saves.specs.Save.{Saved, save_text, save_text1, with_wind}
use Rattle.loads.specs.Load.{load_of}
use Rattle.demands.specs.Demand1.{Accepts}
use Rattle.demands.specs.RoundTrip.{gives}

-- a run of document 01 as a program has it: four runs of N binary64, a wind of two, a step number of 4 bytes
pub record StorableOld (n : ℕ) (state : List Float) (number : ℕ) (w : Wind) : Type 0 where
  pub values : (j : ℕ) → j < 4 * n → T (fits binary64 (get_or state j nan))
  pub wx : T (fits binary64 w.x)
  pub wy : T (fits binary64 w.y)
  pub step : number < 256 ^ 4

-- The text that document 01's own rules give for a run with one wind, of which its rows accept the mesh, the parameters, the state and the wind, loaded over
-- any state of 6N and any clock, is accepted, and gives that run with that wind at every node.
abbrev pub OldSavesLoad : Type 0
OldSavesLoad =
    (m : Mesh) (p : Parameters) (state : List Float) (number : ℕ) (w : Wind) (old : List Float) (other : Clock) →
    StorableOld (N m) state number w → Accepts (run_rows accepted m p (with_wind (N m) state w)) → length old ≡ state_runs * N m →
    load_of m p (save_text1 (N m) (E m) state number w) old other ≡ gives (with_wind (N m) state w) (record { step = number })

-- The text of an edition 2 save, read by edition 1's lengths, is a 20 at line 0.
abbrev pub OldBuildsRefuse : Type 0
OldBuildsRefuse = (s : Saved) → line_fault (layout_at edition1 s.n) (save_text s) 0 ≡ refused 20 0
