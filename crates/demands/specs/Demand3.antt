-- Demand 3 of the product: "Take one run from a cold start, with an accepted mesh and parameters, both fixed, and lent room of the right sizes. After any
-- sequence of steps, saves and loads, refused ones among them, where each text loaded was saved earlier in that sequence and not altered, the run held,
-- state and clock, is what the equations of demand 2 give from the cold start, forcing by forcing, along its path. An accepted step adds its forcing to
-- the path. A load puts the path back to what it was at the latest save of that text. Saves and refused calls change nothing in it."
-- Document 02, #107, of a list of forcings: "For demand 3 the call adds exactly the accepted forcings to the path; once a step has been accepted, a later
-- refusal in the list doesn't make it a refused call in demands 1 and 3".
-- Here are the product's calls as a program makes them, and what it holds after each; the sequence, its path and the premise on a text that is loaded are
-- history/specs/History. It is proved of every mesh and of rooms of any sizes: where one is not as the demand asks, the calls are refused.
use Rattle.std.specs.Prelude.{ℕ, ◌*◌, ◌/◌, ◌<◌, ◌≤◌, ◌≡◌, Bool, true, cond, List, T, eqb, length, get_or, take, Float}
use Rattle.std.specs.Float.{nan, binary64}
use Rattle.std.specs.Float.Ieee.{fits}
use Rattle.rows.specs.declared.Answer.{Answer}
use Rattle.lists.specs.Table.{table}
use Rattle.quantities.specs.declared.Parameters.{Parameters}
use Rattle.mesh.specs.Lent.{Mesh, N}
use Rattle.bounds.specs.State.{state_runs}
use Rattle.bounds.specs.Forcing.{forcing_length, forcing_at}
use Rattle.bounds.proofs.ListLaws.{forcing_each}
use Rattle.surge.specs.Lent.{Run, run, cold_state, cold_clock}
use Rattle.surge.specs.Open.{open_of}
use Rattle.surge.specs.Step.{advance, step_of}
use Rattle.surge.specs.StepAll.{step_all_of, held_after}
use Rattle.passes.specs.Settle.{Rooms}
use Rattle.editions.specs.Lines.{save_length}
use Rattle.saves.specs.Save.{save_of}
use Rattle.loads.specs.Load.{load_of}
use Rattle.loads.specs.Storable.{StorableParameters}
use Rattle.history.specs.History.{Reply, Written, Caught, Calls, Call, history, Demand3, AnySaveOfAText}

-- a forcing as a program has it: each of its numbers is a binary64
pub record Weather : Type 0 where
  pub forcing : List Float
  pub values : (j : ℕ) → j < length forcing → T (fits binary64 (get_or forcing j nan))

-- #107: "a lent list of forcings" as a program has it: each of its numbers is a binary64
pub record WeatherList : Type 0 where
  pub list : List Float
  pub values : (j : ℕ) → j < length list → T (fits binary64 (get_or list j nan))

-- the forcings that it has on n nodes, in order
abbrev pub weather_at : ℕ → WeatherList → ℕ → Weather
weather_at n w j = record { forcing = forcing_at n w.list j; values = forcing_each n w.list (λ (v : Float). T (fits binary64 v)) nan w.values j }

abbrev pub weathers : ℕ → WeatherList → List Weather
weathers n w = table (length w.list / forcing_length n) (weather_at n w)

-- "An accepted call has number 0"
abbrev pub accepts : Answer → Bool
accepts a = eqb a.number 0

-- "A cold start is all +0, step 0."
abbrev pub cold_run : Mesh → Run
cold_run m = run (cold_state (N m)) cold_clock

-- The slice that a load is lent: the state held itself, or another one, of any length and with anything in it.
pub data Into : Type 0 where
  itself : Into
  other : List Float → Into

abbrev pub lent : Run → Into → List Float
lent r itself = r.state
lent r (other slice) = slice

-- The state held after a load that left `left` in the slice it was lent: the slice itself where it was the state held; and the other slice where the load
-- was accepted into it, since the program swaps the two then, and the state as it was where it was refused.
abbrev pub state_after : Into → Bool → List Float → List Float → List Float
state_after itself ok left state = left
state_after (other slice) ok left state = cond ok left state

module _ (m : Mesh) (p : Parameters) where
  -- A step is lent rooms of any lengths, with anything in them. Where it accepts, the state held is what it wrote to the room for the next state; where it
  -- refuses, the state stays. The clock held is the one that it hands back.
  abbrev pub stepped : Run → List Float → Rooms → Reply Run
  stepped r f rooms =
      let o = step_of m p r f rooms in
      let ok = accepts o.reply.answer in
      record { accepted = ok; held = run (cond ok o.rooms.next r.state) o.reply.clock }

  -- A list is lent rooms of any lengths too. "the next slice holds the state after these" that were accepted: where there are any it is the state held, and
  -- else the state stays. The clock held is the one that it hands back.
  abbrev pub caught_up : Run → List Float → Rooms → Caught Run
  caught_up r l rooms =
      let o = step_all_of m p r l rooms in
      record { accepted = o.accepted; held = held_after r o }

  -- A save is lent a text room of any length. The text saved is the bytes that it wrote: "a save's place is the bytes it wrote".
  abbrev pub saved : Run → List ℕ → Written
  saved r text =
      let o = save_of m p r.state r.clock text in
      record { accepted = accepts o.answer; text = take o.answer.place o.text }

  -- A load is lent a slice to be written, and the clock held. The run held is the state that is held after it, and the clock that it hands back.
  abbrev pub loaded : Run → List ℕ → Into → Reply Run
  loaded r text into =
      let o = load_of m p text (lent r into) r.clock in
      let ok = accepts o.reply.answer in
      record { accepted = ok; held = run (state_after into ok o.state r.state) o.reply.clock }

  -- The calls of a run on the mesh m with the parameters p. `advance` is demand 2's equations alone, and nothing of what `step` hands back.
  abbrev pub surge : Calls
  surge = record {
    Run = Run;
    Forcing = Weather;
    StepRoom = Rooms;
    SaveRoom = List ℕ;
    LoadRoom = Into;
    Lists = WeatherList;
    ListRoom = Rooms;
    forcings = weathers (N m);
    cold = cold_run m;
    advance = λ r f. advance m p r f.forcing;
    step = λ r f rooms. stepped r f.forcing rooms;
    save = saved;
    load = loaded;
    step_all = λ r l rooms. caught_up r l.list rooms;
  }

-- Demand 3, on every mesh and with all parameters that a program can have: four binary64 values.
abbrev pub Demand3AtSurge : Type 0
Demand3AtSurge = (m : Mesh) (p : Parameters) → StorableParameters p → Demand3 (surge m p)

-- "the latest save of that text": of two saves of one text, the equations give the same run along the path of either.
abbrev pub AnySaveAtSurge : Type 0
AnySaveAtSurge = (m : Mesh) (p : Parameters) → StorableParameters p → AnySaveOfAText (surge m p)

-- That cold start is the run that opening hands back, wherever it accepts.
abbrev pub OpensCold : Type 0
OpensCold =
    (m : Mesh) (p : Parameters) (state : List Float) → accepts (open_of m p state).reply.answer ≡ true →
    run (open_of m p state).state (open_of m p state).reply.clock ≡ cold_run m

-- Own saves are accepted back. Whatever run is held after any sequence of calls (loads of any texts among them): where a save of it is accepted, its text,
-- loaded into any slice of 6N, whatever run is held then, is accepted and gives back that run.
abbrev pub OwnSavesLoad : Type 0
OwnSavesLoad =
    (m : Mesh) (p : Parameters) → StorableParameters p → (cs : List (Call (surge m p))) (text : List ℕ) (now : Run) (into : Into) →
    let r = (history (surge m p) cs).held in
    (saved m p r text).accepted ≡ true → length (lent now into) ≡ state_runs * N m →
    loaded m p now (saved m p r text).text into ≡ record { accepted = true; held = r }

-- Every run held can be saved. On a mesh and with parameters that opening accepts, after any sequence of calls (loads of any texts among them), a save that
-- is lent a text room of 127+105N bytes or more is accepted.
abbrev pub HeldRunsSave : Type 0
HeldRunsSave =
    (m : Mesh) (p : Parameters) → StorableParameters p → (state : List Float) (cs : List (Call (surge m p))) (text : List ℕ) →
    accepts (open_of m p state).reply.answer ≡ true → save_length (N m) ≤ length text →
    (saved m p (history (surge m p) cs).held text).accepted ≡ true
