-- Demand 1: "Every call takes every mesh, state, forcing and text. It ends, and either does its work or refuses with the number, place and value in our
-- table, exactly when the table says. A refused call changes no state and no text."
-- One record for each call says what is promised of an outcome, what an accepted call gives among it; one statement for each call, and for each call for
-- C, says it of every outcome that meets the function's own contract. That a call ends is its contract's; that it takes everything is EachCallAsksNothing.
use Rattle.std.specs.Prelude.{ℕ, ◌+◌, ◌*◌, ◌≤◌, ◌<◌, ◌≡◌, length, take, drop, Float}
use mathlib.Core.List.{List, [], ◌∷◌, ◌++◌, foldl}
use Rattle.rows.specs.declared.Answer.{Answer}
use Rattle.lists.specs.Table.{table, zeros}
use Rattle.lists.specs.Runs.{runs_of}
use Rattle.rows.specs.Scan.{accepted, ◌then◌}
use Rattle.quantities.specs.declared.Parameters.{Parameters}
use Rattle.surge.specs.declared.Clock.{Clock}
use Rattle.mesh.specs.Lent.{Mesh, N}
use Rattle.bounds.specs.Forcing.{forcing_at, forcings_of}
use Rattle.surge.specs.Lent.{Run, cold_state, cold_clock, advanced, After}
use Rattle.surge.specs.Open.{open_answer}
use Rattle.surge.specs.Step.{StepOut, given_of, advance, step_rows}
use Rattle.surge.specs.StepAll.{list_answer, later_answer}
use Rattle.passes.specs.Equations.{node, new_wind, rise, U', V'}
use Rattle.passes.specs.Row13.{row13}
use Rattle.passes.specs.Settle.{Rooms, work_runs}
use Rattle.passes.specs.InTurn.{Turns, added_runs}
use Rattle.editions.specs.Lines.{save_length, edition_of}
use Rattle.saves.specs.Save.{saved_of, save_text, save_answer, SaveOut, wrote}
use Rattle.loads.specs.Load.{clock_in, load_answer, state_in}
use Rattle.forcings.specs.Forcings.{nodes_of, forcing_of, forcing_answer, Taken}
use Rattle.demands.specs.CallContracts.{Opening, Stepping, SteppingAll, Saving, Loading, Reading, OpeningC, SteppingC, SteppingAllC, SavingC, LoadingC, ReadingC}

abbrev pub Accepts : Answer → Type 0
Accepts a = a.number ≡ 0

abbrev pub Refuses : Answer → Type 0
Refuses a = Accepts a → ⊥

-- ---- what is promised of an outcome

-- open: "is rows 1 to 9 and writes only the cold state; it hands back the cold clock, refused or not"
pub record OpenSays (m : Mesh) (p : Parameters) (state : List Float) (o : After) : Type 0 where
  pub answer : o.reply.answer ≡ open_answer m p state
  pub clock : o.reply.clock ≡ cold_clock
  pub accepted : Accepts o.reply.answer → o.state ≡ cold_state (N m)
  pub refused : Refuses o.reply.answer → o.state ≡ state

-- step: what is asked before anything is worked out, then row 13
abbrev pub step_answer : Mesh → Parameters → Run → List Float → Rooms → Answer
step_answer m p s f r = step_rows m p s f r then row13 (given_of m p s f)

-- the work room is as found; and it is zero
abbrev pub Untouched : Rooms → Rooms → Type 0
Untouched r o = (o.work ≡ r.work) × (o.sums ≡ r.sums)

-- with so many runs of work room
abbrev pub AllZeroOf : ℕ → ℕ → Rooms → Type 0
AllZeroOf runs n o = (o.work ≡ zeros (runs * n)) × (o.sums ≡ table n (λ _. 0))

abbrev pub AllZero : ℕ → Rooms → Type 0
AllZero = AllZeroOf work_runs

pub record StepSays (m : Mesh) (p : Parameters) (s : Run) (f : List Float) (r : Rooms) (o : StepOut) : Type 0 where
  pub answer : o.reply.answer ≡ step_answer m p s f r
  -- "The next state is z, z', U', V'; the clock gains one step"; of #105 the state holds Wx', Wy'
  pub next_state : Accepts o.reply.answer → let g = given_of m p s f in
      o.rooms.next ≡ runs_of (N m) ((λ i. (node g i).z) ∷ rise g ∷ U' g ∷ V' g ∷ (λ i. (new_wind g i).x) ∷ (λ i. (new_wind g i).y) ∷ [])
  pub next_clock : Accepts o.reply.answer → o.reply.clock ≡ advanced s.clock
  -- "A refusal leaves state, next state, text and clock as found."
  pub same_next : Refuses o.reply.answer → o.rooms.next ≡ r.next
  pub same_clock : Refuses o.reply.answer → o.reply.clock ≡ s.clock
  -- "Work room is untouched by every refusal but 13, and all zero after an accepted step or a 13."
  pub untouched : Refuses o.reply.answer → (o.reply.answer.number ≡ 13 → ⊥) → Untouched r o.rooms
  pub zero_after_13 : o.reply.answer.number ≡ 13 → AllZero (N m) o.rooms
  pub zero_accepted : Accepts o.reply.answer → AllZero (N m) o.rooms

-- ---- a list of forcings (document 02, #107): "The result, the clock, and any refusal with its place equal single calls made one after another"
-- the run that the equations give along the first k forcings
abbrev pub run_after : Mesh → Parameters → Run → List Float → ℕ → Run
run_after m p s l k = foldl (advance m p) s (take k (forcings_of (N m) l))

-- of forcing k, on the run after those before it
abbrev pub answer_at : Mesh → Parameters → Run → List Float → ℕ → Answer
answer_at m p s l k = later_answer m p (run_after m p s l k) (forcing_at (N m) l k)

pub record StepAllSays (m : Mesh) (p : Parameters) (s : Run) (l : List Float) (r : Rooms) (o : Turns) : Type 0 where
  -- "Refusals: 14 for a list above 4,096 forcings of 1+2N numbers, before row 1, which covers uneven lengths."
  pub before : Refuses (list_answer m p s l r) → o.last.answer ≡ list_answer m p s l r
  pub before_found : Refuses (list_answer m p s l r) → (o.accepted ≡ 0) × (o.last.step ≡ s.clock.step) × (o.last.rooms ≡ r)
  -- "An empty list that passes rows 1 to 10 is accepted, copies the state and leaves the work room untouched."
  pub empty : Accepts (list_answer m p s l r) → length l ≡ 0 → (o.last.answer ≡ accepted) × (o.accepted ≡ 0) × (o.last.step ≡ s.clock.step)
  pub empty_next : Accepts (list_answer m p s l r) → length l ≡ 0 → o.last.rooms.next ≡ s.state
  pub empty_work : Accepts (list_answer m p s l r) → length l ≡ 0 → Untouched r o.last.rooms
  -- "it stops at the first refusal and gives the count of accepted steps, and the next slice holds the state after these"
  pub count : o.accepted ≤ length (forcings_of (N m) l)
  pub each_accepted : (k : ℕ) → k < o.accepted → Accepts (answer_at m p s l k)
  pub clock : o.last.step ≡ s.clock.step + o.accepted
  pub next_state : (o.accepted ≡ 0 → ⊥) → o.last.rooms.next ≡ (run_after m p s l o.accepted).state
  pub all_accepted : Accepts o.last.answer → (o.last.answer ≡ accepted) × (o.accepted ≡ length (forcings_of (N m) l))
  pub stopped : Accepts (list_answer m p s l r) → Refuses o.last.answer
      → (o.accepted < length (forcings_of (N m) l)) × (o.last.answer ≡ answer_at m p s l o.accepted)
  -- "If the very first forcing is refused the next slice and the work room are as single calls leave them, the added 6N untouched."
  pub first_next : Accepts (list_answer m p s l r) → Refuses o.last.answer → o.accepted ≡ 0 → o.last.rooms.next ≡ r.next
  pub first_untouched : Accepts (list_answer m p s l r) → Refuses o.last.answer → o.accepted ≡ 0 → (o.last.answer.number ≡ 13 → ⊥)
      → Untouched r o.last.rooms
  pub first_after_13 : Accepts (list_answer m p s l r) → o.accepted ≡ 0 → o.last.answer.number ≡ 13
      → (o.last.rooms.work ≡ zeros (work_runs * N m) ++ drop (work_runs * N m) r.work) × (o.last.rooms.sums ≡ table (N m) (λ _. 0))
  -- "Work room grows by 6N numbers, and all of it is zero once a step has been accepted"; "a later refusal in the list doesn't make it a refused call in
  -- demands 1 and 3 or in 01's rule on what a refusal leaves": whatever the answer
  pub zero_accepted : (o.accepted ≡ 0 → ⊥) → AllZeroOf (work_runs + added_runs) (N m) o.last.rooms

-- save: the rows' answer with the text as found; or, where they accept, number 0 and place 127+105N, and "Text room past a save keeps its bytes"
pub record SaveSays (m : Mesh) (p : Parameters) (state : List Float) (k : Clock) (t : List ℕ) (o : SaveOut) : Type 0 where
  pub refused : Refuses (save_answer m p state t) → (o.answer ≡ save_answer m p state t) × (o.text ≡ t)
  pub accepted : Accepts (save_answer m p state t)
      → (o.answer ≡ wrote (save_length (N m))) × (o.text ≡ save_text (saved_of m p state k) ++ drop (save_length (N m)) t)

-- load: the state and the clock that the text's lines hold, in its edition; a refusal leaves both as found
pub record LoadSays (m : Mesh) (p : Parameters) (t : List ℕ) (state : List Float) (k : Clock) (o : After) : Type 0 where
  pub answer : o.reply.answer ≡ load_answer m p t state
  pub accepted : Accepts o.reply.answer → (o.state ≡ state_in (edition_of t) (N m) t m.h) × (o.reply.clock ≡ clock_in (edition_of t) (N m) t)
  pub refused : Refuses o.reply.answer → (o.state ≡ state) × (o.reply.clock ≡ k)

-- read_forcing: "A refused forcing reading … leaves the forcing room as found"
pub record ForcingSays (room : List Float) (t : List ℕ) (expected : ℕ) (o : Taken) : Type 0 where
  pub answer : o.answer ≡ forcing_answer room t expected
  pub accepted : Accepts o.answer → o.room ≡ forcing_of (nodes_of room) t
  pub refused : Refuses o.answer → o.room ≡ room

-- ---- and said of every outcome
pub record Demand1 : Type 0 where
  pub surge_open : Opening OpenSays
  pub surge_step : Stepping StepSays
  pub surge_step_all : SteppingAll StepAllSays
  pub saves_save : Saving SaveSays
  pub loads_load : Loading LoadSays
  pub forcings_read_forcing : Reading ForcingSays
  pub capi_surge_open : OpeningC OpenSays
  pub capi_surge_step : SteppingC StepSays
  pub capi_surge_step_all : SteppingAllC StepAllSays
  pub capi_surge_save : SavingC SaveSays
  pub capi_surge_load : LoadingC LoadSays
  pub capi_surge_read_forcing : ReadingC ForcingSays
