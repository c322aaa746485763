-- Document 01: a step. Its answer is the table's, and what it leaves goes by the answer.
use Rattle.std.specs.Prelude.{cond, List, ℕ, eqb, Float}
use Rattle.rows.specs.declared.Answer.{Answer}
use Rattle.quantities.specs.declared.Parameters.{Parameters}
use Rattle.limits.specs.Limits.{row11}
use Rattle.mesh.specs.Lent.{Mesh, N}
use Rattle.bounds.specs.Forcing.{elevation_of, winds_of, forced_rows}
use Rattle.passes.specs.Equations.{Given, given, next_state}
use Rattle.passes.specs.Row13.{row13}
use Rattle.passes.specs.Settle.{Rooms, lent_rooms, row1_rooms, cleared}
use Rattle.surge.specs.Lent.{Run, Reply, advanced}

pub record StepOut : Type 0 where
  pub reply : Reply
  pub rooms : Rooms

abbrev pub step_out : Reply → List Float → List Float → List ℕ → StepOut
step_out s next work sums = record { reply = s; rooms = lent_rooms next work sums }

module _ (m : Mesh) (p : Parameters) (s : Run) (f : List Float) where
  -- what the equations read
  abbrev pub given_of : Given
  given_of = given m p s.state (elevation_of f) (winds_of f)

  -- ---- the equations alone, with no refusal: the run that they give
  unfoldable pub advance : Run
  advance = record { state = next_state given_of; clock = advanced s.clock }

  module _ (r : Rooms) where
    -- ---- the answer
    -- "A step goes on with 10, 11, 12": what is tested before anything is worked out
    unfoldable pub step_rows : Answer
    step_rows = forced_rows (row1_rooms r (N m)) m p s.state (row11 s.clock.step) f

    -- ---- what a step leaves
    -- "A refusal leaves state, next state, text and clock as found. Work room is untouched by every refusal but 13"
    abbrev pub refused_before : Answer → StepOut
    refused_before a = record { reply = record { answer = a; clock = s.clock }; rooms = r }

    abbrev pub refused_by13 : Answer → StepOut
    refused_by13 a = record { reply = record { answer = a; clock = s.clock }; rooms = cleared r.next (N m) }

    abbrev pub went_to : Run → Answer → StepOut
    went_to next a = record { reply = record { answer = a; clock = next.clock }; rooms = cleared next.state (N m) }

    abbrev pub went_on : Answer → StepOut
    went_on = went_to advance

    -- by the run that the equations give, the answer of what is tested first, and then that of row 13
    unfoldable pub steps_to : Run → Answer → Answer → StepOut
    steps_to next first last = cond (eqb first.number 0) (cond (eqb last.number 0) (went_to next last) (refused_by13 last)) (refused_before first)

    unfoldable pub step_of : StepOut
    step_of = steps_to advance step_rows (row13 given_of)
