-- Document 02, #107: a list of forcings in one call, as single steps made one after another.
use Rattle.std.specs.Prelude.{ℕ, cond, List, eqb, Float}
use Rattle.rows.specs.declared.Answer.{Answer}
use Rattle.rows.specs.Scan.{accepted, ◌then◌}
use Rattle.rows.specs.Refusals.{answered}
use Rattle.quantities.specs.declared.Parameters.{Parameters}
use Rattle.limits.specs.Limits.{row11}
use Rattle.mesh.specs.Lent.{Mesh, N}
use Rattle.bounds.specs.State.{run_rows}
use Rattle.bounds.specs.Forcing.{row12}
use Rattle.passes.specs.Row13.{row13}
use Rattle.passes.specs.Settle.{Rooms, lent_rooms}
use Rattle.passes.specs.InTurn.{Single, Turns, first_rows, list_of}
use Rattle.surge.specs.declared.ListReply as handed
use Rattle.surge.specs.Lent.{Run, Reply, run}
use Rattle.surge.specs.Step.{given_of, step_of}

-- a step, as a single call
abbrev pub single_step : Mesh → Parameters → Single
single_step m p state step f r =
    let o = step_of m p (run state (record { step = step })) f r in
    record { answer = o.reply.answer; step = o.reply.clock.step; rooms = o.rooms }

-- what is handed back: with the count of accepted steps
pub record ListReply : Type 0 where
  pub reply : Reply
  pub accepted : ℕ

abbrev pub list_replied : handed.ListReply → ListReply
list_replied o = record { reply = record { answer = answered o.asked; clock = o.clock }; accepted = o.accepted }

-- what is handed back and left
abbrev pub list_out : ListReply → List Float → List Float → List ℕ → Turns
list_out o next work sums = record { last = record { answer = o.reply.answer; step = o.reply.clock.step; rooms = lent_rooms next work sums }; accepted = o.accepted }

abbrev pub step_all_of : Mesh → Parameters → Run → List Float → Rooms → Turns
step_all_of m p s = list_of (single_step m p) m p s.state s.clock.step

-- the run held after it: "the next slice holds the state after these", and the clock is the one handed back
abbrev pub held_after : Run → Turns → Run
held_after s o = run (cond (eqb o.accepted 0) s.state o.last.rooms.next) (record { step = o.last.step })

-- ---- its answer, row by row
-- what is asked before any forcing: row 14, row 1 of the slices, and the run's rows 1 to 10
abbrev pub list_answer : Mesh → Parameters → Run → List Float → Rooms → Answer
list_answer m p s l r = first_rows m l r then run_rows accepted m p s.state

-- what a single step answers on a run that rows 1 to 10 accept
abbrev pub later_answer : Mesh → Parameters → Run → List Float → Answer
later_answer m p s f = row11 s.clock.step then row12 (N m) f then row13 (given_of m p s f)
