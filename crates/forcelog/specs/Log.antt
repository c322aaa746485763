-- Document 01, "The printing program", and document 02, #105: a log of forcings, taken one by one.
use Rattle.std.specs.Prelude.{ℕ, ◌+◌, ◌^◌, cond, List, Result, Ok, Err, eqb, ltb, Float}
use Rattle.rows.specs.declared.Answer.{Answer}
use Rattle.rows.specs.declared.Refusal.{Refusal}
use Rattle.rows.specs.Scan.{accepted}
use Rattle.rows.specs.Refusals.{answered}
use Rattle.lists.specs.Table.{table, zeros}
use Rattle.surge.specs.Lent.{run, cold_state, cold_clock}
use Rattle.surge.specs.Step.{StepOut, step_of}
use Rattle.passes.specs.Settle.{Rooms, lent_rooms}
use Rattle.forcings.specs.Forcings.{of_kind10, Taken, taken_of}
use Rattle.saves.specs.Save.{SaveOut, save_of}
use Rattle.forcelog.specs.declared.Log.{Log}
use Rattle.forcelog.specs.MeshT.{T, T_parameters}

-- "A cold start is all +0, step 0"; no line taken
unfoldable pub cold_log : Log
cold_log = record { lines = 0; clock = cold_clock; state = cold_state 3 }

-- the step by a forcing, with rooms of T's lengths
abbrev pub rooms : Rooms
rooms = lent_rooms (zeros 18) (zeros 15) (table 3 (λ _. 0))

unfoldable pub stepped : Log → List Float → StepOut
stepped log f = step_of T T_parameters (run log.state log.clock) f rooms

-- ---- the input's lines
-- "a forcing starting 10, is measured by that kind, any other by the new": one line, or that of kind 14 and those of T's three nodes
abbrev pub lines_in : List ℕ → ℕ
lines_in text = cond (of_kind10 text) 1 4

-- k lines on. A count that 64 bits do not hold stays as it was. No input reaches that: a log has at most four lines for each step of its clock, and a
-- clock has a last (the law `later_exact`)
unfoldable pub later : ℕ → ℕ → ℕ
later lines k = cond (ltb (lines + k) (2 ^ 64)) (lines + k) lines

-- ---- what taking a forcing leaves
pub record Took : Type 0 where
  pub answer : Answer
  pub log : Log

-- a call's result as what it leaves: a refusal leaves the log as it was
abbrev pub took : Log → Result Log Refusal → Took
took log (Ok next) = record { answer = accepted; log = next }
took log (Err refusal) = record { answer = answered (Err refusal); log = log }

-- "R the number and P the input line from 0"
abbrev pub refused_at : Answer → ℕ → Log → Took
refused_at a place log = record { answer = record { number = a.number; place = place; value = a.value }; log = log }

-- an accepted step by a forcing of so many lines: its state and clock, and the lines counted
abbrev pub gone : StepOut → ℕ → Log → Took
gone s lines log =
    record { answer = s.reply.answer; log = record { lines = later log.lines lines; clock = s.reply.clock; state = s.rooms.next } }

-- #105: "for a refused step the program's P is its first line"
abbrev pub after_step : StepOut → ℕ → Log → Took
after_step s lines log = cond (eqb s.reply.answer.number 0) (gone s lines log) (refused_at s.reply.answer log.lines log)

-- "A refused forcing reading has its line within the step as place": P is that line, counted from the forcing's first
abbrev pub after_read : Taken → ℕ → Log → Took
after_read r lines log =
    cond (eqb r.answer.number 0) (after_step (stepped log r.room) lines log) (refused_at r.answer (later log.lines r.answer.place) log)

-- "expecting sequence 0 first and one more on each line": of a line of kind 10 the sequence is how many forcings were taken before it, of whatever kind.
-- Each that is taken is one step, so the clock's step number is that count.
abbrev pub expected : Log → ℕ
expected log = log.clock.step

-- read into a room of T's lengths: the elevation, Wx' and Wy' of three nodes
abbrev pub reading : List ℕ → Log → Taken
reading text log = taken_of (zeros 7) text (expected log)

unfoldable pub take_of : List ℕ → Log → Took
take_of text log = after_read (reading text log) (lines_in text) log

-- "prints one save at the end"
unfoldable pub end_of : Log → List ℕ → SaveOut
end_of log text = save_of T T_parameters log.state log.clock text
