-- Document 01, "What is lent": a run, its cold start and its clock.
use Rattle.std.specs.Prelude.{ℕ, ◌+◌, ◌*◌, List, Result, Ok, Err, Float}
use Rattle.rows.specs.declared.Answer.{Answer}
use Rattle.rows.specs.declared.Refusal.{Refusal}
use Rattle.rows.specs.Scan.{accepted}
use Rattle.rows.specs.Refusals.{answered}
use Rattle.lists.specs.Table.{zeros}
use Rattle.bounds.specs.State.{state_runs}
use Rattle.surge.specs.declared.Clock.{Clock}

-- what is held of a run on a mesh
pub record Run : Type 0 where
  pub state : List Float
  pub clock : Clock

abbrev pub run : List Float → Clock → Run
run state k = record { state = state; clock = k }

-- "A cold start is all +0, step 0."
abbrev pub cold_state : ℕ → List Float
cold_state n = zeros (state_runs * n)

abbrev pub cold_clock : Clock
cold_clock = record { step = 0 }

-- "the clock gains one step"; of #105 the wind is the state's
abbrev pub advanced : Clock → Clock
advanced k = record { step = k.step + 1 }

-- what a call hands back
pub record Reply : Type 0 where
  pub answer : Answer
  pub clock : Clock

-- a call's result as what it hands back: k is the clock that a refusal leaves
abbrev pub replied : Clock → Result Clock Refusal → Reply
replied k (Ok next) = record { answer = accepted; clock = next }
replied k (Err refusal) = record { answer = answered (Err refusal); clock = k }

-- what a call leaves: the answer and the clock that it hands back, and the state
pub record After : Type 0 where
  pub reply : Reply
  pub state : List Float

abbrev pub after : Reply → List Float → After
after r s = record { reply = r; state = s }
