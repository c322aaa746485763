-- What the passes leave of a list of forcings: of single settlings, made one after another.
use Rattle.std.specs.Prelude.{ℕ, ◌+◌, cond, List, eqb, Float}
use Rattle.rows.specs.declared.Answer.{Answer}
use Rattle.rows.specs.Refusals.{answered}
use Rattle.quantities.specs.declared.Parameters.{Parameters}
use Rattle.limits.specs.Limits.{row11}
use Rattle.mesh.specs.Lent.{Mesh}
use Rattle.passes.specs.Settle.{Rooms, lent_rooms, settle_of}
use Rattle.passes.specs.InTurn.{Single, Turns, list_of}
use Rattle.passes.specs.declared.Progress as handed

-- row 11 of the step number stands between rows 10 and 12, and "the clock gains one step"
abbrev pub settling : Mesh → Parameters → Single
settling m p state step f r =
    let o = settle_of m p state f (row11 step) r in
    record { answer = o.answer; step = cond (eqb o.answer.number 0) (step + 1) step; rooms = o.rooms }

abbrev pub settle_all_of : Mesh → Parameters → List Float → ℕ → List Float → Rooms → Turns
settle_all_of m p = list_of (settling m p) m p

-- what is handed back: the answer, the step number, and how many steps were accepted
pub record Progress : Type 0 where
  pub answer : Answer
  pub step : ℕ
  pub accepted : ℕ

abbrev pub progress_of : handed.Progress → Progress
progress_of o = record { answer = answered o.asked; step = o.step; accepted = o.accepted }

-- what is handed back and left
abbrev pub turns : Progress → List Float → List Float → List ℕ → Turns
turns o next work sums = record { last = record { answer = o.answer; step = o.step; rooms = lent_rooms next work sums }; accepted = o.accepted }
