-- What the passes of a step leave: by the answer of what is tested before anything is worked out, and then by that of row 13.
use Rattle.std.specs.Prelude.{ℕ, ◌*◌, cond, ◌&&◌, List, eqb, length, Float}
use Rattle.rows.specs.declared.Answer.{Answer}
use Rattle.lists.specs.Table.{table, zeros}
use Rattle.lists.specs.Runs.{is_runs}
use Rattle.rows.specs.Scan.{row}
use Rattle.quantities.specs.declared.Parameters.{Parameters}
use Rattle.mesh.specs.Lent.{Mesh, N}
use Rattle.bounds.specs.State.{state_runs}
use Rattle.bounds.specs.Forcing.{elevation_of, winds_of, forced_rows}
use Rattle.passes.specs.Equations.{Given, given, count, next_state}
use Rattle.passes.specs.Row13.{row13}

-- "The next state goes to a second lent slice of 4N; work room is 3N binary64 and N 64-bit unsigned." Document 02, #103: "Work room grows by 2N binary64."
-- #105: "6N numbers …, and the next slice grows too"
pub record Rooms : Type 0 where
  pub next : List Float
  pub work : List Float
  pub sums : List ℕ

abbrev pub lent_rooms : List Float → List Float → List ℕ → Rooms
lent_rooms next work sums = record { next = next; work = work; sums = sums }

abbrev pub work_runs : ℕ
work_runs = 5

-- | 1 | … a slice of another length |: of these rooms, with so many runs of work room
abbrev pub row1_rooms_of : ℕ → Rooms → ℕ → Answer
row1_rooms_of runs r n = row (is_runs (length r.next) state_runs n && is_runs (length r.work) runs n && is_runs (length r.sums) 1 n) 1 0

abbrev pub row1_rooms : Rooms → ℕ → Answer
row1_rooms = row1_rooms_of work_runs

-- "all zero after an accepted step or a 13"
abbrev pub cleared : List Float → ℕ → Rooms
cleared next n = record { next = next; work = zeros (work_runs * n); sums = table n (λ _. 0) }

-- what is answered and what is left
pub record Settled : Type 0 where
  pub answer : Answer
  pub rooms : Rooms

abbrev pub settled : Answer → List Float → List Float → List ℕ → Settled
settled a next work sums = record { answer = a; rooms = lent_rooms next work sums }

-- by the answer of what is tested first, and then by that of row 13
unfoldable pub settles_to : Given → Rooms → Answer → Answer → Settled
settles_to g r first last =
    cond (eqb first.number 0)
    (record { answer = last; rooms = cleared (cond (eqb last.number 0) (next_state g) r.next) (count g) })
    (record { answer = first; rooms = r })

-- also: what else is tested, after row 10 and before row 12 of the forcing f
unfoldable pub settle_of : Mesh → Parameters → List Float → List Float → Answer → Rooms → Settled
settle_of m p state f also r =
    let g = given m p state (elevation_of f) (winds_of f) in
    settles_to g r (forced_rows (row1_rooms r (N m)) m p state also f) (row13 g)
