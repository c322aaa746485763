-- Document 02, #107: "Take a lent list of forcings, at most 4,096, and step through them. The result, the clock, and any refusal with its place equal single
-- calls made one after another". It is said of any single call; no row of a step and no equation stands here.
use Rattle.std.specs.Prelude.{ℕ, ◌+◌, ◌*◌, cond, eqb, length, take, drop, Float}
use mathlib.Core.List.{List, ◌++◌, foldl}
use Rattle.rows.specs.declared.Answer.{Answer}
use Rattle.rows.specs.Scan.{accepted}
use Rattle.lists.specs.Table.{zeros}
use Rattle.quantities.specs.declared.Parameters.{Parameters}
use Rattle.mesh.specs.Lent.{Mesh, N}
use Rattle.bounds.specs.State.{run_rows}
use Rattle.bounds.specs.Forcing.{forcings_of, list_rows}
use Rattle.passes.specs.Settle.{Rooms, work_runs, row1_rooms_of}

-- what a single call hands back and leaves
pub record Called : Type 0 where
  pub answer : Answer
  pub step : ℕ
  pub rooms : Rooms

-- a single call: on a state, a step number, a forcing and the rooms that it is lent
abbrev pub Single : Type 0
Single = List Float → ℕ → List Float → Rooms → Called

-- what several leave: the last that was made, and "the count of accepted steps"
pub record Turns : Type 0 where
  pub last : Called
  pub accepted : ℕ

-- with none accepted
abbrev pub unmoved : ℕ → Answer → Rooms → Turns
unmoved step a r = record { last = record { answer = a; step = step; rooms = r }; accepted = 0 }

module _ (single : Single) (state : List Float) where
  -- "the next slice holds the state after these": what the next call reads
  abbrev pub state_now : Turns → List Float
  state_now o = cond (eqb o.accepted 0) state o.last.rooms.next

  abbrev pub counted : ℕ → Called → Turns
  counted k c = record { last = c; accepted = cond (eqb c.answer.number 0) (k + 1) k }

  -- one more; "it stops at the first refusal"
  unfoldable pub another : Turns → List Float → Turns
  another o f = cond (eqb o.last.answer.number 0) (counted o.accepted (single (state_now o) o.last.step f o.last.rooms)) o

  abbrev pub in_turn : ℕ → Rooms → List (List Float) → Turns
  in_turn step r = foldl another (unmoved step accepted r)

-- ---- the rooms of a list
-- "Work room grows by 6N numbers": added last
abbrev pub added_runs : ℕ
added_runs = 6

-- those that single calls are lent
abbrev pub without_added : ℕ → Rooms → Rooms
without_added n r = record { next = r.next; work = take (work_runs * n) r.work; sums = r.sums }

-- what single calls left, with the rest of what was lent: "the added 6N untouched", and "all of it is zero once a step has been accepted"
abbrev pub with_added : ℕ → Rooms → Turns → Turns
with_added n r o =
    let work = o.last.rooms.work ++ cond (eqb o.accepted 0) (drop (work_runs * n) r.work) (zeros (added_runs * n)) in
    let rooms : Rooms = record { next = o.last.rooms.next; work = work; sums = o.last.rooms.sums } in
    record { last = record { answer = o.last.answer; step = o.last.step; rooms = rooms }; accepted = o.accepted }

-- ---- the call on a list
-- row 14, then row 1 of the rooms and of the list
abbrev pub first_rows : Mesh → List Float → Rooms → Answer
first_rows m l r = list_rows (row1_rooms_of (work_runs + added_runs) r (N m)) (N m) l

-- "An empty list that passes rows 1 to 10 is accepted, copies the state and leaves the work room untouched." a: what rows 1 to 10 answer
abbrev pub of_none : List Float → ℕ → Rooms → Answer → Turns
of_none state step r a = unmoved step a (cond (eqb a.number 0) (record { next = state; work = r.work; sums = r.sums }) r)

unfoldable pub list_of : Single → Mesh → Parameters → List Float → ℕ → List Float → Rooms → Turns
list_of single m p state step l r =
    cond (eqb (first_rows m l r).number 0)
    (cond (eqb (length l) 0)
    (of_none state step r (run_rows accepted m p state))
    (with_added (N m) r (in_turn single state step (without_added (N m) r) (forcings_of (N m) l))))
    (unmoved step (first_rows m l r) r)
