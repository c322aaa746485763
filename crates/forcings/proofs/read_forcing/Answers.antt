use Prim.Native.Nat.{◌+◌, ◌*◌, ◌/◌}
use mathlib.Core.Path.{◌≡◌, sym, ◌∙◌}
use mathlib.Core.Bool.{true}
use lib.ListN.{length}
use Rattle.rows.proofs.ScanLaws.{row_passed}
use Rattle.rows.proofs.RefusalLaws.{accepts}
use Rattle.forcings.specs.Forcings.{is_room}
use Rattle.forcings.proofs.ForcingLaws.{lines_within, room_long, answer_room, answer_10, answer_14, forcing_10, forcing_14, forcing_refused, forcing_taken}
use Rattle.forcings.proofs.read_forcing.Goals as goal
use Rattle.forcings.proofs.read_forcing.Goals.{In_ok-tested}

-- the room that is lent is one
fits : (c : In_ok-tested) → is_room c.args.room.now ≡ true
fits c = row_passed _ 0 0 (accepts c.in_ok-tested.ensures)

long : (c : In_ok-tested) → let room = c.args.room.now in length room ≡ 1 + 2 * (length room / 2)
long c = sym (room_long c.args.room.now (fits c))

pub returns-in_err-tested : goal.returns-in_err-tested
returns-in_err-tested c = forcing_refused _ _ _ _ _ c.from_residual.ensures.1 (answer_room _ _ _ _ c.in_err-tested.ensures)

pub returns-in_err-fault : goal.returns-in_err-fault
returns-in_err-fault c =
    let its-10 = answer_10 _ _ _ (fits (goal.at.returns-in_err-fault c).In_ok-tested) (sym c.starts.ensures ∙ c.if-starts.true) (rw c.byte.ensures at c.in_err-fault.ensures) in
    forcing_refused _ _ _ _ _ c.from_residual-in_err-fault.ensures.1 its-10

pub returns-in_err-rows_14 : goal.returns-in_err-rows_14
returns-in_err-rows_14 c =
    let its-14 = answer_14 _ _ _ (fits (goal.at.returns-in_err-rows_14 c).In_ok-tested) (sym c.starts.ensures ∙ c.if-starts.false) c.in_err-rows_14.ensures in
    forcing_refused _ _ _ _ _ c.from_residual-in_err-rows_14.ensures.1 its-14

pub fill_10-requires : goal.fill_10-requires
fill_10-requires c = long (goal.at.fill_10-requires c).In_ok-tested

pub fill_14-requires : goal.fill_14-requires
fill_14-requires c = (long (goal.at.fill_14-requires c).In_ok-tested, lines_within _ _ (accepts c.in_ok-rows_14.ensures))

pub returns-in_ok-fault : goal.returns-in_ok-fault
returns-in_ok-fault c =
    let is-10 = sym c.starts.ensures ∙ c.if-starts.true in
    let its-10 = answer_10 _ _ _ (fits (goal.at.returns-in_ok-fault c).In_ok-tested) is-10 (rw c.byte.ensures at c.in_ok-fault.ensures) in
    forcing_taken _ _ _ its-10 (c.fill_10.ensures ∙ forcing_10 _ _ is-10)

pub returns-in_ok-rows_14 : goal.returns-in_ok-rows_14
returns-in_ok-rows_14 c =
    let is-14 = sym c.starts.ensures ∙ c.if-starts.false in
    let its-14 = answer_14 _ _ _ (fits (goal.at.returns-in_ok-rows_14 c).In_ok-tested) is-14 c.in_ok-rows_14.ensures in
    forcing_taken _ _ _ its-14 (c.fill_14.ensures ∙ forcing_14 _ _ is-14)
