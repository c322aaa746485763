-- Document 01, "Refusal table", and the rows that document 02 adds: each row by its number, and what a row answers by the answer that crosses to C.
use Rattle.std.specs.Prelude.{ℕ, Result, Ok, Err}
use Rattle.rows.specs.declared.Row.{Row}
use Rattle.rows.specs.declared.Row.TheVariants.{Lengths, Counts, Corner, Side, Area, Leg, Unnamed, Depth, Parameter, State, LastStep, Forcing, NextState, ListLength, Framing, CheckByte, Sequence, MeshSize, Room, Settings, GridField, GridOrder, GridRange, GridRooms, Outside, FullRecord, GaugeNumber, Record}
use Rattle.rows.specs.declared.Refusal.{Refusal}
use Rattle.rows.specs.declared.Answer.{Answer}
use Rattle.rows.specs.Scan.{accepted}

abbrev pub number_of : Row → ℕ
number_of Lengths = 1
number_of Counts = 2
number_of Corner = 3
number_of Side = 4
number_of Area = 5
number_of Leg = 6
number_of Unnamed = 7
number_of Depth = 8
number_of Parameter = 9
number_of State = 10
number_of LastStep = 11
number_of Forcing = 12
number_of NextState = 13
number_of ListLength = 14
number_of Framing = 20
number_of CheckByte = 21
number_of Sequence = 22
number_of MeshSize = 23
number_of Room = 24
number_of Settings = 25
number_of GridField = 30
number_of GridOrder = 31
number_of GridRange = 32
number_of GridRooms = 33
number_of Outside = 40
number_of FullRecord = 41
number_of GaugeNumber = 42
number_of Record = 43

-- "Each answer has number, place and value": what a refusal says
abbrev pub said : Refusal → Answer
said r = record { number = number_of r.row; place = r.place; value = r.value }

-- "An accepted call has number 0 and place 0". says: what an error says, be it a refusal of the table or another
abbrev pub answered_by : {E : Type 0} → (E → Answer) → Result (Unit {0}) E → Answer
answered_by says (Ok _) = accepted
answered_by says (Err e) = says e

abbrev pub answered : Result (Unit {0}) Refusal → Answer
answered asked = answered_by said asked
