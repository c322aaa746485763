-- Document 02, #105: reading a forcing. "Forcing becomes kind 14 (sequence, open elevation) followed by N lines of kind 15 (sequence, Wx', Wy'), sequence
-- counting on within the step from 0." "… a forcing starting 10, is measured by that kind, any other by the new; kind 10 gives every node its wind. A
-- refused forcing reading has its line within the step as place and leaves the forcing room as found".
use Rattle.std.specs.Prelude.{ℕ, zero, suc, ◌+◌, ◌*◌, ◌/◌, ◌%◌, Bool, cond, List, [], ◌∷◌, eqb, leb, length, Float}
use Rattle.rows.specs.declared.Answer.{Answer}
use Rattle.rows.specs.Scan.{row, ◌then◌, scan}
use Rattle.lists.specs.Runs.{runs_of}
use Rattle.frames.specs.Frames.{Layout, digits_of, byte_of}
use Rattle.frames.specs.Reading.{float}
use Rattle.frames.specs.Texts.{line_at, starts}
use Rattle.faults.specs.Faults.{fault, line_fault}

-- ---- the line kinds
-- "10 forcing, its own sequence from 0 to 65,535: elevation, Wx', Wy'. 56 digits."
abbrev pub forcing_layout : Layout
forcing_layout = record { kind = 16; widths = 8 ∷ 8 ∷ 8 ∷ [] }

-- "kind 14 (sequence, open elevation)"
abbrev pub elevation_layout : Layout
elevation_layout = record { kind = 20; widths = 8 ∷ [] }

-- "kind 15 (sequence, Wx', Wy')"
abbrev pub wind_layout : Layout
wind_layout = record { kind = 21; widths = 8 ∷ 8 ∷ [] }

-- what is due at line j of a forcing of the new kinds: "sequence counting on within the step from 0"
abbrev pub forcing_lines : ℕ → Layout
forcing_lines zero = elevation_layout
forcing_lines (suc i) = wind_layout

-- "kind 14 … followed by N lines of kind 15": 25 bytes, and 41 for each node
abbrev pub forcing_length : ℕ → ℕ
forcing_length n = 25 + 41 * n

-- ---- what is read
-- the room that is lent says how many nodes there are: the elevation, then Wx' of all nodes, then Wy' of all nodes
abbrev pub is_room : List Float → Bool
is_room room = eqb (length room % 2) 1

abbrev pub nodes_of : List Float → ℕ
nodes_of room = length room / 2

-- "a forcing starting 10": the characters 1 and 0
abbrev pub of_kind10 : List ℕ → Bool
of_kind10 = starts 49 48

-- document 01: "Reading one forcing line against an expected sequence number gives 20, 21, 22, at place 0"
abbrev pub rows10 : List ℕ → ℕ → Answer
rows10 t expected = fault t (digits_of forcing_layout.widths) forcing_layout.kind expected 0

-- in each line 20, 21, 22, then bytes after the last
abbrev pub rows14 : ℕ → List ℕ → Answer
rows14 n t = scan (line_fault forcing_lines t) (n + 1) then row (leb (length t) (forcing_length n)) 20 (n + 1)

-- the answer: the room's length, and then the text's rows by its kind
unfoldable pub forcing_answer : List Float → List ℕ → ℕ → Answer
forcing_answer room t expected = row (is_room room) 1 0 then cond (of_kind10 t) (rows10 t expected) (rows14 (nodes_of room) t)

-- the forcing that a text holds: "kind 10 gives every node its wind"
unfoldable pub forcing10 : ℕ → List ℕ → List Float
forcing10 n t =
    let at = byte_of forcing_layout.widths in
    float t (at 0) ∷ runs_of n ((λ _. float t (at 1)) ∷ (λ _. float t (at 2)) ∷ [])

unfoldable pub forcing14 : ℕ → List ℕ → List Float
forcing14 n t =
    let line = line_at forcing_lines t in
    let at = byte_of wind_layout.widths in
    float (line 0) (byte_of elevation_layout.widths 0) ∷ runs_of n ((λ i. float (line (suc i)) (at 0)) ∷ (λ i. float (line (suc i)) (at 1)) ∷ [])

unfoldable pub forcing_of : ℕ → List ℕ → List Float
forcing_of n t = cond (of_kind10 t) (forcing10 n t) (forcing14 n t)

-- what is answered, and the room afterwards: "leaves the forcing room as found"
pub record Taken : Type 0 where
  pub answer : Answer
  pub room : List Float

abbrev pub taken : Answer → List Float → Taken
taken a room = record { answer = a; room = room }

unfoldable pub taken_of : List Float → List ℕ → ℕ → Taken
taken_of room t expected =
    let a = forcing_answer room t expected in
    taken a (cond (eqb a.number 0) (forcing_of (nodes_of room) t) room)
