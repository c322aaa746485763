-- Document 01: opening a mesh "is rows 1 to 9 and writes only the cold state; it hands back the cold clock, refused or not".
use Rattle.std.specs.Prelude.{cond, List, eqb, Float}
use Rattle.rows.specs.declared.Answer.{Answer}
use Rattle.rows.specs.Refusals.{answered}
use Rattle.quantities.specs.declared.Parameters.{Parameters}
use Rattle.mesh.specs.Lent.{Mesh, N}
use Rattle.nodes.specs.Rows.{open_rows}
use Rattle.bounds.specs.State.{row1_state}
use Rattle.surge.specs.declared.Reply as handed
use Rattle.surge.specs.Lent.{Reply, cold_state, cold_clock, After, after}

-- the answer: row 1 covers the state's 6N, and row 6 is tested
unfoldable pub open_answer : Mesh → Parameters → List Float → Answer
open_answer m p state = open_rows (row1_state m state) m p

-- what is handed back, refused or not: the answer, and the clock that the call gave
abbrev pub open_replied : handed.Reply → Reply
open_replied o = record { answer = answered o.asked; clock = o.clock }

unfoldable pub open_of : Mesh → Parameters → List Float → After
open_of m p state =
    let a = open_answer m p state in
    after (record { answer = a; clock = cold_clock }) (cond (eqb a.number 0) (cold_state (N m)) state)
