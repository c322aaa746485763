-- Document 01, "Examples": those marked P, as one table. Each entry has what the definitions give beside what the document says. An entry on a save says
-- of which edition it is: document 01's are of edition 1, which is still read, and document 02, #105, has 442 at 12, of edition 2.
use Rattle.std.specs.Prelude.{ℕ, ◌%◌, ◌≡◌, false, List, [], ◌∷◌, ◌++◌, map, ℤ, pos, negsuc, length, drop, replicate}
use Rattle.rows.specs.declared.Answer.{Answer}
use Rattle.lists.specs.Table.{table, zeros}
use Rattle.rows.specs.Numbers.{plus0, decimal}
use Rattle.rows.specs.Scan.{accepted, refused}
use Rattle.quantities.specs.declared.Parameters.{Parameters}
use Rattle.geometry.specs.declared.WholeSides.{WholeSides}
use Rattle.frames.specs.Bytes.{bytes, sum}
use Rattle.frames.specs.Frames.{Frame, text}
use Rattle.frames.specs.Texts.{lines_to}
use Rattle.mesh.specs.Lent.{Mesh, mesh, N, corners}
use Rattle.surge.specs.Lent.{run, cold_state, cold_clock}
use Rattle.mesh.specs.Geometry.{sides}
use Rattle.geometry.specs.Geometry.{D}
use Rattle.surge.specs.Open.{open_answer}
use Rattle.surge.specs.Step.{step_of}
use Rattle.passes.specs.Settle.{Rooms, lent_rooms}
use Rattle.editions.specs.Lines.{edition1, edition2, line_of}
use Rattle.saves.specs.Save.{saved_of, values1, values2, save_text, save_text1}
use Rattle.loads.specs.Load.{load_answer}
use Rattle.forcelog.specs.Empty.{head_with, end_with}

-- what an example speaks of: the a, b and D of a triangle, the whole answer of a call (number, place and value), a count, an answer with the
-- step number of the clock that is held after it, or a text
pub data Outcome : Type 0 where
  triangle : WholeSides → ℤ → Outcome
  answer : Answer → Outcome
  count : ℕ → Outcome
  stepped : Answer → ℕ → Outcome
  characters : List ℕ → Outcome

pub record Example : Type 0 where
  pub gives : Outcome
  pub says : Outcome

-- "mesh T: (0,0), (100,0), (0,100), triangle 0 1 2, h 8, kinds 0, dt 1, tau, K, f 0"; here with other coordinates and triangles
abbrev pub like_t : List ℤ → List ℤ → List ℕ → Mesh
like_t x y tri = mesh x y tri (replicate (length x) (decimal 8 1)) (replicate (length x) 0)

abbrev pub T_parameters : Parameters
T_parameters = record { dt = decimal 1 1; tau = decimal 0 1; k = decimal 0 1; f = decimal 0 1; advection = false }

-- T's coordinates, with corner 1 at x
abbrev pub T_x : ℕ → List ℤ
T_x x = pos 0 ∷ pos x ∷ pos 0 ∷ []

abbrev pub T_y : List ℤ
T_y = pos 0 ∷ pos 0 ∷ pos 100 ∷ []

-- T itself
abbrev pub T : Mesh
T = like_t (T_x 100) T_y (0 ∷ 1 ∷ 2 ∷ [])

-- T's next state and work room: "6N", "3N binary64 and N 64-bit unsigned", which "grows by 2N binary64"
abbrev pub T_rooms : Rooms
T_rooms = lent_rooms (zeros 18) (zeros 15) (table 3 (λ _. 0))

abbrev pub geometry : Mesh → Outcome
geometry m = let s = sides m.x m.y (corners m.tri 0) in triangle s (D s)

-- what opening a mesh answers, with a state of 6N
abbrev pub opening : Mesh → Outcome
opening m = answer (open_answer m T_parameters (cold_state (N m)))

-- what loading a text on T answers, with a state of 6N
abbrev pub loading : List ℕ → Outcome
loading t = answer (load_answer T T_parameters t (cold_state 3))

-- a whole step on T, from the cold state with the clock at this step number, with a forcing of seven +0
abbrev pub stepping : ℕ → Outcome
stepping number =
    let o = step_of T T_parameters (run (cold_state 3) (record { step = number })) (zeros 7) T_rooms in
    stepped o.reply.answer o.reply.clock.step

-- line j of a cold save of T, and the whole text, in each edition
abbrev pub old_line : ℕ → Frame
old_line = line_of edition1 3 (values1 3 1 (cold_state 3) 0 (record { x = plus0; y = plus0 }))

abbrev pub old_text : List ℕ
old_text = save_text1 3 1 (cold_state 3) 0 (record { x = plus0; y = plus0 })

abbrev pub new_line : ℕ → Frame
new_line = line_of edition2 3 (values2 (saved_of T T_parameters (cold_state 3) cold_clock))

abbrev pub new_text : List ℕ
new_text = save_text (saved_of T T_parameters (cold_state 3) cold_clock)

abbrev pub example : Outcome → Outcome → Example
example g s = record { gives = g; says = s }

unfoldable pub examples : List Example
examples =
    -- 1. "T has a = -100, 0, 100; b = -100, 100, 0; D = 10,000."
    example (geometry T)
    (triangle (record { a1 = negsuc 99; a2 = pos 0; a3 = pos 100; b1 = negsuc 99; b2 = pos 100; b3 = pos 0 }) (pos 10000))
    -- T itself is accepted
    ∷ example (opening T) (answer accepted)
    -- 2. "triangle 0 2 1 on T: 5."
    ∷ example (opening (like_t (T_x 100) T_y (0 ∷ 2 ∷ 1 ∷ []))) (answer (refused 5 0))
    -- 3. "triangle 0 1 1: 5."
    ∷ example (opening (like_t (T_x 100) T_y (0 ∷ 1 ∷ 1 ∷ []))) (answer (refused 5 0))
    -- 4. "node number 3: 3."
    ∷ example (opening (like_t (T_x 100) T_y (0 ∷ 1 ∷ 3 ∷ []))) (answer (refused 3 0))
    -- 5. "corner at x = 100,000 passes row 4; 100,001 gives 4."
    ∷ example (opening (like_t (T_x 100000) T_y (0 ∷ 1 ∷ 2 ∷ []))) (answer accepted)
    ∷ example (opening (like_t (T_x 100001) T_y (0 ∷ 1 ∷ 2 ∷ []))) (answer (refused 4 0))
    -- 6. "the same triangle twice: 6, place 1."
    ∷ example (opening (like_t (T_x 100) T_y (0 ∷ 1 ∷ 2 ∷ 0 ∷ 1 ∷ 2 ∷ []))) (answer (refused 6 1))
    -- 7. "N 4 with triangle 0 1 2: 7, place 3."
    ∷ example (opening (like_t (pos 0 ∷ pos 100 ∷ pos 0 ∷ pos 7 ∷ []) (pos 0 ∷ pos 0 ∷ pos 100 ∷ pos 7 ∷ []) (0 ∷ 1 ∷ 2 ∷ []))) (answer (refused 7 3))
    -- edition 1: the head and the end of a cold save of T are those shown
    ∷ example (characters (text (old_line 0))) (characters (head_with 70 66))
    ∷ example (characters (text (old_line 4))) (characters (end_with 52 54))
    -- 8, edition 1. "head above sums to 0; with FA it is 21."
    ∷ example (count (sum (bytes (head_with 70 66)) % 256)) (count 0)
    ∷ example (loading (head_with 70 65)) (answer (refused 21 0))
    -- 9, edition 1. "lower-case `fb`: 20." Document 02, #104: "01's example 9 becomes an accepted case." With `fa` it is 21, as 8, and with `fg` 20
    ∷ example (loading (head_with 102 98 ++ drop 57 old_text)) (answer accepted)
    ∷ example (loading (head_with 102 97)) (answer (refused 21 0))
    ∷ example (loading (head_with 102 103)) (answer (refused 20 0))
    -- 10, edition 1. "end line with sequence 5 and check F5: 22." With sequence 4 and check F6 it is accepted
    ∷ example (loading (lines_to old_line 4 ++ end_with 53 53)) (answer (refused 22 4))
    ∷ example (loading (lines_to old_line 4 ++ end_with 52 54)) (answer accepted)
    -- 10, edition 2: there sequence 5 and check F5 are right, and sequence 4 and check F6 the 22
    ∷ example (loading (lines_to new_line 5 ++ end_with 53 53)) (answer accepted)
    ∷ example (loading (lines_to new_line 5 ++ end_with 52 54)) (answer (refused 22 5))
    -- 11. "step 4,294,967,294 may step, the next may not."
    ∷ example (stepping 4294967294) (stepped accepted 4294967295)
    ∷ example (stepping 4294967295) (stepped (refused 11 0) 4294967295)
    -- 12, edition 1. "save length 289 at N 3." Edition 2: "01's example 12 becomes 442"
    ∷ example (count (length old_text)) (count 289)
    ∷ example (count (length new_text)) (count 442)
    ∷ []

-- the one statement: what the definitions give is what the document says
abbrev pub ExamplesHold : Type 0
ExamplesHold = map (λ (e : Example). e.gives) examples ≡ map (λ (e : Example). e.says) examples
