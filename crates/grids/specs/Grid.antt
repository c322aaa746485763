-- Document 02, #101: the grid file. "a title line, a line with E and N, node lines (number, x, y, depth), triangle lines (number, 3, three node numbers
-- from 1)", and the rows 30 to 33 of its lines.
use Rattle.std.specs.Prelude.{ℕ, ◌+◌, ◌-◌, ◌*◌, ◌/◌, ◌%◌, Bool, cond, ◌&&◌, List, [], ◌∷◌, length, ℤ, ◌==◌, nat_le, nat_lt, Float}
use Rattle.rows.specs.declared.Answer.{Answer}
use Rattle.rows.specs.Scan.{row, ◌then◌, scan}
use Rattle.lists.specs.Table.{table}
use Rattle.mesh.specs.Lent.{Mesh, mesh}
use Rattle.grids.specs.Text.{lines_of, line_of, fields_of, field_of, exactly}
use Rattle.grids.specs.Numbers.{is_number, number_of, is_whole, whole_of, in32, is_depth, is_short, depth_of}

-- what a grid file fills: the rooms that a reading is lent
pub record Grid : Type 0 where
  pub x : List ℤ
  pub y : List ℤ
  pub h : List Float
  pub tri : List ℕ

abbrev pub grid : List ℤ → List ℤ → List Float → List ℕ → Grid
grid x y h tri = record { x = x; y = y; h = h; tri = tri }

-- how long they are
pub record Lengths : Type 0 where
  pub x : ℕ
  pub y : ℕ
  pub h : ℕ
  pub tri : ℕ

abbrev pub lengths : ℕ → ℕ → ℕ → ℕ → Lengths
lengths x y h tri = record { x = x; y = y; h = h; tri = tri }

abbrev pub lengths_of : Grid → Lengths
lengths_of r = lengths (length r.x) (length r.y) (length r.h) (length r.tri)

-- ---- what each line is to hold
-- "a title line": any bytes. | 30 | a missing line | line |
unfoldable pub title_row : List ℕ → Answer
title_row t = row (nat_lt 0 (length (lines_of t))) 30 0

-- "a line with E and N"
abbrev pub count_tests : List (List ℕ → Bool)
count_tests = is_number ∷ is_number ∷ []

-- the rooms have the lengths that N and E give
unfoldable pub is_room : Lengths → ℕ → ℕ → Bool
is_room r n e = r.x == n && r.y == n && r.h == n && r.tri == 3 * e

-- "30 for a malformed, missing or extra field or a missing line, then on the second line 33 when a room lent hasn't the length its N and E give"
unfoldable pub count_line_rows : Lengths → List ℕ → Answer
count_line_rows r line =
    let f = field_of line in
    row (exactly count_tests (fields_of line)) 30 1
    then row (is_room r (number_of (f 1)) (number_of (f 0))) 33 1

-- "node lines (number, x, y, depth)"; "numbers run 1 upwards in order": 30, then "31 for a number out of order, 32 for a coordinate beyond 32 bits
-- signed, a depth with more than three decimals or nine whole digits". Of node i, from 0, whose line it is.
abbrev pub node_tests : List (List ℕ → Bool)
node_tests = is_number ∷ is_whole ∷ is_whole ∷ is_depth ∷ []

unfoldable pub node_line_rows : ℕ → List ℕ → Answer
node_line_rows i line =
    let f = field_of line in
    row (exactly node_tests (fields_of line)) 30 (2 + i)
    then row (number_of (f 0) == 1 + i) 31 (2 + i)
    then row (in32 (whole_of (f 1)) && in32 (whole_of (f 2)) && is_short (f 3)) 32 (2 + i)

-- "triangle lines (number, 3, three node numbers from 1)"; "or a corner number outside 1 to 65,536". Of triangle k, from 0, after n nodes.
abbrev pub is_three : List ℕ → Bool
is_three f = is_number f && number_of f == 3

abbrev pub triangle_tests : List (List ℕ → Bool)
triangle_tests = is_number ∷ is_three ∷ is_number ∷ is_number ∷ is_number ∷ []

abbrev pub is_corner : ℕ → Bool
is_corner v = nat_le 1 v && nat_le v 65536

unfoldable pub triangle_line_rows : ℕ → ℕ → List ℕ → Answer
triangle_line_rows n k line =
    let f = field_of line in
    row (exactly triangle_tests (fields_of line)) 30 (2 + n + k)
    then row (number_of (f 0) == 1 + k) 31 (2 + n + k)
    then row (is_corner (number_of (f 2)) && is_corner (number_of (f 3)) && is_corner (number_of (f 4))) 32 (2 + n + k)

-- ---- the lines in order: "line by line", "line from 0 as place"
abbrev pub count_line : List ℕ → List ℕ
count_line t = line_of t 1

abbrev pub count_e : List ℕ → ℕ
count_e t = number_of (field_of (count_line t) 0)

abbrev pub count_n : List ℕ → ℕ
count_n t = number_of (field_of (count_line t) 1)

abbrev pub node_line : List ℕ → ℕ → List ℕ
node_line t i = line_of t (2 + i)

abbrev pub triangle_line : List ℕ → ℕ → List ℕ
triangle_line t k = line_of t (2 + count_n t + k)

-- "What follows the triangles isn't read."
unfoldable pub grid_rows : Lengths → List ℕ → Answer
grid_rows r t =
    title_row t
    then count_line_rows r (count_line t)
    then scan (λ i. node_line_rows i (node_line t i)) (count_n t)
    then scan (λ k. triangle_line_rows (count_n t) k (triangle_line t k)) (count_e t)

-- the answer: of the rooms, only their lengths are asked
abbrev pub grid_answer : Grid → List ℕ → Answer
grid_answer r t = grid_rows (lengths_of r) t

-- ---- the mesh of a text
module _ (line : ℕ → List ℕ) where
  -- of node i, of nodes with these lines
  abbrev pub x_in : ℕ → ℤ
  x_in i = whole_of (field_of (line i) 1)

  abbrev pub y_in : ℕ → ℤ
  y_in i = whole_of (field_of (line i) 2)

  abbrev pub h_in : ℕ → Float
  h_in i = depth_of (field_of (line i) 3)

  -- corner j, from 0, of triangles with these lines: a corner number counts from 1, and a node number from 0
  abbrev pub corner_in : ℕ → ℕ
  corner_in j = number_of (field_of (line (j / 3)) (2 + j % 3)) - 1

unfoldable pub grid_of : List ℕ → Grid
grid_of t = record {
  x = table (count_n t) (x_in (node_line t));
  y = table (count_n t) (y_in (node_line t));
  h = table (count_n t) (h_in (node_line t));
  tri = table (3 * count_e t) (corner_in (triangle_line t));
}

-- "kinds are lent beside it"
abbrev pub with_kinds : Grid → List ℕ → Mesh
with_kinds g kind = mesh g.x g.y g.tri g.h kind

abbrev pub grid_mesh : List ℕ → List ℕ → Mesh
grid_mesh t kind = with_kinds (grid_of t) kind

-- ---- the reading: "A refused reading leaves the lent rooms untouched."
pub record ReadOut : Type 0 where
  pub answer : Answer
  pub rooms : Grid

abbrev pub read_out : Answer → Grid → ReadOut
read_out a r = record { answer = a; rooms = r }

unfoldable pub read_of : Grid → List ℕ → ReadOut
read_of r t =
    let a = grid_answer r t in
    read_out a (cond (a.number == 0) (grid_of t) r)
