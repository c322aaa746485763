-- Document 01, "Refusal table": the mesh's own rows, 1 to 5, each under its line of the table, and their order.
use Rattle.std.specs.Prelude.{ℕ, ◌/◌, ◌%◌, Bool, ◌&&◌, List, ℤ, pos, ltb, leb, eqb, length}
use Rattle.std.specs.Int.Signed.{lt_z}
use Rattle.rows.specs.declared.Answer.{Answer}
use Rattle.rows.specs.Scan.{row, ◌then◌, scan}
use Rattle.lists.specs.Gather.{Three}
use Rattle.mesh.specs.Lent.{Mesh, N, E, corners}
use Rattle.mesh.specs.Geometry.{sides}
use Rattle.geometry.specs.Geometry.{D, all_near}

-- | 1 | triangle list no multiple of 3, or a slice of another length |: of the mesh's slices, by their lengths. Each call tests it of the others that it is
-- lent
abbrev pub length_row : ℕ → ℕ → ℕ → ℕ → ℕ → Answer
length_row n y tri h kind = row (eqb y n && eqb h n && eqb kind n && eqb (tri % 3) 0) 1 0

unfoldable pub row1 : Mesh → Answer
row1 m = length_row (N m) (length m.y) (length m.tri) (length m.h) (length m.kind)

-- | 2 | N not 3..4,096 or E not 1..8,192 |
abbrev pub count_row : ℕ → ℕ → Answer
count_row n e = row (leb 3 n && leb n 4096 && leb 1 e && leb e 8192) 2 0

unfoldable pub row2 : Mesh → Answer
row2 m = count_row (N m) (E m)

-- both, of slices that have these lengths. asked: what the call tests before them
unfoldable pub size_rows : Answer → ℕ → ℕ → ℕ → ℕ → ℕ → Answer
size_rows asked n y tri h kind = asked then length_row n y tri h kind then count_row n (tri / 3)

-- each corner is a node number below n
unfoldable pub all_below : Three ℕ → ℕ → Bool
all_below c n = ltb c.first n && ltb c.second n && ltb c.third n

module _ (x y : List ℤ) (tri : List ℕ) (t : ℕ) where
  -- | 3 | a node number is N or more | triangle |
  unfoldable pub row3 : Answer
  row3 = row (all_below (corners tri t) (length x)) 3 t

  -- | 4 | an a or b beyond 100,000 in size | triangle |
  unfoldable pub row4 : Answer
  row4 = row (all_near (sides x y (corners tri t))) 4 t

  -- | 5 | D is 0 or less | triangle |
  unfoldable pub row5 : Answer
  row5 = row (lt_z (pos 0) (D (sides x y (corners tri t)))) 5 t

  -- "triangle by triangle 3, 4, 5"
  unfoldable pub triangle_rows : Answer
  triangle_rows = row3 then row4 then row5

-- "Order: 1, 2, then triangle by triangle 3, 4, 5". asked: what the call tests before them
unfoldable pub shape_rows : Answer → Mesh → Answer
shape_rows asked m = asked then row1 m then row2 m then scan (triangle_rows m.x m.y m.tri) (E m)
