-- Document 01, "Refusal table": rows 7 and 8, each under its line of the table, and the order of the mesh's rows. Rows 1 to 5 are in the crate `mesh`, 6 in
-- `legs`, 9 in `limits`.
use Rattle.std.specs.Prelude.{ℕ, Bool, List, eqb, length, get_or, Float}
use Rattle.std.specs.Float.{nan}
use Rattle.rows.specs.declared.Answer.{Answer}
use Rattle.rows.specs.Scan.{row, ◌then◌, scan, some}
use Rattle.quantities.specs.declared.Parameters.{Parameters}
use Rattle.limits.specs.Limits.{is_node, row9}
use Rattle.mesh.specs.Lent.{Mesh, N, E}
use Rattle.mesh.specs.Rows.{shape_rows}
use Rattle.legs.specs.Legs.{row6}

-- | 7 | node in no triangle | node |
unfoldable pub is_named : List ℕ → ℕ → Bool
is_named tri i = some (λ j. eqb (get_or tri j 0) i) (length tri)

unfoldable pub row7 : List ℕ → ℕ → Answer
row7 tri i = row (is_named tri i) 7 i

-- | 8 | h not 1..12,000, or kind above 2 | node |
unfoldable pub row8 : List Float → List ℕ → ℕ → Answer
row8 h kind i = row (is_node (get_or h i nan) (get_or kind i 0)) 8 i

-- "7, 8, 9, and the first place in each"
unfoldable pub node_rows : ℕ → List ℕ → List Float → List ℕ → Parameters → Answer
node_rows n tri h kind p = scan (row7 tri) n then scan (row8 h kind) n then row9 p

-- "Order: 1, 2, then triangle by triangle 3, 4, 5, then 6, 7, 8, 9, and the first place in each." asked: what the call tests before them
-- "Every call on a run begins with rows 1 to 9 over the slices lent to it. Row 6 is tested only when a mesh is opened"
unfoldable pub mesh_rows : Answer → Mesh → Parameters → Answer
mesh_rows asked m p = shape_rows asked m then node_rows (N m) m.tri m.h m.kind p

unfoldable pub open_rows : Answer → Mesh → Parameters → Answer
open_rows asked m p = shape_rows asked m then scan (row6 m.tri) (E m) then node_rows (N m) m.tri m.h m.kind p
