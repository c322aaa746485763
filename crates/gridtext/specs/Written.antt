-- Document 02, #101, the other way round: the plainest text of a mesh. It has an empty title, one space between fields, no 0 in front of a number
-- (`numeral`), three decimals to a depth and a line feed after each line.
use Rattle.std.specs.Prelude.{ℕ, suc, ◌+◌, ◌*◌, ◌/◌, ◌%◌, ◌^◌, ◌<◌, ◌≡◌, true, List, [], ◌∷◌, ◌++◌, ℤ, pos, negsuc, nat_abs}
use Rattle.std.specs.Float.{binary64}
use Rattle.std.specs.Float.Ieee.{of_int}
use Rattle.rows.specs.Numbers.{decimal}
use Rattle.rows.specs.Scan.{accepted}
use Rattle.quantities.specs.Operations.{◌⊘◌}
use Rattle.lists.specs.Table.{table}
use Rattle.refusals.specs.Refusals.{numeral}
use Rattle.grids.specs.Numbers.{in32}
use Rattle.grids.specs.Grid.{Grid, grid, lengths_of, is_room, read_of, read_out}

-- ---- a field
-- a depth by its thousandths, with three decimals
unfoldable pub size_text : ℕ → List ℕ
size_text d = numeral (d / 1000) ++ (46 ∷ (48 + d / 100 % 10) ∷ (48 + d / 10 % 10) ∷ (48 + d % 10) ∷ [])

-- a number with a sign: a minus, and the text of its size
unfoldable pub signed_text : (ℕ → List ℕ) → ℤ → List ℕ
signed_text text (pos n) = text n
signed_text text (negsuc n) = 45 ∷ text (suc n)

abbrev pub whole_text : ℤ → List ℕ
whole_text z = signed_text numeral z

abbrev pub depth_text : ℤ → List ℕ
depth_text z = signed_text size_text z

-- ---- a line
-- fields with a space between them
unfoldable pub spaced : List (List ℕ) → List ℕ
spaced [] = []
spaced (f ∷ []) = f
spaced (f ∷ g ∷ fs) = f ++ (32 ∷ spaced (g ∷ fs))

-- lines by their fields, with a line feed after each
unfoldable pub lines_text : List (List (List ℕ)) → List ℕ
lines_text [] = []
lines_text (fs ∷ lines) = spaced fs ++ (10 ∷ lines_text lines)

-- ---- a mesh of whole metres and thousandths: N nodes with x, y and d, the depth's thousandths, E triangles of node numbers from 0
pub record Plain : Type 0 where
  pub nodes : ℕ
  pub triangles : ℕ
  pub x : ℕ → ℤ
  pub y : ℕ → ℤ
  pub d : ℕ → ℤ
  pub corner : ℕ → ℕ

abbrev pub node_fields : Plain → ℕ → List (List ℕ)
node_fields m i = numeral (1 + i) ∷ whole_text (m.x i) ∷ whole_text (m.y i) ∷ depth_text (m.d i) ∷ []

abbrev pub triangle_fields : Plain → ℕ → List (List ℕ)
triangle_fields m k = numeral (1 + k) ∷ numeral 3 ∷ table 3 (λ c. numeral (1 + m.corner (3 * k + c)))

abbrev pub grid_lines : Plain → List (List (List ℕ))
grid_lines m =
    [] ∷ (numeral m.triangles ∷ numeral m.nodes ∷ []) ∷ (table m.nodes (node_fields m) ++ table m.triangles (triangle_fields m))

abbrev pub grid_text : Plain → List ℕ
grid_text m = lines_text (grid_lines m)

-- the mesh as slices hold it
unfoldable pub plain_grid : Plain → Grid
plain_grid m =
    grid (table m.nodes m.x) (table m.nodes m.y) (table m.nodes (λ i. of_int binary64 (m.d i) ⊘ decimal 1000 1))
    (table (3 * m.triangles) m.corner)

-- coordinates of 32 bits, depths of at most nine whole digits, node numbers of 16 bits; and so few nodes and triangles as 20 digits count
pub record PlainSized (m : Plain) : Type 0 where
  pub nodes : m.nodes < 10 ^ 20
  pub triangles : m.triangles < 10 ^ 20
  pub x : (i : ℕ) → i < m.nodes → in32 (m.x i) ≡ true
  pub y : (i : ℕ) → i < m.nodes → in32 (m.y i) ≡ true
  pub d : (i : ℕ) → i < m.nodes → nat_abs (m.d i) < 10 ^ 12
  pub corners : (j : ℕ) → j < 3 * m.triangles → m.corner j < 65536

-- The reader does not refuse too much: every such mesh has a text that is accepted, with rooms of its lengths, and read as that mesh.
abbrev pub WrittenIsRead : Type 0
WrittenIsRead =
    (m : Plain) (r : Grid) → PlainSized m → is_room (lengths_of r) m.nodes m.triangles ≡ true → read_of r (grid_text m) ≡ read_out accepted (plain_grid m)
