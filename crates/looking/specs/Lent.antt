-- Document 02, #106: "on numbers and byte slices only … State slices cross as big-endian byte patterns." What a call is lent, as bytes, and rows 1 to 10.
use Rattle.std.specs.Prelude.{ℕ, ◌%◌, ◌&&◌, List, eqb, length, Float}
use Rattle.rows.specs.declared.Answer.{Answer}
use Rattle.rows.specs.Scan.{row}
use Rattle.quantities.specs.declared.Parameters.{Parameters}
use Rattle.mesh.specs.Lent.{Mesh, mesh}
use Rattle.bounds.specs.State.{run_rows}
use Rattle.crossing.specs.Crossing.{ints_of, words_of, floats_of}
use Rattle.looking.specs.declared.Lent as slices

-- the slices of a mesh and a state, and the parameters of row 9
pub record Lent : Type 0 where
  pub state : List ℕ
  pub x : List ℕ
  pub y : List ℕ
  pub tri : List ℕ
  pub h : List ℕ
  pub kind : List ℕ
  pub p : Parameters

abbrev pub lent : List ℕ → List ℕ → List ℕ → List ℕ → List ℕ → List ℕ → Parameters → Lent
lent state x y tri h kind p = record { state = state; x = x; y = y; tri = tri; h = h; kind = kind; p = p }

-- the bytes of slices that are lent
abbrev pub lent_of : slices.Lent → Lent
lent_of l = lent l.state.now l.x.now l.y.now l.tri.now l.h.now l.kind.now l.p

module _ (b : Lent) where
  -- the numbers that they are
  abbrev pub mesh_in : Mesh
  mesh_in = mesh (ints_of b.x) (ints_of b.y) (words_of b.tri) (floats_of b.h) b.kind

  abbrev pub state_in : List Float
  state_in = floats_of b.state

  -- | 1 | … a slice of another length |: a byte slice that is no whole number of elements
  unfoldable pub row1_bytes : Answer
  row1_bytes =
      row (eqb (length b.x % 4) 0 && eqb (length b.y % 4) 0 && eqb (length b.tri % 2) 0 && eqb (length b.h % 8) 0 && eqb (length b.state % 8) 0) 1 0

  -- "after rows 1 to 10"
  unfoldable pub lent_rows : Answer
  lent_rows = run_rows row1_bytes mesh_in b.p state_in
