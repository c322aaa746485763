-- Document 01: the state, and what a step and a save test first: the mesh's rows, then row 10.
use Rattle.std.specs.Prelude.{ℕ, List, length, get_or, Float}
use Rattle.std.specs.Float.{nan}
use Rattle.rows.specs.declared.Answer.{Answer}
use Rattle.lists.specs.Runs.{is_runs, in_run}
use Rattle.rows.specs.Scan.{row, ◌then◌, scan}
use Rattle.quantities.specs.declared.Parameters.{Parameters}
use Rattle.quantities.specs.declared.Node.{Node}
use Rattle.limits.specs.Limits.{in_bounds}
use Rattle.mesh.specs.Lent.{Mesh, N}
use Rattle.nodes.specs.Rows.{mesh_rows}

-- "The state is 4N numbers in four runs of N: earlier elevation, present elevation z, U, V." Document 02, #105: "The held wind moves from the clock to the
-- state: 6N numbers, with Wx and Wy of each node last"
abbrev pub state_runs : ℕ
state_runs = 6

-- node i of n, with depths h
abbrev pub node_of : ℕ → List Float → List Float → ℕ → Node
node_of n h state i = record {
  h = get_or h i nan;
  earlier = in_run n 0 state i;
  z = in_run n 1 state i;
  u = in_run n 2 state i;
  v = in_run n 3 state i;
  wx = in_run n 4 state i;
  wy = in_run n 5 state i;
}

-- | 1 | … a slice of another length |: of the state
abbrev pub row1_state : Mesh → List Float → Answer
row1_state m state = row (is_runs (length state) state_runs (N m)) 1 0

-- | 10 | either z beyond 30 in size, present h+z below 0.1, U or V beyond 20 | node |, and the node's winds beyond 0.1
unfoldable pub row10 : ℕ → List Float → List Float → ℕ → Answer
row10 n h state i = row (in_bounds (node_of n h state i)) 10 i

-- asked: what the call tests before the mesh's rows
unfoldable pub run_rows : Answer → Mesh → Parameters → List Float → Answer
run_rows asked m p state = mesh_rows (asked then row1_state m state) m p then scan (row10 (N m) m.h state) (N m)
