-- Document 01: a load. "A load goes through the lines, from 0, in each 20, 21, 22, 23, the length being that of the kind due there for the run's N,
-- and a missing line being of wrong length; then trailing bytes …; then 10 over the loaded values." Document 02, #105: "We read both editions".
use Rattle.std.specs.Prelude.{ℕ, ◌+◌, cond, List, [], ◌∷◌, eqb, leb, length, get_or, Float}
use Rattle.std.specs.Float.{nan}
use Rattle.rows.specs.declared.Answer.{Answer}
use Rattle.lists.specs.Runs.{runs_of}
use Rattle.rows.specs.Scan.{row, ◌then◌, scan}
use Rattle.quantities.specs.declared.Parameters.{Parameters}
use Rattle.quantities.specs.declared.Node.{Node}
use Rattle.frames.specs.Frames.{byte_of}
use Rattle.frames.specs.Reading.{value, float}
use Rattle.frames.specs.Texts.{start_of, line_at}
use Rattle.faults.specs.Faults.{line_fault}
use Rattle.surge.specs.declared.Clock.{Clock}
use Rattle.mesh.specs.Lent.{Mesh, N, E}
use Rattle.areas.specs.Areas.{sum_d}
use Rattle.surge.specs.Lent.{After, after}
use Rattle.nodes.specs.Rows.{mesh_rows}
use Rattle.bounds.specs.State.{row1_state}
use Rattle.limits.specs.Limits.{in_bounds}
use Rattle.editions.specs.Lines.{head2, Edition, edition_of, layout_at, node_line, line_count}
use Rattle.editions.specs.Rows.{row23, row25}

-- ---- a text of this edition, against a mesh of n nodes and e triangles, the sum of its D, and parameters
module _ (d : Edition) (n : ℕ) (t : List ℕ) where
  -- line j
  abbrev pub line_in : ℕ → List ℕ
  line_in = line_at (layout_at d n) t

  -- "in each 20, 21, 22, 23", and 25
  unfoldable pub line_rows : ℕ → ℕ → Parameters → ℕ → Answer
  line_rows e sum p j =
      let kind = (layout_at d n j).kind in
      line_fault (layout_at d n) t j then row23 n e (line_in j) kind j then row25 p sum (line_in j) kind j

  -- the head's step number: at the same bytes of both heads
  unfoldable pub clock_in : Clock
  clock_in = record { step = value (line_in 0) (byte_of head2.widths 2) 4 }

  -- the values of node i; "an edition 1 load gives every node the head's wind"
  unfoldable pub node_in : List Float → ℕ → Node
  node_in h i =
      let l = line_in (node_line d i) in
      let w = line_in (d.wind_line i) in
      let at = byte_of d.node.widths in
      record {
        h = get_or h i nan;
        earlier = float l (at 0);
        z = float l (at 1);
        u = float l (at 2);
        v = float l (at 3);
        wx = float w d.wind_byte;
        wy = float w (8 + d.wind_byte);
      }

  -- "then 10 over the loaded values": row 10 of node i
  abbrev pub row10_in : List Float → ℕ → Answer
  row10_in h i = row (in_bounds (node_in h i)) 10 i

  -- bytes after the last line: "Bytes after edition 2's end are at line N+3", of edition 1's at line N+2
  unfoldable pub trailing_row : Answer
  trailing_row = row (leb (length t) (start_of (layout_at d n) (line_count d n))) 20 (line_count d n)

  -- the rows of a text: its lines, then trailing bytes, then 10
  unfoldable pub rows_in : ℕ → ℕ → Parameters → List Float → Answer
  rows_in e sum p h = scan (line_rows e sum p) (line_count d n) then trailing_row then scan (row10_in h) n

  -- the loaded state: "6N numbers, with Wx and Wy of each node last"
  unfoldable pub state_in : List Float → List Float
  state_in h =
      let c = node_in h in
      runs_of n ((λ i. (c i).earlier) ∷ (λ i. (c i).z) ∷ (λ i. (c i).u) ∷ (λ i. (c i).v) ∷ (λ i. (c i).wx) ∷ (λ i. (c i).wy) ∷ [])

-- ---- the call
unfoldable pub load_answer : Mesh → Parameters → List ℕ → List Float → Answer
load_answer m p t state = mesh_rows (row1_state m state) m p then rows_in (edition_of t) (N m) t (E m) (sum_d m) p m.h

-- a refusal leaves state and clock as found
unfoldable pub load_of : Mesh → Parameters → List ℕ → List Float → Clock → After
load_of m p t state k =
    let a = load_answer m p t state in
    let d = edition_of t in
    cond (eqb a.number 0) (after (record { answer = a; clock = clock_in d (N m) t }) (state_in d (N m) t m.h)) (after (record { answer = a; clock = k }) state)
