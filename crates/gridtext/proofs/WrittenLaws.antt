-- The text that is written of a mesh is accepted, and read as that mesh.
use Prim.Native.Nat.{ℕ, suc, ◌+◌, ◌*◌, ◌/◌, ◌%◌, ◌<◌}
use mathlib.Core.Path.{◌≡◌, refl, ap, ◌∙◌}
use mathlib.Core.Bool.{true}
use mathlib.Core.List.{List, []}
use native.Mathlib.Omega.{arith}
use borrow.Author.Tests.{eq-eqb, lt-ltb, le-leb}
use lib.ListN.{length, get_or, get_or-append}
use lib.Seq.{get_or-append-add}
use Rattle.rows.specs.Scan.{accepted, row, ◌then◌}
use Rattle.rows.proofs.ScanLaws.{row_holds, scan_none}
use Rattle.lists.specs.Table.{table}
use Rattle.lists.proofs.TableLaws.{length_table, get_d_table, table_same}
use Rattle.grids.specs.Text.{cut, pieces_of, lines_of, line_of, fields_of, exactly}
use Rattle.grids.specs.Numbers.{number_of, whole_of, depth_of}
use Rattle.grids.specs.Grid.{grid, Lengths, lengths_of, title_row, count_line, count_e, count_n, is_room, count_line_rows, node_line_rows, is_corner, triangle_line_rows}
use Rattle.grids.specs.Grid.{node_line, triangle_line, grid_rows, corner_in, grid_of, read_of}
use Rattle.refusals.specs.Refusals.{numeral}
use Rattle.gridtext.specs.Written.{size_text, spaced, lines_text, node_fields, triangle_fields, grid_lines, grid_text}
use Rattle.gridtext.specs.Written.{Plain, PlainSized, plain_grid, WrittenIsRead}
use Rattle.gridtext.proofs.PieceLaws.{all_join, all_table, Word, word_less, Fields, lines_back}
use Rattle.gridtext.proofs.NumeralLaws.{numeral_word, signed_word, size_word}
use Rattle.gridtext.proofs.NumeralLaws.{is_number_lem, number_back, is_whole_lem, whole_back, is_depth_lem, is_short_lem, depth_back}

number_word : (n : ℕ) → Word 32 (numeral n)
number_word n = word_less 32 45 (numeral n) (omega arith) (numeral_word n)

module _ (m : Plain) where
  abbrev text : List ℕ
  text = grid_text m

  -- ---- the fields of each line
  abbrev nodes : List (List (List ℕ))
  nodes = table m.nodes (node_fields m)

  abbrev triangles : List (List (List ℕ))
  triangles = table m.triangles (triangle_fields m)

  each_node : (i : ℕ) → Fields (node_fields m i)
  each_node i =
      let whole = signed_word numeral numeral_word in
      (number_word (1 + i), (whole (m.x i), (whole (m.y i), (signed_word size_text size_word (m.d i), tt))))

  each_triangle : (k : ℕ) → Fields (triangle_fields m k)
  each_triangle k = (number_word (1 + k), (number_word 3, all_table (Word 32) 3 _ (λ c. number_word (1 + m.corner (3 * k + c)))))

  written : (j : ℕ) → fields_of (line_of text j) ≡ get_or (grid_lines m) j []
  written j =
      let rest = all_join Fields nodes triangles (all_table Fields _ (node_fields m) each_node) (all_table Fields _ (triangle_fields m) each_triangle) in
      lines_back (grid_lines m) j (tt, ((number_word m.triangles, (number_word m.nodes, tt)), rest))

  node_fields_lem : (i : ℕ) → i < m.nodes → fields_of (node_line text i) ≡ node_fields m i
  node_fields_lem i h =
      let long = length_table m.nodes (node_fields m) in
      let e : 2 + i ≡ suc (suc i) = omega arith in
      written (2 + i) ∙ rw e (get_or-append nodes triangles [] i (omega arith) ∙ get_d_table m.nodes (node_fields m) i [] h)

  triangle_fields_lem : (k : ℕ) → k < m.triangles → fields_of (line_of text (2 + m.nodes + k)) ≡ triangle_fields m k
  triangle_fields_lem k h =
      let long = length_table m.nodes (node_fields m) in
      let e : 2 + m.nodes + k ≡ suc (suc (length nodes + k)) = omega arith in
      written (2 + m.nodes + k) ∙ rw e (get_or-append-add nodes triangles k [] ∙ get_d_table m.triangles (triangle_fields m) k [] h)

  -- ---- what is read of them
  by_node : {A : Type 0} (read : List (List ℕ) → A) (f : ℕ → A) → ((i : ℕ) → i < m.nodes → read (node_fields m i) ≡ f i)
      → table m.nodes (λ i. read (fields_of (node_line text i))) ≡ table m.nodes f
  by_node read f h = table_same m.nodes _ f (λ i l. ap read (node_fields_lem i l) ∙ h i l)

  module _ (s : PlainSized m) where
    count : (count_e text ≡ m.triangles) × (count_n text ≡ m.nodes)
    count = rw (written 1) (number_back m.triangles (omega arith), number_back m.nodes (omega arith))

    corner_back : (j : ℕ) → j < 3 * m.triangles → corner_in (triangle_line text) j ≡ m.corner j
    corner_back j h =
        let place : 2 + j % 3 ≡ suc (suc (j % 3)) = omega arith in
        let same : 3 * (j / 3) + j % 3 ≡ j = omega arith in
        let small = s.corners j h in
        rw (count.1, triangle_fields_lem (j / 3) (omega arith), place, get_d_table 3 (λ c. numeral (1 + m.corner (3 * (j / 3) + c))) (j % 3) [] (omega arith), same)
        (rw (number_back (1 + m.corner j) (omega arith)) (omega arith))

    grid_back : grid_of text ≡ plain_grid m
    unfolding grid_of plain_grid
    grid_back =
        let x = by_node (λ fs. whole_of (get_or fs 1 [])) m.x (λ i h. whole_back (m.x i) (s.x i h)) in
        let y = by_node (λ fs. whole_of (get_or fs 2 [])) m.y (λ i h. whole_back (m.y i) (s.y i h)) in
        let d = by_node (λ fs. depth_of (get_or fs 3 [])) _ (λ i h. depth_back (m.d i) (s.d i h)) in
        rw (count.0, count.1) (λ j. grid (x j) (y j) (d j) (table_same (3 * m.triangles) _ m.corner corner_back j))

    -- ---- each row accepts
    title_row_lem : title_row text ≡ accepted
    unfolding title_row lines_text spaced pieces_of cut
    title_row_lem = row_holds 30 0 (lt-ltb 0 (length (lines_of text)) (omega arith))

    count_rows : (r : Lengths) → is_room r m.nodes m.triangles ≡ true → count_line_rows r (count_line text) ≡ accepted
    unfolding count_line_rows exactly row ◌then◌
    count_rows r h = rw (count.0, count.1, h, written 1, is_number_lem m.triangles, is_number_lem m.nodes)

    node_row : (i : ℕ) → i < m.nodes → (node_line_rows i (node_line text i)).number ≡ 0
    unfolding node_line_rows exactly row ◌then◌
    node_row i h =
        rw (node_fields_lem i h, is_number_lem (1 + i), is_whole_lem (m.x i), is_whole_lem (m.y i), is_depth_lem (m.d i), number_back (1 + i) (omega arith))
        (rw (eq-eqb (1 + i) (1 + i) refl, whole_back (m.x i) (s.x i h), whole_back (m.y i) (s.y i h), s.x i h, s.y i h, is_short_lem (m.d i) (s.d i h)))

    is_corner_lem : (j : ℕ) → j < 3 * m.triangles → is_corner (number_of (numeral (1 + m.corner j))) ≡ true
    is_corner_lem j h =
        let v = 1 + m.corner j in
        let small = s.corners j h in
        rw (number_back v (omega arith), le-leb 1 v (omega arith), le-leb v 65536 (omega arith))

    triangle_row : (k : ℕ) → k < m.triangles → (triangle_line_rows m.nodes k (line_of text (2 + m.nodes + k))).number ≡ 0
    unfolding triangle_line_rows exactly row ◌then◌ table
    triangle_row k h =
        rw (triangle_fields_lem k h, number_back 3 (omega arith), number_back (1 + k) (omega arith), eq-eqb (1 + k) (1 + k) refl)
        (simp (is_number_lem, is_corner_lem (3 * k + 0) (omega arith), is_corner_lem (3 * k + 1) (omega arith), is_corner_lem (3 * k + 2) (omega arith)))

    answer : (r : Lengths) → is_room r m.nodes m.triangles ≡ true → grid_rows r text ≡ accepted
    unfolding grid_rows ◌then◌
    answer r h =
        let all-nodes = scan_none (λ i. node_line_rows i (node_line text i)) m.nodes node_row in
        let all-triangles = scan_none (λ k. triangle_line_rows m.nodes k (line_of text (2 + m.nodes + k))) m.triangles triangle_row in
        rw (title_row_lem, count_rows r h, count.0, count.1, all-nodes, all-triangles)

pub written_is_read : WrittenIsRead
unfolding read_of
written_is_read m r s h = rw (answer m s (lengths_of r) h, grid_back m s)
