-- The rows of a text put together from its lines, and what is known of each line where all of them accept.
use Rattle.std.proofs.Common.{◌≡◌, ℕ, suc, ◌+◌, ◌-◌, ◌*◌, ◌/◌, ◌%◌, ◌<◌, Bool, true, false, ◌&&◌, eqb, ltb, List, [], ◌∷◌, length, ℤ, sym, refl, ap, ◌∙◌, arith, lt-ltb, eq-eqb, ne_eqb, eqb-true}
use lib.Ieee.{Float}
use Rattle.std.specs.Prelude.{Err, IsErrAnd}
use Rattle.rows.specs.declared.Answer.{Answer}
use Rattle.rows.specs.declared.Refusal.{Refusal}
use Rattle.rows.specs.Scan.{accepted, row, scan}
use Rattle.rows.specs.Refusals.{answered}
use Rattle.rows.proofs.ScanLaws.{row_passed, then_first, then_rest, scan_clean, scan_same, both_left, both_right}
use Rattle.rows.proofs.RefusalLaws.{Asked, stands, refuses, accepts}
use Rattle.lists.specs.Table.{table}
use Rattle.lists.proofs.TableLaws.{table_same}
use Rattle.grids.specs.Text.{cut, pieces_of, lines_of, line_of, field_of}
use Rattle.grids.specs.Numbers.{number_of, whole_of, depth_of, after_first}
use Rattle.grids.specs.Grid.{Grid, grid, lengths, lengths_of, title_row, is_room, count_line_rows, node_line_rows, triangle_line_rows, count_line, count_e, count_n, node_line, triangle_line, grid_rows, grid_answer, corner_in, grid_of, read_out, read_of}
use Rattle.grids.specs.Private.{present, after_lines, NodesFilled}
use Rattle.grids.proofs.TextLaws.{asked, line_at, lines_add, after_add}

-- ---- the title
title_there : (t : List ℕ) → ltb 0 (length t) ≡ ltb 0 (length (lines_of t))
unfolding cut pieces_of
title_there [] = refl
title_there (b ∷ t) = lt-ltb 0 (suc (length t)) (omega arith) ∙ sym (go (eqb b 10) (lines_of t))
  where
    go : (c : Bool) (ps : List (List ℕ)) → ltb 0 (length (cut c b ps)) ≡ true
    go true ps = lt-ltb 0 (suc (length ps)) (omega arith)
    go false [] = refl
    go false (p ∷ ps) = lt-ltb 0 (suc (length ps)) (omega arith)

pub title_row_lem : (t : List ℕ) → row (ltb 0 (length t)) 30 0 ≡ title_row t
unfolding title_row
title_row_lem t = ap (λ (b : Bool). row b 30 0) (title_there t)

-- ---- the second line, and what stands after it
module _ (t : List ℕ) {first : List ℕ} (past : first ≡ after_first 10 t) where
  pub second_line : present first ≡ line_of t 1
  unfolding after_lines
  second_line = ap present past ∙ sym (line_at 1 t)

  pub past_two : {next : List ℕ} → next ≡ after_first 10 first → next ≡ after_lines 2 t
  unfolding after_lines
  past_two e = e ∙ ap (after_first 10) past

-- the lengths that it asks
module _ (x y h tri : ℕ) (t : List ℕ) (e : (count_line_rows (lengths x y h tri) (count_line t)).number ≡ 0) where
  roomed : (eqb x (count_n t) && eqb y (count_n t) && eqb h (count_n t) && eqb tri (3 * count_e t)) ≡ true
  unfolding count_line_rows is_room
  roomed = row_passed _ 32 1 (then_rest _ _ e)

  nodes_roomed : (eqb x (count_n t) && eqb y (count_n t) && eqb h (count_n t)) ≡ true
  nodes_roomed = both_left (eqb x (count_n t) && eqb y (count_n t) && eqb h (count_n t)) (eqb tri (3 * count_e t)) roomed

  long_x : x ≡ count_n t
  long_x = eqb-true x (count_n t) (both_left _ (eqb y (count_n t)) (both_left (eqb x (count_n t) && eqb y (count_n t)) (eqb h (count_n t)) nodes_roomed))

  long_y : y ≡ count_n t
  long_y = eqb-true y (count_n t) (both_right (eqb x (count_n t)) _ (both_left (eqb x (count_n t) && eqb y (count_n t)) (eqb h (count_n t)) nodes_roomed))

  pub long_h : h ≡ count_n t
  long_h = eqb-true h (count_n t) (both_right (eqb x (count_n t) && eqb y (count_n t)) (eqb h (count_n t)) nodes_roomed)

  pub long_tri : tri ≡ 3 * count_e t
  long_tri = eqb-true tri (3 * count_e t) (both_right (eqb x (count_n t) && eqb y (count_n t) && eqb h (count_n t)) (eqb tri (3 * count_e t)) roomed)

-- ---- the lines of the nodes stand after two lines, those of the triangles after theirs
module _ (t : List ℕ) (n : ℕ) (nodes : n ≡ count_n t) where
  pub node_lines : (rows : ℕ → List ℕ → Answer) → scan (asked rows (after_lines 2 t)) n ≡ scan (λ i. rows i (node_line t i)) (count_n t)
  node_lines rows = scan_same _ _ n (λ i l. ap (rows i) (sym (lines_add 2 i t))) ∙ ap (scan (λ i. rows i (node_line t i))) nodes

  triangle_at_lem : (k : ℕ) → line_of (after_lines n (after_lines 2 t)) k ≡ triangle_line t k
  triangle_at_lem k = ap (λ (u : List ℕ). line_of u k) (sym (after_add 2 n t)) ∙ sym (lines_add (2 + n) k t) ∙ ap (λ (m : ℕ). line_of t (2 + m + k)) nodes

  pub triangle_lines : (rows : ℕ → ℕ → List ℕ → Answer) (e : ℕ) → e ≡ count_e t
      → scan (asked (rows n) (after_lines n (after_lines 2 t))) e ≡ scan (λ k. rows (count_n t) k (triangle_line t k)) (count_e t)
  triangle_lines rows e triangles =
      scan_same _ _ e (λ k l. (λ j. rows (nodes j) k (triangle_at_lem k j)))
      ∙ ap (scan (λ k. rows (count_n t) k (triangle_line t k))) triangles

-- ---- where a text is accepted: every line is, and what the lines fill is the grid of the text
module _ (r : Grid) (t : List ℕ) (ok : (grid_answer r t).number ≡ 0) where
  counted : (count_line_rows (lengths_of r) (count_line t)).number ≡ 0
  unfolding grid_rows
  counted = then_first _ _ (then_rest _ _ ok)

  nodes_accepted : (scan (λ i. node_line_rows i (node_line t i)) (count_n t)).number ≡ 0
  unfolding grid_rows
  nodes_accepted = then_first _ _ (then_rest _ _ (then_rest _ _ ok))

  triangles_accepted : (scan (λ k. triangle_line_rows (count_n t) k (triangle_line t k)) (count_e t)).number ≡ 0
  unfolding grid_rows
  triangles_accepted = then_rest _ _ (then_rest _ _ (then_rest _ _ ok))

  abbrev n : ℕ
  n = length r.x

  its_n : n ≡ count_n t
  its_n = long_x _ _ _ _ t counted

  pub same_y : length r.y ≡ n
  same_y = long_y _ _ _ _ t counted ∙ sym its_n

  pub same_h : length r.h ≡ n
  same_h = long_h _ _ _ _ t counted ∙ sym its_n

  its_tri : length r.tri ≡ 3 * count_e t
  its_tri = long_tri _ _ _ _ t counted

  pub by_three : length r.tri % 3 ≡ 0
  by_three = omega (arith, its_tri)

  pub node_ok : (i : ℕ) → i < n → (node_line_rows i (line_of (after_lines 2 t) i)).number ≡ 0
  node_ok i h = scan_clean (asked node_line_rows (after_lines 2 t)) n (ap (λ (a : Answer). a.number) (node_lines t n its_n node_line_rows) ∙ nodes_accepted) i h

  pub triangle_ok : (k : ℕ) → 3 * k < length r.tri → (triangle_line_rows n k (line_of (after_lines n (after_lines 2 t)) k)).number ≡ 0
  triangle_ok k h =
      scan_clean (asked (triangle_line_rows n) (after_lines n (after_lines 2 t))) (count_e t)
      (ap (λ (a : Answer). a.number) (triangle_lines t n its_n triangle_line_rows (count_e t) refl) ∙ triangles_accepted) k (omega (arith, h, its_tri))

  nodes_table : {A : Type 0} (f : List ℕ → A) → table n (λ i. f (line_of (after_lines 2 t) i)) ≡ table (count_n t) (λ i. f (node_line t i))
  nodes_table f = table_same n _ _ (λ i h. ap f (sym (lines_add 2 i t))) ∙ ap (λ (m : ℕ). table m (λ i. f (node_line t i))) its_n

  corners_table : table (length r.tri) (corner_in (line_of (after_lines n (after_lines 2 t))))
      ≡ table (3 * count_e t) (corner_in (triangle_line t))
  corners_table =
      table_same (length r.tri) _ _ (λ j h. ap (λ (l : List ℕ). number_of (field_of l (2 + j % 3)) - 1) (triangle_at_lem t n its_n (j / 3)))
      ∙ ap (λ (m : ℕ). table m (corner_in (triangle_line t))) its_tri

  pub filled_grid : {x y : List ℤ} {h : List Float} {tri rest : List ℕ} → NodesFilled n (after_lines 2 t) x y h rest
      → tri ≡ table (length r.tri) (corner_in (line_of (after_lines n (after_lines 2 t)))) → grid x y h tri ≡ grid_of t
  unfolding grid_of
  filled_grid f e = λ i. record {
    x = (f.its_x ∙ nodes_table (λ l. whole_of (field_of l 1))) i;
    y = (f.its_y ∙ nodes_table (λ l. whole_of (field_of l 2))) i;
    h = (f.its_h ∙ nodes_table (λ l. depth_of (field_of l 3))) i;
    tri = (e ∙ corners_table) i;
  }

-- ---- the outcome
pub read_done : (r : Grid) (t : List ℕ) {g : Grid} → accepted ≡ grid_answer r t → g ≡ grid_of t → read_out accepted g ≡ read_of r t
unfolding read_of
read_done r t e f = rw (eq-eqb (grid_answer r t).number 0 (accepts e)) (λ i. read_out (e i) (f i))

pub read_refused : (r : Grid) (t : List ℕ) (q : Asked) (x : Refusal) → IsErrAnd q (λ y. y ≡ x) → answered (Err x) ≡ grid_answer r t
    → read_out (answered q) r ≡ read_of r t
unfolding read_of
read_refused r t q x e is =
    rw (ne_eqb (grid_answer r t).number 0 (refuses x is)) (ap (λ (a : Answer). read_out a r) (stands q x e is))
