use Rattle.std.proofs.Common.{◌≡◌, ℕ, List, length, drop, ap, ◌∙◌}
use Rattle.lists.specs.Table.{table}
use Rattle.grids.specs.Text.{line_of}
use Rattle.grids.specs.Grid.{Grid, grid, node_line_rows, triangle_line_rows, corner_in}
use Rattle.grids.specs.Private.{after_lines, NodesFilled}
use Rattle.grids.proofs.GridLaws.{past_two, same_y, same_h, by_three, node_ok, triangle_ok, filled_grid}
use Rattle.grids.proofs.filling.fill.Goals as goal
use Rattle.grids.proofs.filling.fill.Goals.{After-fill_nodes-next, After-past_line-third}

-- the lines of the nodes stand after two lines, those of the triangles after theirs

abbrev t : After-past_line-third → List ℕ
t p = p.args.text.now

abbrev lent : After-past_line-third → Grid
lent p = let a = p.args in grid a.x.now a.y.now a.h.now a.tri.now

two : (p : After-past_line-third) → drop p.past_line-third.result (t p) ≡ after_lines 2 (t p)
two p = past_two (t p) p.past_line-second.ensures p.past_line-third.ensures

pub fill_nodes-next-requires : goal.fill_nodes-next-requires
fill_nodes-next-requires c =
    let p = (goal.at.fill_nodes-next-requires c).After-past_line-third in
    let ok = p.requires in
    record {
      y_len = (same_y (lent p) (t p) ok, same_h (lent p) (t p) ok);
      by_index = λ i h. ap (λ (u : List ℕ). (node_line_rows i (line_of u i)).number) (two p) ∙ node_ok (lent p) (t p) ok i h;
    }

abbrev texts : After-fill_nodes-next → List ℕ
texts f = f.args.text.now

abbrev rooms : After-fill_nodes-next → Grid
rooms f = let a = f.args in grid a.x.now a.y.now a.h.now a.tri.now

filled : (f : After-fill_nodes-next) → NodesFilled (length (rooms f).x) (after_lines 2 (texts f)) f.fill_nodes-next.new.x f.fill_nodes-next.new.y f.fill_nodes-next.new.h
    (drop f.fill_nodes-next.result (texts f))
filled f = rw (past_two (texts f) f.past_line-second.ensures f.past_line-third.ensures) at f.fill_nodes-next.ensures

rest : (f : After-fill_nodes-next) → drop f.fill_nodes-next.result (texts f) ≡ after_lines (length (rooms f).x) (after_lines 2 (texts f))
rest f = (filled f).after

pub fill_triangles-requires : goal.fill_triangles-requires
fill_triangles-requires c =
    let f = (goal.at.fill_triangles-requires c).After-fill_nodes-next in
    let ok = f.requires in
    record {
      by_index =
          λ k h. ap (λ (u : List ℕ). (triangle_line_rows (length (rooms f).x) k (line_of u k)).number) (rest f) ∙ triangle_ok (rooms f) (texts f) ok k h;
      tri_len = by_three (rooms f) (texts f) ok;
    }

pub returns : goal.returns
returns c =
    let f = (goal.at.returns c).After-fill_nodes-next in
    let corners = c.fill_triangles.ensures ∙ ap (λ (u : List ℕ). table (length (rooms f).tri) (corner_in (line_of u))) (rest f) in
    filled_grid (rooms f) (texts f) f.requires (filled f) corners
