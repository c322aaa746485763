use Rattle.std.proofs.Common.{◌≡◌, ℕ, ◌/◌, List, drop, ap, ◌∙◌, arith}
use Rattle.rows.specs.Scan.{accepted, scan}
use Rattle.rows.proofs.RefusalLaws.{stopped, went, accepts}
use Rattle.grids.specs.Grid.{lengths, title_row, count_line_rows, node_line_rows, triangle_line_rows, count_line, count_e, count_n, node_line, grid_rows}
use Rattle.grids.specs.Private.{after_lines}
use Rattle.grids.proofs.TextLaws.{asked}
use Rattle.grids.proofs.GridLaws.{title_row_lem, second_line, past_two, long_h, long_tri, node_lines, triangle_lines}
use Rattle.grids.proofs.asking.grid_rows.Goals as goal
use Rattle.grids.proofs.asking.grid_rows.Goals.{In_ok-nodes}

abbrev t : In_ok-nodes → List ℕ
t f = f.args.text.now

-- the line that is asked is the second one

title : (f : In_ok-nodes) → accepted ≡ title_row (t f)
title f = f.in_ok-tested.ensures ∙ title_row_lem (t f)

second : (f : In_ok-nodes) → accepted ≡ count_line_rows (lengths f.args.x f.args.y f.args.h f.args.tri) (count_line (t f))
second f = f.in_ok-nodes.ensures.answer ∙ ap (count_line_rows (lengths _ _ _ _)) (second_line (t f) f.past_line.ensures)

-- and where it is accepted, the nodes and the triangles stand after it, as many as the rooms have places for

past : (f : In_ok-nodes) → drop f.in_ok-nodes.nodes (t f) ≡ after_lines 2 (t f)
past f = past_two (t f) f.past_line.ensures f.in_ok-nodes.ensures.left

many : (f : In_ok-nodes) → f.args.h ≡ count_n (t f)
many f = long_h _ _ _ _ (t f) (accepts (second f))

triangles : (f : In_ok-nodes) → f.args.tri / 3 ≡ count_e (t f)
triangles f = omega (arith, long_tri _ _ _ _ (t f) (accepts (second f)))

asked_nodes : (f : In_ok-nodes) → scan (asked node_line_rows (drop f.in_ok-nodes.nodes (t f))) f.args.h
    ≡ scan (λ i. node_line_rows i (node_line (t f) i)) (count_n (t f))
asked_nodes f = ap (λ (u : List ℕ). scan (asked node_line_rows u) f.args.h) (past f) ∙ node_lines (t f) f.args.h (many f) node_line_rows

pub returns-in_err-tested : goal.returns-in_err-tested
unfolding grid_rows
returns-in_err-tested c = stopped _ _ _ c.from_residual.ensures.1 (c.in_err-tested.ensures ∙ title_row_lem c.args.text.now)

pub returns-in_err-nodes : goal.returns-in_err-nodes
unfolding grid_rows
returns-in_err-nodes c =
    let t = c.args.text.now in
    let its = ap (count_line_rows (lengths _ _ _ _)) (second_line t c.past_line.ensures) in
    went (c.in_ok-tested.ensures ∙ title_row_lem t) (stopped _ _ _ c.from_residual-in_err-nodes.ensures.1 (c.in_err-nodes.ensures.answer ∙ its))

pub returns-in_err-triangles : goal.returns-in_err-triangles
unfolding grid_rows
returns-in_err-triangles c =
    let f = (goal.at.returns-in_err-triangles c).In_ok-nodes in
    went (title f) (went (second f) (stopped _ _ _ c.from_residual-in_err-triangles.ensures.1 (c.in_err-triangles.ensures.answer ∙ asked_nodes f)))

pub returns : goal.returns
unfolding grid_rows
returns c =
    let f = (goal.at.returns c).In_ok-nodes in
    let a = c.args in
    let left = c.in_ok-triangles.ensures.left ∙ ap (after_lines a.h) (past f) in
    let asked-triangles =
    c.triangle_rows.ensures
    ∙ ap (λ (u : List ℕ). scan (asked (triangle_line_rows a.h) u) (a.tri / 3)) left
    ∙ triangle_lines (t f) a.h (many f) triangle_line_rows (a.tri / 3) (triangles f) in
    went (title f) (went (second f) (went (c.in_ok-triangles.ensures.answer ∙ asked_nodes f) asked-triangles))

pub triangle_rows-requires : goal.triangle_rows-requires
triangle_rows-requires c = (c.requires.0, omega (arith, c.requires.1))
