-- Which line of either edition is due where, and where it starts, by its number; and a node from the fields of its line, as the code reads it.
use Prim.Native.Nat.{ℕ, zero, suc, ◌+◌, ◌-◌, ◌*◌, ◌<◌, ◌≤◌}
use mathlib.Core.Path.{◌≡◌, refl, ap, ◌∙◌}
use mathlib.Core.List.{List}
use native.Mathlib.Omega.{arith}
use lib.ListN.{length, get_or, take, drop}
use lib.Ieee.{Float, nan}
use Rattle.frames.specs.Frames.{digits_of}
use Rattle.frames.specs.Reading.{float, values}
use Rattle.frames.specs.Texts.{start_of}
use Rattle.editions.specs.Lines.{Edition, edition1, layout_at, node_line, line_count}
use Rattle.saves.proofs.LineLaws.{start_node, start_last}
use Rattle.editions.specs.declared.Edition as code
use Rattle.editions.specs.declared.Edition.TheVariants.{One, Two}
use Rattle.loads.specs.Load.{line_in, node_in}
use Rattle.editions.specs.Editions.{lines_of, wind_in}
use Rattle.editions.proofs.LineLaws.{its_node, node_due}
use Rattle.loads.specs.Private.{head_wind}

module _ (d : Edition) (n : ℕ) where
  -- where it starts
  pub start_from : (j : ℕ) → length d.heads ≤ j → j < line_count d n
      → start_of (layout_at d n) j ≡ start_of (layout_at d n) (node_line d 0) + (digits_of d.node.widths + 1) * (j - length d.heads)
  start_from j h l = ap (start_of (layout_at d n)) (its_node d n j h) ∙ start_node d n (j - length d.heads) (omega arith)

  -- a node's line
  pub node_line_lem : (t : List ℕ) (i : ℕ) → i < n
      → take (digits_of d.node.widths + 1) (drop (start_of (layout_at d n) (node_line d 0) + (digits_of d.node.widths + 1) * i) t) ≡ line_in d n t (node_line d i)
  node_line_lem t i l = rw (node_due d n i l, start_node d n i (omega arith))

  -- how long all lines are together
  pub all_lines : start_of (layout_at d n) (line_count d n) ≡ start_of (layout_at d n) (node_line d 0) + (digits_of d.node.widths + 1) * n + 13
  all_lines =
      let nodes : line_count d n - length d.heads ≡ suc n = omega arith in
      ap (start_of (layout_at d n)) (its_node d n (line_count d n) (omega arith) ∙ ap (node_line d) nodes) ∙ start_last d n

-- "70+73N bytes": edition 1 is read, and no longer written
pub save1_long : (n : ℕ) → start_of (layout_at edition1 n) (line_count edition1 n) ≡ 70 + 73 * n
unfolding start_of
save1_long n = all_lines edition1 n ∙ omega arith

-- a line before the nodes' starts at 0, or past the head of edition 2
pub start_head : (d : code.Edition) (n j : ℕ) → j < length (lines_of d).heads → 25 * j ≡ start_of (layout_at (lines_of d) n) j
unfolding start_of
start_head One n zero l = refl
start_head One n (suc j) l = absurd (omega arith)
start_head Two n zero l = refl
start_head Two n (suc zero) l = refl
start_head Two n (suc (suc j)) l = absurd (omega arith)

-- ---- a node: its own wind, or the head's for each
pub node_fields_lem : (d : code.Edition) (n : ℕ) (t : List ℕ) (h : List Float) (i : ℕ) → let l = line_in (lines_of d) n t (node_line (lines_of d) i) in
    let w = wind_in d (head_wind (lines_of d) n t) (values l) in
    record { h = get_or h i nan; earlier = float l 3; z = float l 11; u = float l 19; v = float l 27; wx = w.x; wy = w.y } ≡ node_in (lines_of d) n t h i
unfolding node_in wind_in head_wind values
node_fields_lem One n t h i = refl
node_fields_lem Two n t h i = refl
