-- What a proof by computation looks through, in groups: each name below opens all that its line names.
use lib.Ieee.{le, lt, eq, round, to_bits, of_bits, add, sub, mul, div, neg, of_int}
use Rattle.lists.specs.Table.{table}
use Rattle.lists.specs.Runs.{runs_of}
use Rattle.rows.specs.Scan.{row, ◌then◌, scan, some}
use Rattle.rows.specs.Numbers.{within, decimal, minus}
use Rattle.lists.specs.Gather.{joined, gathered}
use Rattle.triangle.specs.Triangle.{z*, H as Hi, qx, qy, mean, slope, means, advection}
use Rattle.elevation.specs.Elevation.{Jx, Jy, corner, shares, L, z', rise_of}
use Rattle.velocity.specs.Velocity.{H, H', r, p, m, q, gx, gy, wx, wy, Rx, Ry, n, U', V', flow, flow_of}
use Rattle.outcomes.specs.Outcomes.{of_rise, speed, rise_row, flow_row}
use Rattle.frames.specs.Bytes.{digit, digits, byte, bytes, worth, all_digits, field, number, sum, check}
use Rattle.frames.specs.Frames.{text, field_bytes, checked}
use Rattle.frames.specs.Reading.{value}
use Rattle.faults.specs.Faults.{is_framed, row20, row21, row22, fault, line_fault}
use Rattle.limits.specs.Limits.{is_node, row9, is_calm, in_bounds, row11, row12_level, row12_wind}
use Rattle.mesh.specs.Geometry.{sides, area}
use Rattle.geometry.specs.Geometry.{all_near, floats}
use Rattle.mesh.specs.Rows.{row1, row2, all_below, row3, row4, row5, triangle_rows, shape_rows}
use Rattle.legs.specs.Legs.{is_leg, row6}
use Rattle.nodes.specs.Rows.{is_named, row7, row8, node_rows, mesh_rows, open_rows}
use Rattle.surge.specs.Open.{open_answer, open_of}
use Rattle.bounds.specs.State.{row10, run_rows}
use Rattle.bounds.specs.Forcing.{row12, forced_rows, forcings_of, row14, list_rows}
use Rattle.areas.specs.Areas.{total, sum_d}
use Rattle.passes.specs.Equations.{means_at, shares_at, rise, slope_x, slope_y, advection_u, advection_v, flow_at, next_state}
use Rattle.passes.specs.Row13.{row13}
use Rattle.passes.specs.InTurn.{another, list_of}
use Rattle.surge.specs.Step.{advance, step_rows, steps_to, step_of}
use Rattle.frames.specs.Texts.{start_of, lines_to}
use Rattle.saves.specs.Save.{row24, save_answer, save_of}
use Rattle.editions.specs.Rows.{row23, row25}
use Rattle.loads.specs.Load.{line_rows, trailing_row, clock_in, node_in, rows_in, load_answer, state_in, load_of}

unfoldable pub arithmetic : Unit {0}
unfolding round le lt eq add sub mul div neg of_int to_bits of_bits decimal minus within
arithmetic = tt

unfoldable pub tables : Unit {0}
unfolding table runs_of row ◌then◌ scan some joined gathered
tables = tt

unfoldable pub the_rows : Unit {0}
unfolding sides all_near row1 row2 all_below row3 row4 row5 triangle_rows is_leg row6 is_named row7 is_node row8 row9 shape_rows node_rows mesh_rows open_rows is_calm in_bounds row10 run_rows row11 row12_level row12_wind row12 forced_rows
the_rows = tt

unfoldable pub the_formulas : Unit {0}
unfolding z* Hi qx qy mean slope means advection Jx Jy corner shares L z' H H' r p m q gx gy wx wy Rx Ry n U' V' flow of_rise speed
the_formulas = tt

unfoldable pub the_equations : Unit {0}
unfolding sides area floats rise_of flow_of means_at shares_at rise slope_x slope_y advection_u advection_v flow_at next_state rise_row flow_row row13 advance
the_equations = tt

unfoldable pub the_frames : Unit {0}
unfolding digit digits byte bytes worth all_digits field number sum check text field_bytes checked value is_framed row20 row21 row22 fault line_fault
the_frames = tt

unfoldable pub the_calls : Unit {0}
unfolding open_answer open_of step_rows steps_to step_of start_of lines_to sides area total sum_d row24 save_answer save_of row23 row25 line_rows trailing_row clock_in node_in rows_in load_answer state_in load_of
the_calls = tt

unfoldable pub the_lists : Unit {0}
unfolding forcings_of row14 list_rows another list_of
the_lists = tt
