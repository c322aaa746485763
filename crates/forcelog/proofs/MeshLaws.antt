-- Mesh T meets the rows of the refusal table, by computation.
use mathlib.Core.Path.{◌≡◌, refl, ap}
use mathlib.Core.List.{List}
use lib.Ieee.{Float, round, le, lt, eq}
use Rattle.std.specs.Prelude.{Ok, Err, IsOk}
use Rattle.lists.specs.Table.{table, zeros}
use Rattle.rows.specs.Scan.{accepted, row, ◌then◌, scan, some}
use Rattle.rows.specs.Numbers.{within, decimal, minus}
use Rattle.rows.specs.Refusals.{answered}
use Rattle.rows.proofs.RefusalLaws.{Asked, refuses}
use Rattle.limits.specs.Limits.{is_node, row9}
use Rattle.surge.specs.declared.Clock.{Clock}
use Rattle.surge.specs.Lent.{cold_state, cold_clock, After, after}
use Rattle.mesh.specs.Geometry.{sides}
use Rattle.geometry.specs.Geometry.{all_near}
use Rattle.mesh.specs.Rows.{row1, row2, all_below, row3, row4, row5, triangle_rows, shape_rows}
use Rattle.legs.specs.Legs.{is_leg, row6}
use Rattle.nodes.specs.Rows.{is_named, row7, row8, node_rows, open_rows}
use Rattle.surge.specs.Open.{open_answer, open_of}
use Rattle.forcelog.specs.MeshT.{T, T_parameters}

pub T_opens : open_of T T_parameters (zeros 18) ≡ after (record { answer = accepted; clock = cold_clock }) (cold_state 3)
unfolding open_of open_answer T T_parameters table row ◌then◌ scan some within decimal minus round le lt eq sides all_near row1 row2 all_below row3 row4 row5 triangle_rows is_leg row6 is_named row7 is_node row8 row9 shape_rows node_rows open_rows
T_opens = refl

-- and so what a call hands back that opens it is no refusal
pub is_opened : (q : Asked) (k : Clock) (state : List Float) → after (record { answer = answered q; clock = k }) state ≡ after (record { answer = accepted; clock = cold_clock }) (cold_state 3) → IsOk q
is_opened (Ok _) k state e = refl
is_opened (Err x) k state e = absurd (refuses x (ap (λ (a : After). a.reply.answer) e) refl)
