use mathlib.Core.Path.{◌≡◌, ap, ◌∙◌}
use lib.Ieee.{round, of_bits}
use Rattle.lists.specs.Table.{table}
use Rattle.rows.specs.Numbers.{decimal}
use Rattle.rows.specs.Scan.{accepted}
use Rattle.surge.specs.Lent.{cold_state, cold_clock, After, after}
use Rattle.surge.specs.Open.{open_replied}
use Rattle.forcelog.specs.MeshT.{T, T_parameters}
use Rattle.forcelog.specs.Log.{cold_log}
use Rattle.forcelog.proofs.MeshLaws.{T_opens, is_opened}
use Rattle.forcelog.proofs.cold.Goals as goal
use Rattle.forcelog.proofs.cold.Goals.{After-open-opened}

opened : (c : After-open-opened) → after (open_replied c.open-opened.result) c.open-opened.new.state ≡ after (record { answer = accepted; clock = cold_clock }) (cold_state 3)
unfolding T T_parameters decimal round of_bits table
opened c = c.open-opened.ensures ∙ T_opens

pub unwrap-requires : goal.unwrap-requires
unwrap-requires c = is_opened _ _ _ (opened (goal.at.unwrap-requires c).After-open-opened)

pub returns : goal.returns
unfolding cold_log table
returns c =
    ap (λ (a : After). record { lines = 0; clock = a.reply.clock; state = a.state }) (opened (goal.at.returns c).After-open-opened)
