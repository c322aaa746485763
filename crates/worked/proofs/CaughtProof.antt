-- The call on a list on mesh T is as its statement says, by computation.
use mathlib.Core.Path.{◌≡◌, refl, sym, ap, ◌∙◌}
use mathlib.Core.List.{[], ◌∷◌, map}
use lib.ListN.{take}
use Rattle.rows.specs.Scan.{refused}
use Rattle.lists.specs.Table.{table, zeros}
use Rattle.passes.specs.Settle.{lent_rooms}
use Rattle.passes.specs.InTurn.{Turns}
use Rattle.surge.specs.StepAll.{step_all_of, held_after}
use Rattle.history.specs.History.{History}
use Rattle.demands.specs.Demand3.{Weather}
use Rattle.worked.specs.Examples.{stepped, T, T_parameters}
use Rattle.worked.specs.Computed.{on_t, east, flood, north, storm, list_rooms, CaughtHolds}
use Rattle.worked.proofs.ComputedProof.{first, is_1}
use Rattle.worked.proofs.Computing.{arithmetic, tables, the_rows, the_formulas, the_equations, the_calls, the_lists}

abbrev caught : Turns
caught = step_all_of T T_parameters on_t.cold storm.list list_rooms

abbrev says : Turns
says = record { last = record { answer = refused 12 1; step = 1; rooms = lent_rooms first.state (zeros 33) (table 3 (λ _. 0)) }; accepted = 1 }

caught_is : caught ≡ says
unfolding arithmetic tables the_rows the_formulas the_equations the_calls the_lists
caught_is = refl

-- the forcings of the list, and the first of them
offered : map (λ (w : Weather). w.forcing) (on_t.forcings storm) ≡ east.forcing ∷ flood.forcing ∷ north.forcing ∷ []
unfolding tables
offered = refl

only_first : map (λ (w : Weather). w.forcing) (take 1 (on_t.forcings storm)) ≡ east.forcing ∷ []
unfolding tables
only_first = refl

pub caught_holds : CaughtHolds
caught_holds = record {
  offered = offered;
  answered = ap (λ (o : Turns). stepped o.last.answer o.last.step ∷ []) caught_is;
  path = ap (λ (o : Turns). map (λ (w : Weather). w.forcing) (take o.accepted (on_t.forcings storm))) caught_is ∙ only_first;
  held = ap (held_after on_t.cold) caught_is ∙ sym (ap (λ (h : History on_t). h.held) is_1);
  work = (ap (λ (o : Turns). o.last.rooms.work) caught_is, ap (λ (o : Turns). o.last.rooms.sums) caught_is);
}
