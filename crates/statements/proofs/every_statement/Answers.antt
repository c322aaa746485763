-- Each statement has its proof.
use Rattle.statements.proofs.Outcomes.{each_determined, each_call_asks_nothing}
use Rattle.demands.proofs.Demand1Proof.{demand1}
use Rattle.demands.proofs.Demand2Proof.{demand2, floats_without_loss}
use Rattle.demands.proofs.FrictionProof.{same_at_zero_friction}
use Rattle.demands.proofs.AdvectionProof.{off_gives_earlier}
use Rattle.demands.proofs.RoundTripProof.{saved_is_loaded, same_text_same_run, loaded_is_saved}
use Rattle.demands.proofs.SpellingsProof.{either_case, many_spellings_one_form}
use Rattle.demands.proofs.EditionsProof.{old_saves_load, old_builds_refuse}
use Rattle.demands.proofs.Demand3Proof.{demand3_at_surge, any_save_at_surge, opens_cold, own_saves_load, held_runs_save}
use Rattle.worked.proofs.ComputedProof.{computed_holds}
use Rattle.worked.proofs.LatestProof.{latest_holds}
use Rattle.worked.proofs.CaughtProof.{caught_holds}
use Rattle.worked.proofs.ExamplesProof.{examples_hold}
use Rattle.statements.proofs.PrintingProof.{printing_holds}
use Rattle.statements.proofs.GridsProof.{grid_demands, runs_on_meshes_read}
use Rattle.gridtext.proofs.WrittenLaws.{written_is_read}
use Rattle.statements.proofs.GaugesProof.{gauge_demands}
use Rattle.boards.proofs.FortyProof.{exactly_forty}
use Rattle.boards.proofs.LevelProof.{never_beyond_30}
use Rattle.boards.proofs.GaugesProof.{record_kept, peaks_at_gauges, own_records_pass}
use Rattle.statements.proofs.every_statement.Goals as goal

-- src/lib.rt: what the function ensures
pub returns : goal.returns
returns c = record {
  determined = each_determined;
  asks_nothing = each_call_asks_nothing;
  demand1 = demand1;
  demand2 = demand2;
  floats_without_loss = floats_without_loss;
  same_at_zero_friction = same_at_zero_friction;
  off_gives_earlier = off_gives_earlier;
  saved_is_loaded = saved_is_loaded;
  same_text_same_run = same_text_same_run;
  loaded_is_saved = loaded_is_saved;
  either_case = either_case;
  many_spellings_one_form = many_spellings_one_form;
  old_saves_load = old_saves_load;
  old_builds_refuse = old_builds_refuse;
  demand3 = demand3_at_surge;
  any_save = any_save_at_surge;
  opens_cold = opens_cold;
  own_saves_load = own_saves_load;
  held_runs_save = held_runs_save;
  computed = computed_holds;
  latest = latest_holds;
  caught = caught_holds;
  examples = examples_hold;
  printing = printing_holds;
  grid_demands = grid_demands;
  runs_on_meshes_read = runs_on_meshes_read;
  written_is_read = written_is_read;
  gauge_demands = gauge_demands;
  exactly_forty = exactly_forty;
  never_beyond_30 = never_beyond_30;
  record_kept = record_kept;
  peaks_at_gauges = peaks_at_gauges;
  own_records_pass = own_records_pass;
}
