-- Every statement that docs/STATEMENTS.md lists, by name: the function of src/lib.rt promises this record, and its proof has to give each field. A statement
-- that has no proof, or that is not listed here, is no statement of the product.
use Rattle.statements.specs.Determined.{EachDetermined, EachCallAsksNothing}
use Rattle.demands.specs.Demand1.{Demand1}
use Rattle.demands.specs.Demand2.{Demand2, FloatsWithoutLoss}
use Rattle.demands.specs.Friction.{SameAtZeroFriction}
use Rattle.demands.specs.Advection.{OffGivesEarlier}
use Rattle.demands.specs.RoundTrip.{SavedIsLoaded, SameTextSameRun, LoadedIsSaved}
use Rattle.demands.specs.Spellings.{EitherCase, ManySpellingsOneForm}
use Rattle.demands.specs.Editions.{OldSavesLoad, OldBuildsRefuse}
use Rattle.demands.specs.Demand3.{Demand3AtSurge, AnySaveAtSurge, OpensCold, OwnSavesLoad, HeldRunsSave}
use Rattle.worked.specs.Computed.{ComputedHolds, LatestHolds, CaughtHolds}
use Rattle.worked.specs.Examples.{ExamplesHold}
use Rattle.statements.specs.Printing.{PrintingHolds}
use Rattle.statements.specs.Grids.{GridDemands, RunsOnMeshesRead}
use Rattle.gridtext.specs.Written.{WrittenIsRead}
use Rattle.statements.specs.Gauges.{GaugeDemands}
use Rattle.boards.specs.Gauges.{ExactlyForty, NeverBeyond30, RecordKept, PeaksAtGauges, OwnRecordsPass}

pub record EveryStatement : Type 0 where
  pub determined : EachDetermined
  pub asks_nothing : EachCallAsksNothing
  pub demand1 : Demand1
  pub demand2 : Demand2
  pub floats_without_loss : FloatsWithoutLoss
  pub same_at_zero_friction : SameAtZeroFriction
  pub off_gives_earlier : OffGivesEarlier
  pub saved_is_loaded : SavedIsLoaded
  pub same_text_same_run : SameTextSameRun
  pub loaded_is_saved : LoadedIsSaved
  pub either_case : EitherCase
  pub many_spellings_one_form : ManySpellingsOneForm
  pub old_saves_load : OldSavesLoad
  pub old_builds_refuse : OldBuildsRefuse
  pub demand3 : Demand3AtSurge
  pub any_save : AnySaveAtSurge
  pub opens_cold : OpensCold
  pub own_saves_load : OwnSavesLoad
  pub held_runs_save : HeldRunsSave
  pub computed : ComputedHolds
  pub latest : LatestHolds
  pub caught : CaughtHolds
  pub examples : ExamplesHold
  pub printing : PrintingHolds
  pub grid_demands : GridDemands
  pub runs_on_meshes_read : RunsOnMeshesRead
  pub written_is_read : WrittenIsRead
  pub gauge_demands : GaugeDemands
  pub exactly_forty : ExactlyForty
  pub never_beyond_30 : NeverBeyond30
  pub record_kept : RecordKept
  pub peaks_at_gauges : PeaksAtGauges
  pub own_records_pass : OwnRecordsPass
