use mathlib.Core.Path.{refl, sym, ap, ◌∙◌}
use Rattle.rows.proofs.RefusalLaws.{stands, stopped, refuses}
use Rattle.location.specs.Survey.{sightings_of, unseen}
use Rattle.keeping.proofs.RecordLaws.{update_refused}
use Rattle.looking.specs.Lent.{lent_of}
use Rattle.looking.proofs.LookLaws.{look_answer}
use Rattle.gauges.specs.Calls.{update_of}
use Rattle.gauges.proofs.CallLaws.{few_points, update_seen}
use Rattle.gauges.proofs.update.Goals as goal

pub returns-in_err-seen : goal.returns-in_err-seen
unfolding update_of unseen
returns-in_err-seen c =
    update_refused _ _ _ _ _
    (stopped _ _ _ c.from_residual.ensures.1 (look_answer (lent_of c.args.lent.now) _ (sym (ap sightings_of c.in_err-seen.was) ∙ c.look.ensures)))
    (refuses c.in_err-seen.field-0.0 (sym (stands _ _ c.from_residual.ensures.1 refl)))

pub all_on-inside-requires : goal.all_on-inside-requires
all_on-inside-requires c = few_points _ c.points-ps.ensures

pub returns : goal.returns
returns c =
    c.update.ensures
    ∙ update_seen (lent_of c.args.lent.now) c.args.kept.now c.points-ps.ensures (sym (ap sightings_of c.in_ok-seen.was) ∙ c.look.ensures) c.all_on-inside.ensures c.args.step
