use mathlib.Core.Path.{refl, sym, ap, ◌∙◌}
use Rattle.std.specs.Prelude.{Option, Result, Ok}
use Rattle.std.specs.Result.{result_and, result_ok}
use Rattle.rows.specs.declared.Refusal.{Refusal}
use Rattle.rows.specs.Refusals.{answered}
use Rattle.rows.proofs.RefusalLaws.{went, refuses}
use Rattle.location.proofs.SightLaws.{handed_back}
use Rattle.keeping.specs.Record.{point_in}
use Rattle.looking.specs.declared.Sight.{Sight}
use Rattle.looking.specs.Lent.{lent_of}
use Rattle.looking.specs.Looking.{found_in, sight_of}
use Rattle.looking.proofs.LookLaws.{look_refuses, look_accepts, look_level}
use Rattle.gauges.specs.Calls.{measured_by, elevation_answer}
use Rattle.gauges.proofs.CallLaws.{elevation_refused, elevation_accepted, halts, row_40}
use Rattle.gauges.proofs.elevation.Goals as goal

pub returns-in_err-seen : goal.returns-in_err-seen
unfolding elevation_answer
returns-in_err-seen c =
    let b = lent_of c.args.lent.now in
    let x = c.in_err-seen.field-0.0 in
    let seen = sym (ap (found_in b) c.in_err-seen.was) ∙ c.look_at.ensures ∙ ap (sight_of b) c.point_at.ensures in
    ap measured_by (handed_back _ _ c.from_residual.ensures.1)
    ∙ elevation_refused b _ _ (halts x _ (look_refuses b _ x seen)) (refuses x refl)

pub returns-in_err-number_rows : goal.returns-in_err-number_rows
unfolding elevation_answer
returns-in_err-number_rows c =
    let b = lent_of c.args.lent.now in
    let x = c.in_err-number_rows.field-0.0 in
    let seen = sym (ap (found_in b) c.in_ok-seen.was) ∙ c.look_at.ensures ∙ ap (sight_of b) c.point_at.ensures in
    ap measured_by (handed_back _ _ c.from_residual-in_err-number_rows.ensures.1)
    ∙ elevation_refused b _ _ (went (look_accepts b _ _ seen) (halts x _ c.in_err-number_rows.ensures)) (refuses x refl)

pub returns-in_err-sight : goal.returns-in_err-sight
unfolding elevation_answer
returns-in_err-sight c =
    let b = lent_of c.args.lent.now in
    let q = point_in c.args.kept.now c.args.gauge in
    let seen = sym (ap (found_in b) c.in_ok-seen.was) ∙ c.look_at.ensures ∙ ap (sight_of b) c.point_at.ensures in
    let said =
    sym (ap (λ (r : Result Sight Refusal). answered (result_and r (Ok tt))) c.in_err-sight.was)
    ∙ row_40 b q c.args.gauge c.refusal.result c.refusal.ensures _ seen c.ok_or.ensures.value in
    ap measured_by (handed_back _ _ c.from_residual-in_err-sight.ensures.1)
    ∙ elevation_refused b _ _ (went (look_accepts b q _ seen) (went c.in_ok-number_rows.ensures said)) (refuses c.in_err-sight.field-0.0 refl)

pub returns : goal.returns
unfolding elevation_answer
returns c =
    let b = lent_of c.args.lent.now in
    let q = point_in c.args.kept.now c.args.gauge in
    let seen = sym (ap (found_in b) c.in_ok-seen.was) ∙ c.look_at.ensures ∙ ap (sight_of b) c.point_at.ensures in
    let said =
    sym (ap (λ (r : Result Sight Refusal). answered (result_and r (Ok tt))) c.in_ok-sight.was)
    ∙ row_40 b q c.args.gauge c.refusal.result c.refusal.ensures _ seen c.ok_or.ensures.value in
    let there = c.ok_or.ensures.ok_part ∙ ap result_ok c.in_ok-sight.was in
    elevation_accepted b _ _ (went (look_accepts b q _ seen) (went c.in_ok-number_rows.ensures said)) refl
    (look_level b q c.in_ok-sight.sight (sym (ap (λ (o : Option Sight). found_in b (Ok o)) there) ∙ seen))
