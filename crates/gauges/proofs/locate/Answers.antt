use mathlib.Core.Path.{refl, sym, ap, ◌∙◌}
use Rattle.std.specs.Prelude.{Option, Result, Ok}
use Rattle.std.specs.Result.{result_and, result_ok}
use Rattle.rows.specs.declared.Refusal.{Refusal}
use Rattle.rows.specs.Refusals.{answered}
use Rattle.rows.proofs.RefusalLaws.{went, refuses}
use Rattle.location.proofs.SightLaws.{handed_back}
use Rattle.looking.specs.declared.Sight.{Sight}
use Rattle.looking.specs.Lent.{lent_of}
use Rattle.looking.specs.Looking.{found_in}
use Rattle.looking.proofs.LookLaws.{look_refuses, look_accepts, look_triangle}
use Rattle.gauges.specs.Calls.{located_by, locate_answer}
use Rattle.gauges.proofs.CallLaws.{locate_refused, locate_accepted, halts, row_40}
use Rattle.gauges.proofs.locate.Goals as goal

pub returns-in_err-look_at : goal.returns-in_err-look_at
unfolding locate_answer
returns-in_err-look_at c =
    let b = lent_of c.args.lent.now in
    let x = c.in_err-look_at.field-0.0 in
    let seen = sym (ap (found_in b) c.in_err-look_at.was) ∙ c.look_at.ensures in
    ap located_by (handed_back _ _ c.from_residual.ensures.1)
    ∙ locate_refused b c.args.q (halts x _ (look_refuses b c.args.q x seen)) (refuses x refl)

pub returns-in_err-sight : goal.returns-in_err-sight
unfolding locate_answer
returns-in_err-sight c =
    let b = lent_of c.args.lent.now in
    let q = c.args.q in
    let seen = sym (ap (found_in b) c.in_ok-look_at.was) ∙ c.look_at.ensures in
    let said =
    sym (ap (λ (r : Result Sight Refusal). answered (result_and r (Ok tt))) c.in_err-sight.was)
    ∙ row_40 b q 0 c.refusal.result c.refusal.ensures _ seen c.ok_or.ensures.value in
    ap located_by (handed_back _ _ c.from_residual-in_err-sight.ensures.1)
    ∙ locate_refused b q (went (look_accepts b q _ seen) said) (refuses c.in_err-sight.field-0.0 refl)

pub returns : goal.returns
unfolding locate_answer
returns c =
    let b = lent_of c.args.lent.now in
    let q = c.args.q in
    let seen = sym (ap (found_in b) c.in_ok-look_at.was) ∙ c.look_at.ensures in
    let said =
    sym (ap (λ (r : Result Sight Refusal). answered (result_and r (Ok tt))) c.in_ok-sight.was)
    ∙ row_40 b q 0 c.refusal.result c.refusal.ensures _ seen c.ok_or.ensures.value in
    let there = c.ok_or.ensures.ok_part ∙ ap result_ok c.in_ok-sight.was in
    locate_accepted b q (went (look_accepts b q _ seen) said) refl
    (look_triangle b q c.in_ok-sight.sight (sym (ap (λ (o : Option Sight). found_in b (Ok o)) there) ∙ seen))
