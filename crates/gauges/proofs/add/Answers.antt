use mathlib.Core.Path.{refl, sym, ap, ◌∙◌}
use Rattle.std.specs.Prelude.{Result}
use Rattle.rows.specs.declared.Refusal.{Refusal}
use Rattle.rows.proofs.RefusalLaws.{refuses}
use Rattle.location.proofs.SightLaws.{handed_back}
use Rattle.keeping.specs.Keeping as Keeping
use Rattle.keeping.specs.Keeping.{given_of, add_out, add_answer}
use Rattle.keeping.proofs.RecordLaws.{add_refused}
use Rattle.looking.specs.Lent.{lent_of}
use Rattle.looking.specs.Looking.{found_in}
use Rattle.looking.proofs.LookLaws.{look_refuses, look_accepts, look_on}
use Rattle.gauges.specs.Calls.{add_of}
use Rattle.gauges.proofs.CallLaws.{halts}
use Rattle.gauges.proofs.add.Goals as goal

pub returns-in_err-sight : goal.returns-in_err-sight
unfolding add_of add_answer
returns-in_err-sight c =
    let b = lent_of c.args.lent.now in
    let x = c.in_err-sight.field-0.0 in
    let seen = sym (ap (found_in b) c.in_err-sight.was) ∙ c.look_at.ensures in
    ap (λ (r : Result _ Refusal). add_out (given_of r) c.args.kept.now) (handed_back _ _ c.from_residual.ensures.1)
    ∙ add_refused _ _ c.args.q c.args.kept.now (halts x _ (look_refuses b c.args.q x seen)) (refuses x refl)

pub returns : goal.returns
unfolding add_of
returns c =
    let b = lent_of c.args.lent.now in
    let q = c.args.q in
    let seen = sym (ap (found_in b) c.in_ok-sight.was) ∙ c.look_at.ensures in
    c.add.ensures ∙ (λ i. Keeping.add_of (look_accepts b q _ seen i) ((c.is_some.ensures ∙ look_on b q _ seen) i) q c.args.kept.now)
