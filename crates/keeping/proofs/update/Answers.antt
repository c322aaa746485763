use mathlib.Core.Path.{refl, sym, ap}
use native.Mathlib.Omega.{arith}
use Rattle.rows.specs.Refusals.{answered_by}
use Rattle.rows.proofs.RefusalLaws.{stands_by, refuses_by, stopped_by, made_by, turned_by, went, refuses, accepts}
use Rattle.keeping.proofs.RecordLaws.{count_most, update_refused, update_accepted}
use Rattle.keeping.proofs.update.Goals as goal

pub returns-in_err-asked : goal.returns-in_err-asked
returns-in_err-asked g c =
    let law = g.met.E.Says.laws in
    let e = c.from_residual.ensures.1 in
    update_refused _ _ _ _ _ (stopped_by law _ _ _ e (sym (ap (answered_by g.E.Says.says) c.in_err-asked.was)))
    (refuses_by law c.in_err-asked.field-0.0 (sym (stands_by law _ _ e refl)))

pub returns-in_err-record_rows : goal.returns-in_err-record_rows
returns-in_err-record_rows g c =
    let law = g.met.E.Says.laws in
    let e = c.from_residual-in_err-record_rows.ensures.1 in
    update_refused _ _ _ _ _ (went (sym (ap (answered_by g.E.Says.says) c.in_ok-asked.was)) (turned_by law _ _ _ e c.in_err-record_rows.ensures))
    (refuses c.in_err-record_rows.field-0.0 (sym (made_by law _ _ e refl)))

pub returns-in_err-also : goal.returns-in_err-also
returns-in_err-also g c =
    let law = g.met.E.Says.laws in
    let e = c.from_residual-in_err-also.ensures.1 in
    let before = sym (ap (answered_by g.E.Says.says) c.in_ok-asked.was) in
    let it = sym (ap (answered_by g.E.Says.says) c.in_err-also.was) in
    update_refused _ _ _ _ _ (went before (went c.in_ok-record_rows.ensures (stands_by law _ _ e it)))
    (refuses_by law c.in_err-also.field-0.0 (sym (stands_by law _ _ e refl)))

pub note_all-requires : goal.note_all-requires
note_all-requires g c = omega (arith, c.count.ensures.0, count_most _ (accepts c.in_ok-record_rows.ensures))

pub returns : goal.returns
returns g c =
    let before = sym (ap (answered_by g.E.Says.says) c.in_ok-asked.was) in
    let behind = sym (ap (answered_by g.E.Says.says) c.in_ok-also.was) in
    update_accepted _ _ _ _ _ (went before (went c.in_ok-record_rows.ensures behind)) refl c.count.ensures.0 c.note_all.ensures
