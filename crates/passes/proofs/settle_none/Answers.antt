use mathlib.Core.Path.{sym, ◌∙◌}
use Rattle.rows.proofs.RefusalLaws.{stands, accepts}
use Rattle.lists.proofs.TableLaws.{copied_whole}
use Rattle.bounds.proofs.StateLaws.{accepted_run}
use Rattle.passes.proofs.SettleLaws.{kept}
use Rattle.passes.proofs.settle_none.Goals as goal

pub returns-in_err-run_rows : goal.returns-in_err-run_rows
returns-in_err-run_rows c = (stands _ _ c.from_residual.ensures.1 c.in_err-run_rows.ensures, kept _ _ c.from_residual.ensures.0)

pub returns : goal.returns
returns c =
    let long = (accepted_run _ _ _ _ (accepts c.in_ok-run_rows.ensures)).long in
    (c.in_ok-run_rows.ensures, c.copy.ensures ∙ copied_whole _ _ (c.requires ∙ sym long))
