use Prim.Native.Nat.{◌<◌}
use mathlib.Core.Path.{◌≡◌, ap, ◌∙◌}
use native.Mathlib.Omega.{arith}
use Rattle.std.specs.Prelude.{Err}
use Rattle.rows.specs.declared.Answer.{Answer}
use Rattle.rows.specs.Refusals.{answered_by}
use Rattle.rows.specs.Says.{itself}
use Rattle.rows.proofs.ScanLaws.{then_below, row_below}
use Rattle.rows.proofs.RefusalLaws.{asked_before, at_answers}
use Rattle.mesh.specs.Rows.{size_rows}
use Rattle.mesh.proofs.tests.size_answer.Goals as goal
use Rattle.mesh.proofs.tests.size_answer.Goals.{After-asked}

-- an answer's number, and those of rows 1 and 2, are numbers that an answer has
within : (asked : Answer) (n y tri h kind : _) → asked.number < 4294967296 → (size_rows asked n y tri h kind).number < 4294967296
unfolding size_rows
within asked n y tri h kind l =
    then_below _ _ _ l (then_below _ _ _ (row_below _ _ 1 0 (omega arith) (omega arith)) (row_below _ _ 2 0 (omega arith) (omega arith)))

-- what is passed on says the answer
led : (c : After-asked) → let a = c.args in size_rows (answered_by itself c.asked.result) a.n a.y a.tri a.h a.kind ≡ size_rows a.asked a.n a.y a.tri a.h a.kind
unfolding size_rows
led c =
    let a = c.args in
    ap (λ (b : Answer). size_rows b a.n a.y a.tri a.h a.kind) (ap (answered_by itself) c.asked.ensures) ∙ asked_before a.asked _ c.fits.ensures

pub returns-in-Ok : goal.returns-in-Ok
returns-in-Ok c = c.accept.ensures ∙ c.in-Ok.ensures ∙ led (goal.at.returns-in-Ok c).After-asked

pub returns-in-Err : goal.returns-in-Err
returns-in-Err c =
    let a = c.args in
    at_answers (Err c.in-Err.answer) _ (within a.asked a.n a.y a.tri a.h a.kind c.fits.ensures) (c.in-Err.ensures ∙ led (goal.at.returns-in-Err c).After-asked)
