use Prim.Native.Nat.{ℕ}
use mathlib.Core.Path.{refl, ap, ◌∙◌}
use lib.Dec.{ltb}
use Rattle.rows.specs.Scan.{row}
use Rattle.rows.proofs.RefusalLaws.{stopped, went}
use Rattle.location.specs.Survey.{most}
use Rattle.keeping.specs.Record.{row41}
use Rattle.keeping.specs.Keeping.{add_answer}
use Rattle.keeping.proofs.add_rows.Goals as goal

pub returns-in_err-record_rows : goal.returns-in_err-record_rows
unfolding add_answer
returns-in_err-record_rows c = went refl (stopped _ _ _ c.from_residual.ensures.1 c.in_err-record_rows.ensures)

pub returns-in_err-tested : goal.returns-in_err-tested
unfolding add_answer row41
returns-in_err-tested c =
    let room = c.in_err-tested.ensures ∙ ap (λ (n : ℕ). row (ltb n most) 41 most) c.count-g.ensures.0 in
    went refl (went c.in_ok-record_rows.ensures (stopped _ _ _ c.from_residual-in_err-tested.ensures.1 room))

pub returns : goal.returns
unfolding add_answer row41
returns c =
    let n = c.count-g.ensures.0 in
    let room = c.in_ok-tested.ensures ∙ ap (λ (n : ℕ). row (ltb n most) 41 most) n in
    went refl (went c.in_ok-record_rows.ensures (went room (c.tested-2.ensures ∙ ap (row c.args.inside 40) n)))
