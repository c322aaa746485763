use mathlib.Core.Path.{◌≡◌, sym, ap, ◌∙◌}
use Rattle.keeping.specs.declared.Mark.{Mark}
use Rattle.keeping.specs.Record.{mark_in, keeps}
use Rattle.keeping.proofs.RecordLaws.{noted_kept, noted_anew}
use Rattle.keeping.proofs.note.Goals as goal
use Rattle.keeping.proofs.note.Goals.{After-keeps}

asked : (c : After-keeps) → keeps (mark_in c.args.kept.now c.args.g) c.args.level ≡ c.keeps.result
asked c = ap (λ (k : Mark). keeps k c.args.level) (sym c.mark_at-k.ensures) ∙ sym c.keeps.ensures

pub returns : goal.returns
returns c =
    c.put_mark.ensures ∙ sym (noted_anew _ _ _ _ (asked (goal.at.returns c).After-keeps ∙ c.if-keeps.false))

pub returns-then-keeps : goal.returns-then-keeps
returns-then-keeps c = sym (noted_kept _ _ _ _ (asked (goal.at.returns-then-keeps c).After-keeps ∙ c.if-keeps.true))
