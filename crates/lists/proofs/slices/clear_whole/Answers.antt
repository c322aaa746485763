use mathlib.Core.Path.{◌∙◌}
use borrow.Author.Rules.{rules}
use Rattle.lists.proofs.TableLaws.{replicate_table}
use Rattle.lists.proofs.slices.clear_whole.Goals as goal

pub returns : goal.returns
returns c = c.fill.ensures.after (λ y e. search rules) ∙ replicate_table _ _
