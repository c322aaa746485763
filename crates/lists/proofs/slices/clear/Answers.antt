use mathlib.Core.Path.{◌∙◌}
use borrow.Author.Rules.{rules}
use lib.Ieee.{of_bits}
use Rattle.lists.proofs.TableLaws.{replicate_table}
use Rattle.lists.proofs.slices.clear.Goals as goal

pub returns : goal.returns
unfolding of_bits
returns c = c.fill.ensures.after (λ y e. search rules) ∙ replicate_table _ _
