use mathlib.Core.Path.{◌∙◌}
use Rattle.lists.specs.Private.{spread}
use Rattle.passes.proofs.sums.spread.Goals as goal

pub returns : goal.returns
unfolding spread
returns c =
    c.add_at-3.ensures ∙ rw (c.add_at-2.ensures, c.add_at.ensures)
