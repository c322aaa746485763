use mathlib.Core.Path.{ap, ◌∙◌}
use lib.Ieee.{binary64, of_bits}
use Rattle.keeping.specs.Record.{mark_in}
use Rattle.keeping.proofs.mark_at.Goals as goal

pub returns : goal.returns
unfolding mark_in
returns c =
    λ i. record {
      seen = c.seen_at.ensures i;
      peak = (c.float_of.ensures ∙ ap (of_bits binary64) c.read.ensures.0) i;
      step = c.read-2.ensures.0 i;
    }
