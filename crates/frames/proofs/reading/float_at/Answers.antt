use Rattle.std.proofs.Common.{ap, ◌∙◌}
use lib.Ieee.{binary64, of_bits}
use Rattle.frames.proofs.reading.float_at.Goals as goal

pub returns : goal.returns
returns c = c.float_of.ensures ∙ ap (of_bits binary64) c.value.ensures
