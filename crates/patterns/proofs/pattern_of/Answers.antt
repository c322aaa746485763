use mathlib.Core.Path.{◌∙◌, sym, ap}
use lib.Ieee.{to_bits, binary64}
use Rattle.patterns.proofs.PatternLaws.{ne_self, only_nan}
use Rattle.patterns.proofs.pattern_of.Goals as goal

pub returns-then-x : goal.returns-then-x
unfolding to_bits
returns-then-x c = sym (ap (to_bits binary64) (only_nan _ (sym (ne_self c.args.x) ∙ c.if-x.true)))

pub float_to_bits-result : goal.float_to_bits-result
float_to_bits-result c = rw (← ne_self c.args.x, c.if-x.false) tt
