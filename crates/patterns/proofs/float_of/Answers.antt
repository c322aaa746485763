use mathlib.Core.Path.{◌∙◌, sym}
use borrow.Author.Tests.{lt-ltb, le-ltb}
use lib.Ieee.{binary64}
use lib.Ieee.Bits.{nan_bits_is, nan_bits_above}
use Rattle.patterns.proofs.PatternLaws.{nan_made, only_nan}
use Rattle.patterns.proofs.float_of.Goals as goal

pub returns-then-p-gt-INFINITY : goal.returns-then-p-gt-INFINITY
returns-then-p-gt-INFINITY c = nan_made ∙ sym (only_nan _ (sym (nan_bits_is binary64 _) ∙ nan_bits_above binary64 _ ∙ lt-ltb _ _ c.if-p-gt-INFINITY.true))

pub float_from_bits-result : goal.float_from_bits-result
float_from_bits-result c = rw (nan_bits_above binary64, le-ltb _ _ c.if-p-gt-INFINITY.false) tt
