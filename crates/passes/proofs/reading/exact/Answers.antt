use lib.Dec.{T}
use lib.Ieee.{binary64, in_float}
use borrow.Author.Rules.{rules}
use Rattle.geometry.proofs.SizeLaws.{in_float_lem}
use Rattle.passes.proofs.reading.exact.Goals as goal

pub int_to_float-result : goal.int_to_float-result
int_to_float-result c = let h : T (in_float binary64 c.args.v) = in_float_lem _ c.requires in search rules
