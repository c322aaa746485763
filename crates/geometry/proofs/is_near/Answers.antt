use Rattle.std.proofs.Common.{to_z-of_z, w64}
use Rattle.geometry.proofs.SizeLaws.{size_test}
use Rattle.geometry.proofs.is_near.Goals as goal

pub returns : goal.returns
returns c = rw (to_z-of_z {w = w64} c.ranges.v) (size_test 99999 c.args.v)
