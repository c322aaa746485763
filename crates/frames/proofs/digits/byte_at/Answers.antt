use Rattle.std.proofs.Common.{arith}
use Rattle.frames.specs.Bytes.{byte}
use Rattle.frames.proofs.ByteLaws.{bytes_at}
use Rattle.frames.proofs.digits.byte_at.Goals as goal

pub returns : goal.returns
unfolding byte
returns c =
    let a = c.args in
    (rw (c.worth-low.ensures, c.worth-high.ensures, bytes_at a.text.now a.k (omega arith)), omega arith)
