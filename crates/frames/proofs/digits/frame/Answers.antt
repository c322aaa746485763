use Rattle.std.proofs.Common.{◌≡◌, ◌<◌, length, sym, ◌∙◌, add-one, arith, take_all, take-suc, take-suc-set}
use Rattle.frames.specs.Bytes.{bytes}
use Rattle.frames.proofs.ByteLaws.{bytes_length}
use Rattle.frames.proofs.digits.frame.Goals as goal

pub loop-k-preserved : goal.loop-k-preserved
loop-k-preserved c =
    let b = bytes c.args.text.now in
    let k = c.loop-k.k in
    let l : k < length c.loop-k.out = omega arith in
    let m : k < length b = rw bytes_length (omega arith) in
    rw (add-one, take-suc-set c.loop-k.out k c.byte_at.result l, take-suc b k 0 m, c.loop-k.invariant, c.byte_at.ensures.0)

pub returns : goal.returns
returns c =
    let n = length c.args.out.now in
    let last : c.loop-k.k ≡ n = omega arith in
    sym (take_all n c.loop-k.out (omega arith)) ∙ (rw last at c.loop-k.invariant)
