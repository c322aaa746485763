use Rattle.std.proofs.Common.{◌≡◌, ◌^◌, ◌<◌, sym, refl, ◌∙◌, arith}
use Rattle.frames.specs.Bytes.{number}
use Rattle.frames.proofs.ByteLaws.{number_room, number_grows, number_more}
use Rattle.frames.proofs.reading.field.Goals as goal
use Rattle.frames.proofs.reading.field.Goals.{In-loop-k}

small : (c : In-loop-k) → c.loop-k.v < 256 ^ 7
small c = number_room _ _ c.loop-k.invariant.0 (omega arith)

pub loop-k-preserved : goal.loop-k-preserved
loop-k-preserved c =
    let a = c.args in
    let w = c.wide.ensures in
    (number_grows _ _ _ c.loop-k.invariant.0 w.1, rw (c.loop-k.invariant.1, w.0) (sym (number_more a.bytes.now a.at c.loop-k.k (omega arith))))

pub loop-k-init : goal.loop-k-init
unfolding number
loop-k-init c = (omega arith, refl)

pub overflow_mul-v : goal.overflow_mul-v
overflow_mul-v c = omega (arith, small (goal.at.overflow_mul-v c).In-loop-k)

pub overflow_add-v : goal.overflow_add-v
overflow_add-v c = omega (arith, small (goal.at.overflow_add-v c).In-loop-k)

pub returns : goal.returns
returns c = let last : c.loop-k.k ≡ 8 = omega arith in c.loop-k.invariant.1 ∙ rw last
