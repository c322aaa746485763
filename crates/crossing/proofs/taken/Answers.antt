use Prim.Native.Nat.{◌<◌, ◌^◌}
use mathlib.Core.Path.{◌≡◌, refl, sym, ◌∙◌}
use native.Mathlib.Omega.{arith}
use Rattle.frames.specs.Bytes.{number}
use Rattle.frames.proofs.ByteLaws.{number_room, number_grows, number_more}
use Rattle.crossing.proofs.CrossLaws.{number_there}
use Rattle.crossing.proofs.taken.Goals as goal
use Rattle.crossing.proofs.taken.Goals.{In-loop-k}

small : (c : In-loop-k) → c.loop-k.v < 256 ^ 7
small c = number_room _ _ c.loop-k.invariant.0 (omega arith)

pub loop-k-preserved : goal.loop-k-preserved
loop-k-preserved c =
    let a = c.args in
    let w = c.wide.ensures in
    (number_grows _ _ _ c.loop-k.invariant.0 w.1, rw (c.loop-k.invariant.1, w.0) (sym (number_more a.b.now a.at c.loop-k.k (omega arith))))

pub returns : goal.returns
returns c =
    let last : c.loop-k.k ≡ c.args.w = omega arith in
    (c.loop-k.invariant.1 ∙ rw last (sym (number_there _ _ _ c.requires.0 c.requires.1)), rw last at c.loop-k.invariant.0)

pub loop-k-init : goal.loop-k-init
unfolding number
loop-k-init c = (omega arith, refl)

pub overflow_mul-v : goal.overflow_mul-v
overflow_mul-v c = omega (arith, small (goal.at.overflow_mul-v c).In-loop-k)

pub overflow_add-v : goal.overflow_add-v
overflow_add-v c = omega (arith, small (goal.at.overflow_add-v c).In-loop-k)
