use mathlib.Core.Path.{◌≡◌, sym, ◌∙◌}
use mathlib.Core.Logic.{◌⊎◌}
use native.Mathlib.Omega.{arith}
use Prim.Native.Nat.{◌≤◌, ◌<◌}
use lib.ListN.{length, get_or}
use lib.Ieee.{nan}
use Rattle.lists.proofs.TableLaws.{up_none, up_more, up_copied}
use Rattle.lists.proofs.slices.copy.Goals as goal

pub loop-i-init : goal.loop-i-init
loop-i-init c = (omega arith, sym (up_none _ _))

pub bounds-from-i : goal.bounds-from-i
bounds-from-i c = let m = c.min-n.ensures in omega (arith, m)

pub bounds-to-i : goal.bounds-to-i
bounds-to-i c = let m = c.min-n.ensures in omega (arith, c.loop-i.auto, m)

pub loop-i-preserved : goal.loop-i-preserved
loop-i-preserved c =
    let s = c.args in
    let m = c.min-n.ensures in
    let h : c.loop-i.i < length s.to.now = omega (arith, m) in
    (omega arith, rw (c.loop-i.invariant.1, up_more c.loop-i.i (λ k. get_or s.from.now k nan) s.to.now h))

pub returns : goal.returns
returns c =
    let s = c.args in
    let n = c.min-n.result in
    let m = c.min-n.ensures in
    let done : c.loop-i.i ≡ n = omega arith in
    let shorter : (length s.to.now ≤ n) ⊎ (length s.from.now ≤ n) = grind (arith, m) in
    c.loop-i.invariant.1 ∙ rw done (up_copied nan s.from.now s.to.now n (omega (arith, m)) (omega (arith, m)) shorter)
