use Prim.Native.Nat.{◌/◌, ◌≤◌}
use mathlib.Core.Path.{◌≡◌, sym, ap, ◌∙◌}
use mathlib.Core.Bool.{cond}
use native.Mathlib.Omega.{arith}
use borrow.Author.Rules.{rules}
use borrow.Author.Tests.{le-leb, lt-leb}
use lib.Dec.{leb}
use lib.ListN.{length}
use Rattle.areas.specs.Areas.{total, counted_sum}
use Rattle.areas.proofs.AreaLaws.{total_none, total_more, counted_small, counts_small}
use Rattle.areas.proofs.twice_areas.Goals as goal
use Rattle.areas.proofs.twice_areas.Goals.{Joined-all-le8192, then-all-le8192, else-all-le8192}

-- e is the number of triangles, and no more than a mesh has
most : (c : Joined-all-le8192) → (c.if-all-le8192.e ≤ length c.args.m.now.tri.now / 3) × (c.if-all-le8192.e ≤ 8192)
most c = elim c.if-all-le8192.branch [ then-all-le8192 w ↦ (omega arith, omega arith) | else-all-le8192 w ↦ (omega arith, omega arith) ]

fewer : (c : Joined-all-le8192) → let all = length c.args.m.now.tri.now / 3 in c.if-all-le8192.e ≡ cond (leb all 8192) all 8192
fewer c =
    elim c.if-all-le8192.branch [
      | then-all-le8192 w ↦ rw (le-leb _ _ w.if-all-le8192.true) w.e-is
      | else-all-le8192 w ↦ rw (lt-leb _ _ w.if-all-le8192.false) w.e-is
    ]

pub loop-t-init : goal.loop-t-init
loop-t-init c = (search rules, sym (total_none _))

pub counted_at-sum-requires : goal.counted_at-sum-requires
counted_at-sum-requires c = omega (arith, most (goal.at.counted_at-sum-requires c).Joined-all-le8192)

pub overflow_add-sum : goal.overflow_add-sum
overflow_add-sum c =
    record { fits = omega (arith, counts_small _ _ _ _ c.loop-t.invariant.1, counted_small _ _ _ _ c.counted_at-sum.ensures, most (goal.at.overflow_add-sum c).Joined-all-le8192, c.loop-t-test.true) }

pub loop-t-preserved : goal.loop-t-preserved
loop-t-preserved c = (search rules, total_more _ _ c.loop-t.invariant.1 c.counted_at-sum.ensures)

pub returns : goal.returns
unfolding counted_sum
returns c = let done : c.loop-t.t ≡ c.if-all-le8192.e = omega arith in c.loop-t.invariant.1 ∙ ap (total _) (done ∙ fewer (goal.at.returns c).Joined-all-le8192)

pub overflow_step-t : goal.overflow_step-t
overflow_step-t c = omega (arith, most (goal.at.overflow_step-t c).Joined-all-le8192)
