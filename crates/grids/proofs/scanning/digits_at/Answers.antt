use Rattle.std.proofs.Common.{ℕ, ◌+◌, ◌<◌, ◌≤◌, length, arith}
use Rattle.grids.specs.Private.{most}
use Rattle.grids.proofs.LeftLaws.{digit_none, front_there, digit_yes, digit_no, Going, going_starts, going_more, going_same, going_ends, going_through, grown, few}
use Rattle.grids.proofs.scanning.digits_at.Goals as goal
use Rattle.grids.proofs.scanning.digits_at.Goals.{In-loop-j, Joined-text-from-ge5, then-text-from-ge5+else-loop-j-test, else-text-from-ge5}

abbrev at : (b : In-loop-j) → ℕ
at b = b.args.from + b.loop-j.j

there : (b : In-loop-j) → at b < length b.args.text.now
there b = omega (arith, b.if-text-from-ge5.true, b.loop-j-test.true, b.requires)

small : (b : In-loop-j) → b.loop-j.value < 100000
small b = few b.loop-j.j b.loop-j.value b.loop-j.invariant.1.0 b.loop-j.invariant.0

pub returns-then-digit-gt9 : goal.returns-then-digit-gt9
returns-then-digit-gt9 c =
    let b = (goal.at.returns-then-digit-gt9 c).In-loop-j in
    going_ends c.loop-j.invariant.1.1 (digit_none _ _ (there b) (digit_no _ _ c.wrapping_sub_u64-digit.ensures.value (omega (arith, c.wrapping_sub_u64-digit.type_inv)) c.if-digit-gt9.true)) (front_there _ _ (there b)) (omega (arith, there b))

pub loop-j-preserved : goal.loop-j-preserved
loop-j-preserved c =
    let b = (goal.at.loop-j-preserved c).In-loop-j in
    let digit = digit_yes _ _ c.wrapping_sub_u64-digit.ensures.value c.if-digit-gt9.false in (
      omega (arith, c.loop-j-test.true),
      (
        grown c.loop-j.j c.loop-j.value c.wrapping_sub_u64-digit.result c.loop-j.invariant.1.0 c.if-digit-gt9.false,
        going_more c.loop-j.invariant.1.1 (there b) digit.0 (omega (arith, digit.1, small b, c.if-digit-gt9.false)) (omega arith),
      ),
    )

-- the digits so far, where the loop has ended or there was no room for it
went : (c : Joined-text-from-ge5) → (c.if-text-from-ge5.value ≤ most) × ((c.if-text-from-ge5.at ≤ length c.args.text.now) × Going c.args.text.now c.args.from 0 c.if-text-from-ge5.value c.if-text-from-ge5.at)
went c =
    elim c.if-text-from-ge5.branch [
      | then-text-from-ge5+else-loop-j-test w ↦ (
        omega (arith, w.value-is, few w.loop-j.j w.loop-j.value w.loop-j.invariant.1.0 w.loop-j.invariant.0),
        (omega (arith, w.at-is, w.if-text-from-ge5.true, c.requires), going_same w.loop-j.invariant.1.1 w.value-is (omega (arith, w.at-is, w.loop-j.invariant.0, w.loop-j-test.false))),
      )
      | else-text-from-ge5 w ↦ (omega (arith, w.value-is), (omega (arith, w.at-is, c.requires), going_same (going_starts c.args.text.now c.args.from 0) w.value-is w.at-is))
    ]

pub digits_rest-requires : goal.digits_rest-requires
digits_rest-requires c = ((went (goal.at.digits_rest-requires c).Joined-text-from-ge5).1.0, (went (goal.at.digits_rest-requires c).Joined-text-from-ge5).0)

pub returns : goal.returns
returns c = going_through (went (goal.at.returns c).Joined-text-from-ge5).1.1 c.digits_rest.ensures
