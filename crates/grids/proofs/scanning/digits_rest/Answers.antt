use Rattle.std.proofs.Common.{◌≡◌, ℕ, true, length, get_or, refl, arith}
use Rattle.grids.specs.Numbers.{is_digit}
use Rattle.grids.proofs.LeftLaws.{digit_range, digit_none, digit_end, front_there, front_end, going_more, going_same, going_ends}
use Rattle.grids.proofs.scanning.digits_rest.Goals as goal
use Rattle.grids.proofs.scanning.digits_rest.Goals.{At-loop-at}

pub returns-then-not-byte : goal.returns-then-not-byte
returns-then-not-byte c =
    let there = c.loop-at-test.true in
    going_ends c.loop-at.invariant.1 (digit_none _ _ there c.if-not-byte.true) (front_there _ _ there) (omega arith)

-- the byte read is a digit
abbrev Here : At-loop-at → ℕ
Here l = get_or l.args.text.now l.loop-at.at 0

pub more-value-requires : goal.more-value-requires
more-value-requires c =
    let range = digit_range (Here (goal.at.more-value-requires c).At-loop-at) c.if-not-byte.false in
    (c.loop-at.invariant.0, range.0, range.1)

pub loop-at-preserved : goal.loop-at-preserved
loop-at-preserved c =
    let digit : is_digit (Here (goal.at.loop-at-preserved c).At-loop-at) ≡ true = c.if-not-byte.false in
    (omega (arith, c.more-value.ensures), going_more c.loop-at.invariant.1 c.loop-at-test.true digit c.more-value.ensures refl)

pub returns : goal.returns
returns c =
    let text = c.args.text.now in
    let over : length text ≡ c.loop-at.at = omega arith in
    going_ends (going_same c.loop-at.invariant.1 refl over) (digit_end text (length text) (omega arith)) (front_end text (length text) (omega arith)) (omega arith)
