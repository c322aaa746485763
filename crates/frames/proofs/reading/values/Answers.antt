use Rattle.std.proofs.Common.{lit≤}
use Rattle.frames.specs.Reading.{value, values}
use Rattle.frames.proofs.ByteLaws.{part_within}
use Rattle.frames.proofs.reading.values.Goals as goal

pub returns-then-line-ge104 : goal.returns-then-line-ge104
unfolding value values
returns-then-line-ge104 c =
    rw (c.field-then-line-ge104-5.ensures, c.field-then-line-ge104-4.ensures, c.field-then-line-ge104-3.ensures, c.field-then-line-ge104-2.ensures, c.field-then-line-ge104.ensures, c.field.ensures, c.frame.ensures)
    (rw (part_within 3 8 52 _ (lit≤ tt), part_within 11 8 52 _ (lit≤ tt), part_within 19 8 52 _ (lit≤ tt), part_within 27 8 52 _ (lit≤ tt))
    (rw (part_within 35 8 52 _ (lit≤ tt), part_within 43 8 52 _ (lit≤ tt))))

pub returns-then-line-ge72 : goal.returns-then-line-ge72
unfolding value values
returns-then-line-ge72 c =
    rw (c.value-then-line-ge72.ensures, c.value.ensures, c.field-then-line-ge72-4.ensures, c.field-then-line-ge72-3.ensures, c.field-then-line-ge72-2.ensures, c.field-then-line-ge72.ensures, c.frame-then-line-ge72.ensures)
    (rw (part_within 3 8 36 _ (lit≤ tt), part_within 11 8 36 _ (lit≤ tt), part_within 19 8 36 _ (lit≤ tt), part_within 27 8 36 _ (lit≤ tt)))

pub returns : goal.returns
unfolding values
returns c =
    rw (c.value-7.ensures, c.value-6.ensures, c.value-5.ensures, c.value-4.ensures, c.value-3.ensures, c.value-2.ensures)
