use mathlib.Core.Path.{◌≡◌}
use mathlib.Core.Bool.{true, false}
use borrow.Author.Tests.{ne_eqb}
use Rattle.rows.specs.Scan.{row}
use Rattle.editions.specs.Rows.{is_head, row23}
use Rattle.editions.proofs.counts.Goals as goal

pub returns-then-kind-byte : goal.returns-then-kind-byte
unfolding row23
returns-then-kind-byte c =
    let head : is_head c.args.kind ≡ true = rw (c.byte.ensures, c.byte-2.ensures) at c.if-kind-byte.true in
    rw (c.tested.ensures, c.value.ensures, c.value-then-kind-byte.ensures, head)

pub returns-then-kind-byte-2 : goal.returns-then-kind-byte-2
unfolding row23
returns-then-kind-byte-2 c = rw (c.tested-then-kind-byte-2.ensures, c.value-then-kind-byte-2.ensures, c.if-kind-byte-2.true, c.byte-3.ensures)

pub returns : goal.returns
unfolding row23 row
returns c =
    let other : is_head c.args.kind ≡ false = rw (c.byte.ensures, c.byte-2.ensures) at c.if-kind-byte.false in
    rw (other, ne_eqb c.args.kind 3 (rw c.byte-3.ensures at c.if-kind-byte-2.false))
