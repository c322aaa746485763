use borrow.Author.Tests.{ne_eqb}
use Rattle.rows.specs.Scan.{row}
use Rattle.editions.specs.Rows.{row25}
use Rattle.editions.proofs.settings.Goals as goal

pub returns-then-kind-byte : goal.returns-then-kind-byte
unfolding row25
returns-then-kind-byte c = rw (c.tested.ensures, c.run_right.ensures, c.if-kind-byte.true, c.byte.ensures)

pub returns : goal.returns
unfolding row25 row
returns c = rw (ne_eqb c.args.kind 5 (rw c.byte.ensures at c.if-kind-byte.false))
