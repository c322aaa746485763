use borrow.Author.Rules.{rules}
use Rattle.nodes.specs.Rows.{row8}
use Rattle.nodes.proofs.depths.Goals as goal

pub returns : goal.returns
unfolding row8
returns c = c.scan_tests.ensures _ (λ i r l p. search rules)
