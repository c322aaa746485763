use borrow.Author.Rules.{rules}
use Rattle.bounds.specs.State.{row10}
use Rattle.bounds.proofs.nodes.Goals as goal

pub returns : goal.returns
unfolding row10
returns c = c.scan_tests.ensures _ (λ i r l p. search rules)
