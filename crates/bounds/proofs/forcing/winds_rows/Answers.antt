use borrow.Author.Rules.{rules}
use Rattle.limits.specs.Limits.{row12_wind}
use Rattle.bounds.proofs.forcing.winds_rows.Goals as goal

pub returns : goal.returns
unfolding row12_wind
returns c = c.scan_tests.ensures _ (λ i r l p. search rules)
