use native.Mathlib.Nat.{zero-mul}
use Rattle.lists.proofs.RunLaws.{runs_test}
use Rattle.lists.proofs.slices.is_runs.Goals as goal

pub returns-then-k-eq0 : goal.returns-then-k-eq0
returns-then-k-eq0 c = rw (c.if-k-eq0.true, zero-mul)

pub returns : goal.returns
returns c = runs_test _ _ _ c.if-k-eq0.false
