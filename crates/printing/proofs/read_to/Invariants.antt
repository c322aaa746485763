use Rattle.std.proofs.Common.{◌≡◌, ◌≤◌, ◌-◌, length}
use Rattle.printing.proofs.read_to.Given as goal

abbrev pub invariant-loop-len : goal.invariant-loop-len
invariant-loop-len g l = (l.len ≤ l.to) × (l.to ≤ length l.text) × (length l.text ≡ length l.initial.text)

abbrev pub decreases-loop-len : goal.decreases-loop-len
decreases-loop-len g l = l.to - l.len
