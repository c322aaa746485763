use mathlib.Core.Path.{◌≡◌, refl, ◌∙◌}
use mathlib.Core.Bool.{cond}
use borrow.Author.Tests.{ne_eqb}
use lib.Dec.{eqb}
use lib.Ieee.{of_bits}
use Rattle.rows.specs.Numbers.{plus0}
use Rattle.velocity.specs.Velocity.{flow_of}
use Rattle.velocity.proofs.flow_of.Goals as goal
use Rattle.velocity.proofs.flow_of.Goals.{Joined-held, then-held, else-held}

-- U' as the first choice leaves it
chosen : (c : Joined-held) → c.if-held.u ≡ cond (eqb c.args.kind 2) plus0 c.flow-free.result.u
unfolding of_bits
chosen c = elim c.if-held.branch [ then-held w ↦ w.u-is ∙ rw w.if-held.true refl | else-held w ↦ w.u-is ∙ rw (ne_eqb _ _ w.if-held.false) refl ]

pub returns-then-held-2 : goal.returns-then-held-2
unfolding flow_of of_bits
returns-then-held-2 c = rw (chosen (goal.at.returns-then-held-2 c).Joined-held, c.if-held-2.true)

pub returns-else-held-2 : goal.returns-else-held-2
unfolding flow_of
returns-else-held-2 c = rw (chosen (goal.at.returns-else-held-2 c).Joined-held, ne_eqb _ _ c.if-held-2.false, c.flow-free.ensures)
