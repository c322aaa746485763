use borrow.Author.Tests.{lt-ltb}
use mir.Facts.{sfits_widen}
use Rattle.crossing.specs.Crossing.{signed}
use Rattle.crossing.proofs.CrossLaws.{signed_fits, signed_kept, lowered, lowered_kept}
use Rattle.crossing.proofs.signed_of.Goals as goal

pub overflow_sub-result : goal.overflow_sub-result
overflow_sub-result c = rw (lowered _ c.if-v-lt2147483648.false c.requires) (sfits_widen tt (signed_fits _ c.requires))

pub overflow_cast-result-else-v-lt2147483648-2 : goal.overflow_cast-result-else-v-lt2147483648-2
overflow_cast-result-else-v-lt2147483648-2 c = rw (lowered_kept _ c.if-v-lt2147483648.false c.requires) (signed_fits _ c.requires)

pub returns-then-v-lt2147483648 : goal.returns-then-v-lt2147483648
unfolding signed
returns-then-v-lt2147483648 c = rw (lt-ltb _ _ c.if-v-lt2147483648.true)

pub returns-else-v-lt2147483648 : goal.returns-else-v-lt2147483648
returns-else-v-lt2147483648 c = signed_kept c.requires (lowered_kept _ c.if-v-lt2147483648.false c.requires)
