use mathlib.Core.Path.{refl}
use Rattle.frames.specs.Texts.{start_of}
use Rattle.loads.proofs.loading.measures_of.Goals as goal

pub returns-in-One-clause-head_bytes : goal.returns-in-One-clause-head_bytes
unfolding start_of
returns-in-One-clause-head_bytes c = λ n. rw c.in-One.is refl

pub returns-in-Two-clause-head_bytes : goal.returns-in-Two-clause-head_bytes
unfolding start_of
returns-in-Two-clause-head_bytes c = λ n. rw c.in-Two.is refl
