use mathlib.Core.Path.{ap, ◌∙◌}
use Rattle.rows.specs.declared.Answer.{Answer}
use Rattle.forcings.specs.Forcings.{taken}
use Rattle.capi.proofs.surge_read_forcing.Goals as goal

pub returns : goal.returns
returns c = ap (λ (a : Answer). taken a c.read_forcing-taken.new.room) c.hand_back.ensures ∙ c.read_forcing-taken.ensures
