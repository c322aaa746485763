use Prim.Native.Nat.{ℕ}
use mathlib.Core.Path.{◌≡◌}
use mathlib.Core.List.{List}
use Rattle.quantities.specs.declared.Wind.{Wind}
use Rattle.editions.specs.declared.Edition.{Edition}
use Rattle.editions.specs.declared.Edition.TheVariants.{One}
use Rattle.editions.specs.Editions.{wind_in}
use Rattle.editions.proofs.node_wind.Goals as goal

-- in edition 1 the head's, whatever the node's line holds
of_head : {d : Edition} → d ≡ One → (held : Wind) (values : List ℕ) → held ≡ wind_in d held values
unfolding wind_in
of_head e held values = rw e

pub returns-in-Two : goal.returns-in-Two
unfolding wind_in
returns-in-Two c = rw (c.float_of-in-Two.ensures, c.float_of.ensures, c.in-Two.is)

pub returns-in-One : goal.returns-in-One
returns-in-One c = of_head c.in-One.is _ _
