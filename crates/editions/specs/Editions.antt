-- The editions as the code names them.
use Rattle.std.specs.Prelude.{ℕ, List, get_or}
use Rattle.std.specs.Float.{binary64}
use Rattle.std.specs.Float.Ieee.{of_bits}
use Rattle.quantities.specs.declared.Wind.{Wind}
use Rattle.editions.specs.declared.Edition as code
use Rattle.editions.specs.declared.Edition.TheVariants.{One, Two}
use Rattle.editions.specs.Lines.{Edition, edition1, edition2}

abbrev pub lines_of : code.Edition → Edition
lines_of One = edition1
lines_of Two = edition2

-- the wind of a node, from what the head holds and the values of the node's line: "an edition 1 load gives every node the head's wind"
unfoldable pub wind_in : code.Edition → Wind → List ℕ → Wind
wind_in One held values = held
wind_in Two held values = record { x = of_bits binary64 (get_or values 4 0); y = of_bits binary64 (get_or values 5 0) }
