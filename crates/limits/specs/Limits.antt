-- Document 01, "Refusal table", rows 8 to 12 on single values, each under its line of the table.
use Rattle.std.specs.Prelude.{ℕ, ◌+◌, Bool, ◌&&◌, not, eqb, leb, Float}
use Rattle.std.specs.Float.Ieee.{le}
use Rattle.rows.specs.declared.Answer.{Answer}
use Rattle.rows.specs.Scan.{row, ◌then◌}
use Rattle.rows.specs.Numbers.{within, decimal, minus, in_size}
use Rattle.quantities.specs.declared.Parameters.{Parameters}
use Rattle.quantities.specs.declared.Node.{Node}
use Rattle.quantities.specs.declared.Wind.{Wind}
use Rattle.quantities.specs.Operations.{◌⊕◌}
use Rattle.quantities.specs.Constants.{tenth}

-- | 8 | h not 1..12,000, or kind above 2 | node |
unfoldable pub is_node : Float → ℕ → Bool
is_node h kind = within (decimal 1 1) h (decimal 12000 1) && leb kind 2

-- | 9 | dt not 0.125..60, tau not 0..1, K not 0..1, f not -0.001..0.001 | 0..3 |
unfoldable pub row9 : Parameters → Answer
row9 p =
    row (within (decimal 125 1000) p.dt (decimal 60 1)) 9 0
    then row (within (decimal 0 1) p.tau (decimal 1 1)) 9 1
    then row (within (decimal 0 1) p.k (decimal 1 1)) 9 2
    then row (within (minus 1 1000) p.f (decimal 1 1000)) 9 3

-- a wind that is not beyond 0.1, as rows 10 and 12 ask it
unfoldable pub is_calm : Wind → Bool
is_calm w = within (minus 1 10) w.x (decimal 1 10) && within (minus 1 10) w.y (decimal 1 10)

-- the wind that a node holds
abbrev pub held : Node → Wind
held c = record { x = c.wx; y = c.wy }

-- | 10 | either z beyond 30 in size, present h+z below 0.1, U or V beyond 20 | node |. Document 02, #105: "Row 10 gains the node winds at 0.1, after U
-- and V."
unfoldable pub in_bounds : Node → Bool
in_bounds c =
    in_size 30 c.earlier && in_size 30 c.z && le tenth (c.h ⊕ c.z) && in_size 20 c.u && in_size 20 c.v && is_calm (held c)

-- | 11 | step number is 4,294,967,295 |
unfoldable pub row11 : ℕ → Answer
row11 step = row (not (eqb step 4294967295)) 11 0

-- | 12 | … forcing elevation beyond 30; Wx', Wy' beyond 0.1 |. Document 02, #105: "12 keeps only the forcing, with place 1 for the elevation and 2+i for
-- node i."
unfoldable pub row12_level : Float → Answer
row12_level elevation = row (in_size 30 elevation) 12 1

unfoldable pub row12_wind : Wind → ℕ → Answer
row12_wind w i = row (is_calm w) 12 (2 + i)
