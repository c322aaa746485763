-- Document 01, "Refusal table": row 6, under its line of the table.
use Rattle.std.specs.Prelude.{ℕ, ◌+◌, ◌%◌, Bool, ◌||◌, ◌&&◌, not, List, eqb}
use Rattle.rows.specs.declared.Answer.{Answer}
use Rattle.rows.specs.Scan.{row, some}
use Rattle.lists.specs.Gather.{Three}
use Rattle.mesh.specs.Lent.{corner, corners}

-- | 6 | a directed leg (1-2, 2-3, 3-1) seen in an earlier triangle | later triangle |
-- the leg from one node to another is a leg of the triangle with these corners
unfoldable pub is_leg : Three ℕ → ℕ → ℕ → Bool
is_leg c from to =
    eqb from c.first && eqb to c.second || eqb from c.second && eqb to c.third || eqb from c.third && eqb to c.first

-- the leg of triangle t that starts at its corner j, from 0, is a leg of triangle s
abbrev pub leg_seen : List ℕ → ℕ → ℕ → ℕ → Bool
leg_seen tri t j s = is_leg (corners tri s) (corner tri t j) (corner tri t ((j + 1) % 3))

unfoldable pub row6 : List ℕ → ℕ → Answer
row6 tri t = row (not (some (λ s. some (λ j. leg_seen tri t j s) 3) t)) 6 t
