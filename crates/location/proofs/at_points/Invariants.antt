use Rattle.std.proofs.Common.{◌≡◌, ℕ, List, length, ℤ}
use lib.Ieee.{Float}
use Rattle.rows.specs.Numbers.{plus0}
use Rattle.lists.specs.Table.{table}
use Rattle.lists.specs.Runs.{in_run}
use Rattle.location.specs.declared.Points.{Points}
use Rattle.location.specs.Location.{triangle_of, level_of}
use Rattle.location.specs.Survey.{point_of}
use Rattle.location.proofs.FillLaws.{filled}
use Rattle.location.proofs.at_points.Given as goal

-- what is seen at point g
module _ (ps : Points) (x y : List ℤ) (tri : List ℕ) (state : List Float) where
  abbrev pub triangle_at : ℕ → ℕ
  triangle_at g = triangle_of x y tri (point_of ps g)

  abbrev pub level_at : ℕ → Float
  level_at g = level_of x y tri (point_of ps g) (in_run (length x) 1 state)

-- the points below g are looked for
abbrev pub invariant-loop-g : goal.invariant-loop-g
invariant-loop-g l =
    (l.triangle ≡ table 64 (filled 64 (triangle_at l.ps l.m.x.now l.m.y.now l.m.tri.now l.state) 0 l.g))
    × (l.level ≡ table 64 (filled 64 (level_at l.ps l.m.x.now l.m.y.now l.m.tri.now l.state) plus0 l.g))
