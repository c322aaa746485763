use Prim.Native.Nat.{ℕ, ◌≤◌}
use mathlib.Core.Path.{◌≡◌}
use mathlib.Core.List.{List}
use lib.IntN.{ℤ}
use lib.ListN.{length}
use Rattle.lists.specs.Private.{up_to}
use Rattle.crossing.specs.Crossing.{signed}
use Rattle.keeping.specs.Record.{Field, east_field, north_field, field_in}
use Rattle.keeping.proofs.points.Given as goal

-- a coordinate of each gauge
abbrev pub each : List ℕ → Field → ℕ → ℤ
each b f g = signed (field_in b f g)

abbrev pub invariant-loop-g : goal.invariant-loop-g
invariant-loop-g l =
    (l.g ≤ 64)
    × (length l.initial.x ≡ 64)
    × (length l.initial.y ≡ 64)
    × (l.x ≡ up_to l.g (each l.kept east_field) l.initial.x)
    × (l.y ≡ up_to l.g (each l.kept north_field) l.initial.y)
