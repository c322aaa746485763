use mathlib.Core.Path.{◌≡◌, ap, ◌∙◌}
use native.Mathlib.Omega.{arith}
use lib.IntN.{ℤ, nat_abs}
use mir.Syntax.{w64}
use mir.Val.{to_z, of_z}
use Rattle.geometry.specs.Geometry.{near_d}
use Rattle.geometry.proofs.SizeLaws.{kept}
use Rattle.areas.specs.Areas.{above}
use Rattle.areas.proofs.AreaLaws.{count_above, count_none, near_size}
use Rattle.areas.proofs.count_of.Goals as goal
use Rattle.areas.proofs.count_of.Goals.{After-twice_area-d}

-- D, as the call handed it on

abbrev d : (c : After-twice_area-d) → ℤ
d c = to_z w64 (of_z w64 c.twice_area-d.result)

its : (c : After-twice_area-d) → (d c) ≡ near_d c.args.s
its c = kept c.twice_area-d.type_inv c.twice_area-d.ensures

pub overflow_cast-result : goal.overflow_cast-result
overflow_cast-result c =
    ((count_above (d (goal.at.overflow_cast-result c).After-twice_area-d) c.if-d-gt0.true).0, record { fits = omega (arith, ap nat_abs (its (goal.at.overflow_cast-result c).After-twice_area-d), near_size c.args.s) })

pub returns-then-d-gt0 : goal.returns-then-d-gt0
returns-then-d-gt0 c = (count_above (d (goal.at.returns-then-d-gt0 c).After-twice_area-d) c.if-d-gt0.true).1 ∙ ap above (its (goal.at.returns-then-d-gt0 c).After-twice_area-d)

pub returns-else-d-gt0 : goal.returns-else-d-gt0
returns-else-d-gt0 c = count_none (d (goal.at.returns-else-d-gt0 c).After-twice_area-d) c.if-d-gt0.false ∙ ap above (its (goal.at.returns-else-d-gt0 c).After-twice_area-d)
