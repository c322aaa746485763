use mathlib.Core.Path.{◌≡◌, sym, ap, subst, ◌∙◌}
use native.Mathlib.Omega.{arith}
use lib.Dec.{T}
use lib.IntN.{ℤ, nat_abs}
use lib.Signed.{non_neg}
use mir.Syntax.{w64}
use mir.Val.{to_z, of_z}
use Rattle.geometry.specs.Geometry.{D}
use Rattle.geometry.proofs.SizeLaws.{kept}
use Rattle.geometry.proofs.GeometryLaws.{all_small}
use Rattle.passes.proofs.reading.area_of.Goals as goal
use Rattle.passes.proofs.reading.area_of.Goals.{After-twice_area}

its : (c : After-twice_area) → to_z w64 (of_z w64 c.twice_area.result) ≡ D c.args.s
its c = kept c.twice_area.type_inv c.twice_area.ensures

pub overflow_cast-result : goal.overflow_cast-result
overflow_cast-result c =
    let w = goal.at.overflow_cast-result c in
    let p = c.requires in
    (subst (λ (z : ℤ). T (non_neg z)) (sym (its w.After-twice_area ∙ p.1)) tt, record { fits = omega (arith, ap nat_abs (its w.After-twice_area), (all_small _ p.0).d.size) })

pub returns : goal.returns
returns c = ap nat_abs (its (goal.at.returns c).After-twice_area)

pub twice_area-requires : goal.twice_area-requires
twice_area-requires c = c.requires.0
