use mathlib.Core.Path.{ap, ◌∙◌}
use Rattle.areas.specs.Areas.{counted, above}
use Rattle.geometry.specs.Geometry.{near_d}
use Rattle.geometry.specs.declared.WholeSides.{WholeSides}
use Rattle.mesh.proofs.SideLaws.{corners_read, sides_read}
use Rattle.areas.proofs.counted_at.Goals as goal

pub returns : goal.returns
unfolding counted
returns c =
    let its = sides_read _ _ _ _ _ c.places_at.ensures (corners_read _ _ c.requires c.corners_at-c.ensures) in
    c.count_of.ensures ∙ ap (λ (v : WholeSides). above (near_d v)) (c.sides_of.ensures ∙ its)
