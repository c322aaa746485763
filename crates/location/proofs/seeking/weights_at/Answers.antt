use Rattle.std.proofs.Common.{ap, ◌∙◌}
use Rattle.geometry.specs.declared.Places.{Places}
use Rattle.geometry.specs.Geometry.{east_of, north_of, all_near}
use Rattle.mesh.specs.Geometry.{places_of}
use Rattle.mesh.proofs.SideLaws.{corners_read, sides_read}
use Rattle.location.specs.Location.{weights, weights_at}
use Rattle.location.proofs.seeking.weights_at.Goals as goal

pub places_at-requires : goal.places_at-requires
places_at-requires c =
    record { same = c.requires.same; nodes = rw (corners_read _ _ c.requires.there c.corners_at.ensures) c.requires.sound.nodes }

pub weights_of-requires : goal.weights_of-requires
weights_of-requires c =
    ap all_near (sides_read _ _ _ _ _ c.places_at.ensures (corners_read _ _ c.requires.there c.corners_at.ensures)) ∙ c.requires.sound.small

pub returns : goal.returns
unfolding weights_at
returns c =
    let a = c.args in
    c.weights_of.ensures
    ∙ ap (λ (v : Places). weights (east_of v) (north_of v) a.p)
    (c.places_at.ensures ∙ ap (places_of a.m.now.x.now a.m.now.y.now) (corners_read _ _ c.requires.there c.corners_at.ensures))
