use Rattle.std.proofs.Common.{◌≡◌, length, sym, ap, ◌∙◌}
use lib.Ieee.{Float}
use Rattle.lists.specs.Gather.{Three}
use Rattle.lists.specs.Private.{Below}
use Rattle.lists.specs.Runs.{in_run}
use Rattle.geometry.specs.Geometry.{nodes_of}
use Rattle.mesh.specs.Lent.{corners}
use Rattle.mesh.proofs.SideLaws.{corners_read}
use Rattle.location.specs.Location.{elevation, levels}
use Rattle.location.proofs.SightLaws.{inside_none, found_there, found_nowhere, found_below, seen_inside}
use Rattle.location.proofs.seeking.sight.Goals as goal
use Rattle.location.proofs.seeking.sight.Goals.{After-corners_at-c, After-present-z3}

pub weights_at-w-requires : goal.weights_at-w-requires
weights_at-w-requires c =
    let f = found_below _ _ _ _ c.in_ok-triangle.was c.locate.ensures in
    record { same = c.requires.same; there = f.2; sound = c.requires.by_index _ f.2 }

-- the corners of the triangle that was found, and that they are nodes
its : (c : After-corners_at-c) → nodes_of c.corners_at-c.result ≡ corners c.args.m.now.tri.now c.in_ok-triangle.triangle
its c = corners_read _ _ (found_below _ _ _ _ c.in_ok-triangle.was c.locate.ensures).2 c.corners_at-c.ensures

below : (c : After-corners_at-c) → Below (nodes_of c.corners_at-c.result) (length c.args.m.now.x.now)
below c = rw (its c) (c.requires.by_index _ (found_below _ _ _ _ c.in_ok-triangle.was c.locate.ensures).2).nodes

pub present-z1-requires : goal.present-z1-requires
present-z1-requires c = ((below (goal.at.present-z1-requires c).After-corners_at-c).first, c.requires.state_len)

pub present-z2-requires : goal.present-z2-requires
present-z2-requires c = ((below (goal.at.present-z2-requires c).After-corners_at-c).second, c.requires.state_len)

pub present-z3-requires : goal.present-z3-requires
present-z3-requires c = ((below (goal.at.present-z3-requires c).After-corners_at-c).third, c.requires.state_len)

-- the elevations there
leveled : (c : After-present-z3) →
    ◌≡◌ {A = Three Float} (record { first = c.present-z1.result; second = c.present-z2.result; third = c.present-z3.result })
    (levels (in_run (length c.args.m.now.x.now) 1 c.args.state.now) (nodes_of c.corners_at-c.result))
leveled c = λ i. record { first = c.present-z1.ensures i; second = c.present-z2.ensures i; third = c.present-z3.ensures i }

pub returns-in_err-triangle : goal.returns-in_err-triangle
returns-in_err-triangle c = c.from_residual.ensures ∙ found_nowhere _ (inside_none _ _ (sym c.in_err-triangle.was ∙ c.locate.ensures))

pub returns : goal.returns
returns c =
    let f = found_below _ _ _ _ c.in_ok-triangle.was c.locate.ensures in
    let z = leveled (goal.at.returns c).After-present-z3 ∙ ap (levels (in_run (length c.args.m.now.x.now) 1 c.args.state.now)) (its (goal.at.returns c).After-corners_at-c) in
    found_there f.0 (seen_inside _ _ _ _ _ f.1 f.0 (c.elevation.ensures ∙ (λ i. elevation (c.weights_at-w.ensures i) (z i))))
