use Prim.Native.Nat.{◌+◌, ◌%◌}
use Rattle.geometry.specs.Geometry.{nodes_of}
use Rattle.legs.proofs.LegLaws.{one_of_legs, corner_below}
use Rattle.legs.proofs.leg_seen.Goals as goal

pub returns : goal.returns
returns c =
    rw (c.leg-a.ensures, c.leg.ensures, c.leg-2.ensures, c.leg-3.ensures) (one_of_legs (nodes_of c.args.c) _ _ c.requires.2 (corner_below _ _ ((c.args.j + 1) % 3) c.requires.1))
