use Rattle.std.proofs.Common.{◌^◌, ◌≤◌, arith, to_z-of_z, w32}
use Rattle.grids.proofs.SignLaws.{handed, size_32, signed_32}
use Rattle.grids.proofs.filling.whole_of.Goals as goal
use Rattle.grids.proofs.filling.whole_of.Goals.{Start}

small : (c : Start) → c.args.w.size ≤ 2 ^ 53
small c = omega (arith, size_32 c.args.w.minus c.args.w.size c.requires)

pub overflow_cast-result : goal.overflow_cast-result
overflow_cast-result c =
    let w = c.args.w in
    rw (handed w.size (small (goal.at.overflow_cast-result c).Start) w.minus c.signed_of.ensures) (signed_32 w.minus w.size c.requires)

pub returns : goal.returns
returns c =
    let w = c.args.w in
    rw (handed w.size (small (goal.at.returns c).Start) w.minus c.signed_of.ensures) (to_z-of_z {w = w32} (signed_32 w.minus w.size c.requires))

pub signed_of-requires : goal.signed_of-requires
signed_of-requires c = small (goal.at.signed_of-requires c).Start
