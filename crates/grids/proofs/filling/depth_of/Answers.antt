use lib.Ieee.{round, of_bits}
use Rattle.rows.specs.Numbers.{decimal}
use Rattle.grids.proofs.SignLaws.{handed, signed_float}
use Rattle.grids.proofs.filling.depth_of.Goals as goal

pub int_to_float-result : goal.int_to_float-result
int_to_float-result c =
    let d = c.args.d in
    rw (handed d.size c.requires d.minus c.signed_of.ensures) (signed_float d.size c.requires d.minus)

pub returns : goal.returns
unfolding round of_bits decimal
returns c =
    let d = c.args.d in
    rw (handed d.size c.requires d.minus c.signed_of.ensures)
