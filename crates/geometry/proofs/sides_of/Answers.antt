use Rattle.std.proofs.Common.{arith}
use Rattle.geometry.specs.Geometry.{sides_at}
use Rattle.geometry.proofs.SizeLaws.{gap_kept}
use Rattle.geometry.proofs.sides_of.Goals as goal

pub returns : goal.returns
unfolding sides_at
returns c =
    let p = c.args.p in
    λ i. record {
      a1 = gap_kept p.x3 p.x2 c.gap.type_inv (omega arith) (omega arith) c.gap.ensures i;
      a2 = gap_kept p.x1 p.x3 c.gap-2.type_inv (omega arith) (omega arith) c.gap-2.ensures i;
      a3 = gap_kept p.x2 p.x1 c.gap-3.type_inv (omega arith) (omega arith) c.gap-3.ensures i;
      b1 = gap_kept p.y2 p.y3 c.gap-4.type_inv (omega arith) (omega arith) c.gap-4.ensures i;
      b2 = gap_kept p.y3 p.y1 c.gap-5.type_inv (omega arith) (omega arith) c.gap-5.ensures i;
      b3 = gap_kept p.y1 p.y2 c.gap-6.type_inv (omega arith) (omega arith) c.gap-6.ensures i;
    }
