use mir.Syntax.{w32}
use Rattle.geometry.proofs.SizeLaws.{kept_as}
use Rattle.mesh.proofs.reading.places_at.Goals as goal

pub returns : goal.returns
returns c =
    λ i. record {
      x1 = kept_as w32 (record { sfits = c.coordinate.type_inv }) c.coordinate.ensures i;
      x2 = kept_as w32 (record { sfits = c.coordinate-2.type_inv }) c.coordinate-2.ensures i;
      x3 = kept_as w32 (record { sfits = c.coordinate-3.type_inv }) c.coordinate-3.ensures i;
      y1 = kept_as w32 (record { sfits = c.coordinate-4.type_inv }) c.coordinate-4.ensures i;
      y2 = kept_as w32 (record { sfits = c.coordinate-5.type_inv }) c.coordinate-5.ensures i;
      y3 = kept_as w32 (record { sfits = c.coordinate-6.type_inv }) c.coordinate-6.ensures i;
    }
