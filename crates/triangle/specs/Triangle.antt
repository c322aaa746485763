-- Document 01, "Elevation": the record of one triangle.
use Rattle.std.specs.Prelude.{Float}
use Rattle.quantities.specs.Operations.{◌⊕◌, ◌⊖◌, ◌⊗◌, ◌⊘◌}
use Rattle.quantities.specs.Constants.{three}
use Rattle.quantities.specs.declared.Node.{Node}
use Rattle.quantities.specs.declared.Sides.{Sides}
use Rattle.triangle.specs.declared.Means.{Means}
use Rattle.triangle.specs.declared.Advection.{Advection}

-- "For each triangle, zi* = z minus earlier z, Hi = hi+zi, qxi = Ui·Hi, qyi = Vi·Hi"
module _ (i : Node) where
  open i use {h as hi, earlier, z as zi, u as Ui, v as Vi}

  unfoldable pub z* : Float
  z* = zi ⊖ earlier

  unfoldable pub H : Float
  H = hi ⊕ zi

  unfoldable pub qx : Float
  qx = Ui ⊗ H

  unfoldable pub qy : Float
  qy = Vi ⊗ H

-- "a mean is ((v1+v2)+v3)/3."
unfoldable pub mean : Float → Float → Float → Float
mean v1 v2 v3 = ((v1 ⊕ v2) ⊕ v3) ⊘ three

-- "(z1·b1 + z2·b2) + z3·b3", the form of Gx, Gy, Sx and Sy, of Xu, Yu, Xv and Yv, and of what Px and Py add
unfoldable pub slope : Float → Float → Float → Float → Float → Float → Float
slope v1 v2 v3 c1 c2 c3 = (v1 ⊗ c1 ⊕ v2 ⊗ c2) ⊕ v3 ⊗ c3

-- "The gradients and means of one triangle travel together as one record."
module _ (n1 n2 n3 : Node) (s : Sides) where
  open n1 use {h as h1, z as z1, u as U1, v as V1, wx as Wx1, wy as Wy1}
  open n2 use {h as h2, z as z2, u as U2, v as V2, wx as Wx2, wy as Wy2}
  open n3 use {h as h3, z as z3, u as U3, v as V3, wx as Wx3, wy as Wy3}
  open s use {a1, a2, a3, b1, b2, b3}

  unfoldable pub means : Means
  means = record {
    -- "hb, Ub, Vb, Z, Qx, Qy: means of h, U, V, z*, qx, qy."
    hb = mean h1 h2 h3;
    ub = mean U1 U2 U3;
    vb = mean V1 V2 V3;
    z = mean (z* n1) (z* n2) (z* n3);
    qx = mean (qx n1) (qx n2) (qx n3);
    qy = mean (qy n1) (qy n2) (qy n3);
    -- "Gx = (z1·b1 + z2·b2) + z3·b3, and Gy with a."
    gx = slope z1 z2 z3 b1 b2 b3;
    gy = slope z1 z2 z3 a1 a2 a3;
    -- "Sx = ((z1·z1)·b1 + (z2·z2)·b2) + (z3·z3)·b3, and Sy with a."
    sx = slope (z1 ⊗ z1) (z2 ⊗ z2) (z3 ⊗ z3) b1 b2 b3;
    sy = slope (z1 ⊗ z1) (z2 ⊗ z2) (z3 ⊗ z3) a1 a2 a3;
    -- Document 02, #103: "Per triangle, Xu = (U1·b1 + U2·b2) + U3·b3, Yu the same with a, and Xv, Yv over V."
    xu = slope U1 U2 U3 b1 b2 b3;
    yu = slope U1 U2 U3 a1 a2 a3;
    xv = slope V1 V2 V3 b1 b2 b3;
    yv = slope V1 V2 V3 a1 a2 a3;
    -- Document 02, #105: "Jx and Jy use the mean of the three corner winds"
    wx = mean Wx1 Wx2 Wx3;
    wy = mean Wy1 Wy2 Wy3;
  }

-- Document 02, #103: "a sum from +0 by ascending triangle of Ub·Xu + Vb·Yu …; Ry likewise with Xv and Yv": what a triangle adds to Au and to Av
module _ (m : Means) where
  open m use {ub as Ub, vb as Vb, xu as Xu, yu as Yu, xv as Xv, yv as Yv}

  unfoldable pub advection : Advection
  advection = record { u = Ub ⊗ Xu ⊕ Vb ⊗ Yu; v = Ub ⊗ Xv ⊕ Vb ⊗ Yv }
