-- Document 01, "Elevation": what the corners of a triangle receive, and z' of a node.
use Rattle.std.specs.Prelude.{ℕ, cond, eqb, Float}
use Rattle.std.specs.Float.Ieee.{neg}
use Rattle.quantities.specs.Operations.{◌⊕◌, ◌⊖◌, ◌⊗◌, ◌⊘◌, Taking}
use Rattle.quantities.specs.Constants.{g, one, two, six}
use Rattle.quantities.specs.declared.Parameters.{Parameters}
use Rattle.quantities.specs.declared.Node.{Node}
use Rattle.quantities.specs.declared.Sides.{Sides}
use Rattle.quantities.specs.declared.Shares.{Shares}
use Rattle.triangle.specs.declared.Means.{Means}
use Rattle.triangle.specs.Triangle.{z*}

module _ (less : Taking) (run : Parameters) (m : Means) (D : Float) where
  open run use {dt, tau, k as K, f}
  open m use {ub as Ub, vb as Vb, z as Z, qx as Qx, qy as Qy, sx as Sx, sy as Sy, xu as Xu, yu as Yu, xv as Xv, yv as Yv, wx as Wx, wy as Wy}

  -- "Jx = ((((f·Qy - (g·Sx)/(2·D)) + Wx) - K·Ub) + (Ub·Z)/dt) + tau·Qx". Document 02, #103: "In Jx, (Qx·Xu + Qy·Yu)/D is taken from f·Qy before the
  -- squared-elevation term; Jy likewise with Xv, Yv." #105: Wx is "the mean of the three corner winds", of the triangle's record.
  unfoldable pub Jx : Float
  Jx = ((((less (f ⊗ Qy) ((Qx ⊗ Xu ⊕ Qy ⊗ Yu) ⊘ D) ⊖ (g ⊗ Sx) ⊘ (two ⊗ D)) ⊕ Wx) ⊖ K ⊗ Ub) ⊕ (Ub ⊗ Z) ⊘ dt) ⊕ tau ⊗ Qx

  -- "Jy = (((((-f)·Qx - (g·Sy)/(2·D)) + Wy) - K·Vb) + (Vb·Z)/dt) + tau·Qy"
  unfoldable pub Jy : Float
  Jy = ((((less ((neg f) ⊗ Qx) ((Qx ⊗ Xv ⊕ Qy ⊗ Yv) ⊘ D) ⊖ (g ⊗ Sy) ⊘ (two ⊗ D)) ⊕ Wy) ⊖ K ⊗ Vb) ⊕ (Vb ⊗ Z) ⊘ dt) ⊕ tau ⊗ Qy

-- "corner j receives (Jx·bj + Jy·aj)/2 - ((g·hb)·(Gx·bj + Gy·aj))/(2·D)."
module _ (m : Means) (D : Float) where
  open m use {hb, gx as Gx, gy as Gy}

  unfoldable pub corner : Float → Float → Float → Float → Float
  corner Jx Jy aj bj = (Jx ⊗ bj ⊕ Jy ⊗ aj) ⊘ two ⊖ ((g ⊗ hb) ⊗ (Gx ⊗ bj ⊕ Gy ⊗ aj)) ⊘ (two ⊗ D)

-- the one record, "used for three corners"
unfoldable pub shares : Taking → Parameters → Means → Sides → Shares
shares less run m s =
    let at = corner m s.d (Jx less run m s.d) (Jy less run m s.d) in
    record { r1 = at s.a1 s.b1; r2 = at s.a2 s.b2; r3 = at s.a3 s.b3 }

-- "L = (S/6)/dt."
unfoldable pub L : Float → Float → Float
L S dt = (S ⊘ six) ⊘ dt

-- "New z' = z + ((L·(1/dt - tau/2))·z* + R)/(L·(1/dt + tau/2))."
module _ (run : Parameters) where
  open run use {dt, tau}

  unfoldable pub z' : Float → Float → Float → Float → Float
  z' L z z* R = z ⊕ ((L ⊗ (one ⊘ dt ⊖ tau ⊘ two)) ⊗ z* ⊕ R) ⊘ (L ⊗ (one ⊘ dt ⊕ tau ⊘ two))

-- z' of a node of this kind, from its S and R: "At kind 1, z' is the forcing's elevation."
unfoldable pub rise_of : Parameters → ℕ → Float → Node → Float → Float → Float
rise_of run kind elevation c S R = cond (eqb kind 1) elevation (z' run (L S run.dt) c.z (z* c) R)
