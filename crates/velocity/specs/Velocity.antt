-- Document 01, "Velocity": the pair U', V' of one node. Its U and V are u and v here: antt keeps the word V for itself.
use Rattle.std.specs.Prelude.{ℕ, cond, eqb, Float}
use Rattle.rows.specs.Numbers.{plus0}
use Rattle.quantities.specs.Operations.{◌⊕◌, ◌⊖◌, ◌⊗◌, ◌⊘◌, Taking}
use Rattle.quantities.specs.Constants.{g, one, two}
use Rattle.quantities.specs.declared.Parameters.{Parameters}
use Rattle.quantities.specs.declared.Wind.{Wind}
use Rattle.quantities.specs.declared.Node.{Node}
use Rattle.quantities.specs.declared.Push.{Push}
use Rattle.quantities.specs.declared.Flow.{Flow}

module _ (run : Parameters) (node : Push) where
  open run use {dt, k as K, f}
  open node use {h, z, rise as z', u, v, px as Px, py as Py, au as Au, av as Av, s as S, wx as Wx, wy as Wy, wx_new as Wx', wy_new as Wy'}

  -- "H = h+z, H' = h+z'."
  unfoldable pub H : Float
  H = h ⊕ z

  unfoldable pub H' : Float
  H' = h ⊕ z'

  -- "r = (dt·K)/(2·H'), p = 1+r, … q = (f·dt)/2." Document 02, #102: "From here m = 1 - (dt·K)/(2·H) with H at the present step, while p keeps H'."
  unfoldable pub r : Float
  r = (dt ⊗ K) ⊘ (two ⊗ H')

  unfoldable pub p : Float
  p = one ⊕ r

  unfoldable pub m : Float
  m = one ⊖ (dt ⊗ K) ⊘ (two ⊗ H)

  unfoldable pub q : Float
  q = (f ⊗ dt) ⊘ two

  -- "gx = ((g·dt)·Px)/(2·S), wx = (dt·(Wx'/H' + Wx/H))/2, likewise y."
  unfoldable pub gx : Float
  gx = ((g ⊗ dt) ⊗ Px) ⊘ (two ⊗ S)

  unfoldable pub gy : Float
  gy = ((g ⊗ dt) ⊗ Py) ⊘ (two ⊗ S)

  unfoldable pub wx : Float
  wx = (dt ⊗ (Wx' ⊘ H' ⊕ Wx ⊘ H)) ⊘ two

  unfoldable pub wy : Float
  wy = (dt ⊗ (Wy' ⊘ H' ⊕ Wy ⊘ H)) ⊘ two

  -- "n = p·p + q·q."
  unfoldable pub n : Float
  n = p ⊗ p ⊕ q ⊗ q

  -- U' and V' by their m: `flow` takes the one above, and the statement on K = 0 (demands/specs/Friction) also the one that document 01 had
  module _ (less : Taking) (m : Float) where
    -- "Rx = ((m·U + q·V) - gx) + wx, Ry = ((m·V - q·U) - gy) + wy". Document 02, #103: the sum Au "is multiplied by dt, divided by S and taken from Rx
    -- after gx and before wx; Ry likewise"
    unfoldable pub Rx : Float
    Rx = less ((m ⊗ u ⊕ q ⊗ v) ⊖ gx) ((dt ⊗ Au) ⊘ S) ⊕ wx

    unfoldable pub Ry : Float
    Ry = less ((m ⊗ v ⊖ q ⊗ u) ⊖ gy) ((dt ⊗ Av) ⊘ S) ⊕ wy

    -- "U' = (p·Rx + q·Ry)/n, V' = (p·Ry - q·Rx)/n."
    unfoldable pub U' : Float
    U' = (p ⊗ Rx ⊕ q ⊗ Ry) ⊘ n

    unfoldable pub V' : Float
    V' = (p ⊗ Ry ⊖ q ⊗ Rx) ⊘ n

    abbrev pub flow_by : Flow
    flow_by = record { u = U'; v = V' }

  unfoldable pub flow : Taking → Flow
  flow less = flow_by less m

-- of a node of this kind: "At kind 2 both are +0."
abbrev pub of_kind : ℕ → Flow → Flow
of_kind kind v = cond (eqb kind 2) (record { u = plus0; v = plus0 }) v

unfoldable pub flow_of : Taking → Parameters → ℕ → Push → Flow
flow_of less run kind x = of_kind kind (flow run x less)

-- what they are made from: a node and its new wind, S, z', Px and Py, Au and Av. Document 02, #105: "velocity uses the node's own" wind
abbrev pub push_of : Node → Wind → Float → Float → Float → Float → Float → Float → Push
push_of c new s rise px py au av = record {
  h = c.h;
  z = c.z;
  rise = rise;
  u = c.u;
  v = c.v;
  px = px;
  py = py;
  au = au;
  av = av;
  s = s;
  wx = c.wx;
  wy = c.wy;
  wx_new = new.x;
  wy_new = new.y;
}
