-- Document 01, "Elevation" and "Velocity" over a mesh: what a node sums over its triangles, z', U' and V' of each node, node by node.
use Rattle.std.specs.Prelude.{ℕ, List, [], ◌∷◌, pos, get_or, Float}
use Rattle.std.specs.Float.{binary64}
use Rattle.std.specs.Float.Ieee.{of_int}
use Rattle.rows.specs.Numbers.{plus0}
use Rattle.lists.specs.Runs.{runs_of}
use Rattle.lists.specs.Gather.{Three, alike, Adding, gathered}
use Rattle.quantities.specs.declared.Parameters.{Parameters}
use Rattle.quantities.specs.declared.Wind.{Wind}
use Rattle.quantities.specs.declared.Node.{Node}
use Rattle.quantities.specs.declared.Sides.{Sides}
use Rattle.quantities.specs.declared.Shares.{Shares}
use Rattle.quantities.specs.declared.Push.{Push}
use Rattle.quantities.specs.declared.Flow.{Flow}
use Rattle.quantities.specs.Operations.{◌⊕◌, Taking, less_if}
use Rattle.triangle.specs.declared.Means.{Means}
use Rattle.triangle.specs.Triangle.{slope, means, advection}
use Rattle.elevation.specs.Elevation.{shares, rise_of}
use Rattle.velocity.specs.Velocity.{flow_of, push_of}
use Rattle.geometry.specs.Geometry.{floats}
use Rattle.mesh.specs.Lent.{Mesh, N, E, corners}
use Rattle.mesh.specs.Geometry.{sides}
use Rattle.mesh.specs.Geometry as G
use Rattle.bounds.specs.State.{node_of}
use Rattle.bounds.specs.Forcing.{wind_at}

-- floats, from +0
abbrev pub floating : Adding Float
floating = record { start = plus0; plus = ◌⊕◌ }

abbrev pub three_of : Shares → Three Float
three_of s = record { first = s.r1; second = s.r2; third = s.r3 }

-- what a step reads: a mesh and parameters, the state, a forcing's elevation and its winds; and how it takes an advective term, which the parameters say
pub record Given : Type 0 where
  pub mesh : Mesh
  pub p : Parameters
  pub state : List Float
  pub elevation : Float
  pub winds : List Float
  pub less : Taking

abbrev pub given : Mesh → Parameters → List Float → Float → List Float → Given
given m p state elevation winds = record { mesh = m; p = p; state = state; elevation = elevation; winds = winds; less = less_if p.advection }

module _ (g : Given) where
  abbrev pub count : ℕ
  count = N g.mesh

  abbrev pub node : ℕ → Node
  node = node_of count g.mesh.h g.state

  -- the new wind of node i
  abbrev pub new_wind : ℕ → Wind
  new_wind = wind_at count g.winds

  -- the kind of node i
  abbrev pub kind_of : ℕ → ℕ
  kind_of i = get_or g.mesh.kind i 0

  abbrev pub corners_of : ℕ → Three ℕ
  corners_of = corners g.mesh.tri

  -- a, b and D of triangle t as floats
  abbrev pub floats_at : ℕ → Sides
  floats_at t = floats (sides g.mesh.x g.mesh.y (corners_of t))

  -- the record of triangle t
  unfoldable pub means_at : ℕ → Means
  means_at t =
      let c = corners_of t in
      means (node c.first) (node c.second) (node c.third) (floats_at t)

  -- what its corners receive
  unfoldable pub shares_at : ℕ → Three Float
  shares_at t = three_of (shares g.less g.p (means_at t) (floats_at t))

  -- "R of a node starts at +0 and adds its corner values by ascending triangle number."
  abbrev pub R : ℕ → Float
  R = gathered floating corners_of shares_at (E g.mesh)

  -- S of a node, in whole numbers
  abbrev pub S : ℕ → ℕ
  S = G.S g.mesh.x g.mesh.y g.mesh.tri

  -- as a float: "all become floats without loss"
  abbrev pub float_s : ℕ → Float
  float_s i = of_int binary64 (pos (S i))

  -- z' of node i
  unfoldable pub rise : ℕ → Float
  rise i = rise_of g.p (kind_of i) g.elevation (node i) (float_s i) (R i)

  -- "((z1+z1')·b1 + (z2+z2')·b2) + (z3+z3')·b3", of triangle t with the b or the a of its corners
  abbrev pub both : ℕ → Float
  both i = (node i).z ⊕ rise i

  abbrev pub slope_at : (Sides → Three Float) → ℕ → Float
  slope_at across t =
      let c = corners_of t in
      let w = across (floats_at t) in
      slope (both c.first) (both c.second) (both c.third) w.first w.second w.third

  -- "Px starts at +0 and adds" the slope of both "by ascending triangle; Py with a."
  unfoldable pub slope_x : ℕ → Three Float
  slope_x t = alike (slope_at (λ l. record { first = l.b1; second = l.b2; third = l.b3 }) t)

  unfoldable pub slope_y : ℕ → Three Float
  slope_y t = alike (slope_at (λ l. record { first = l.a1; second = l.a2; third = l.a3 }) t)

  abbrev pub Px : ℕ → Float
  Px = gathered floating corners_of slope_x (E g.mesh)

  abbrev pub Py : ℕ → Float
  Py = gathered floating corners_of slope_y (E g.mesh)

  -- Document 02, #103: "a sum from +0 by ascending triangle of Ub·Xu + Vb·Yu …; Ry likewise with Xv and Yv"
  unfoldable pub advection_u : ℕ → Three Float
  advection_u t = alike (advection (means_at t)).u

  unfoldable pub advection_v : ℕ → Three Float
  advection_v t = alike (advection (means_at t)).v

  abbrev pub Au : ℕ → Float
  Au = gathered floating corners_of advection_u (E g.mesh)

  abbrev pub Av : ℕ → Float
  Av = gathered floating corners_of advection_v (E g.mesh)

  -- U' and V' of node i, and what they are made from
  abbrev pub push_at : ℕ → Push
  push_at i = push_of (node i) (new_wind i) (float_s i) (rise i) (Px i) (Py i) (Au i) (Av i)

  unfoldable pub flow_at : ℕ → Flow
  flow_at i = flow_of g.less g.p (kind_of i) (push_at i)

  abbrev pub U' : ℕ → Float
  U' i = (flow_at i).u

  abbrev pub V' : ℕ → Float
  V' i = (flow_at i).v

  -- "The next state is z, z', U', V'", and of #105 Wx', Wy': with U' and V' of each node
  abbrev pub next_by : (ℕ → Flow) → List Float
  next_by flows = runs_of count ((λ i. (node i).z) ∷ rise ∷ (λ i. (flows i).u) ∷ (λ i. (flows i).v) ∷ (λ i. (new_wind i).x) ∷ (λ i. (new_wind i).y) ∷ [])

  unfoldable pub next_state : List Float
  next_state = next_by flow_at
