-- What the rows leave of a mesh that they accept, for laws and for the contracts of private functions. No public contract cites it.
use Rattle.std.specs.Prelude.{ℕ, ◌*◌, ◌<◌, ◌≤◌, ◌≡◌, true, List, ℤ, pos, length}
use Rattle.lists.specs.Private.{Below}
use Rattle.geometry.specs.Geometry.{D, all_near}
use Rattle.mesh.specs.Lent.{Mesh, N, E, corners}
use Rattle.mesh.specs.Geometry.{sides, area}

-- rows 1 and 2: the lengths and the counts
pub record Sized (m : Mesh) : Type 0 where
  pub y : length m.y ≡ N m
  pub h : length m.h ≡ N m
  pub kind : length m.kind ≡ N m
  pub tri : length m.tri ≡ 3 * E m
  pub most_nodes : N m ≤ 4096
  pub most_triangles : E m ≤ 8192

-- rows 3 to 5: a triangle's corners are nodes, its a and b are small, and its D is above 0 and at most 2·10^10
pub record Sound (x y : List ℤ) (tri : List ℕ) (t : ℕ) : Type 0 where
  pub nodes : Below (corners tri t) (length x)
  pub small : all_near (sides x y (corners tri t)) ≡ true
  pub turns : D (sides x y (corners tri t)) ≡ pos (area x y tri t)
  pub most : area x y tri t ≤ 20000000000

pub record Shaped (m : Mesh) : Type 0 where
  pub sized : Sized m
  pub triangles : (t : ℕ) → t < E m → Sound m.x m.y m.tri t
