-- Document 01, "What is lent": the mesh.
use Rattle.std.specs.Prelude.{ℕ, ◌+◌, ◌*◌, ◌/◌, cond, List, ltb, ℤ, length, get_or, Float}
use Rattle.lists.specs.Gather.{Three}
use Rattle.geometry.specs.declared.Corners.{Corners}
use Rattle.mesh.specs.declared.lent.Mesh as slices

-- "Per node: x and y in whole metres (32-bit signed), depth h, kind 0 (free), 1 (open), 2 (held land)." tri: three node numbers for each triangle
pub record Mesh : Type 0 where
  pub x : List ℤ
  pub y : List ℤ
  pub tri : List ℕ
  pub h : List Float
  pub kind : List ℕ

abbrev pub mesh : List ℤ → List ℤ → List ℕ → List Float → List ℕ → Mesh
mesh x y tri h kind = record { x = x; y = y; tri = tri; h = h; kind = kind }

-- the mesh that lent slices hold
abbrev pub mesh_of : slices.Mesh → Mesh
mesh_of m = mesh m.x.now m.y.now m.tri.now m.h.now m.kind.now

-- "N is the length of the x slice, E a third of the triangle list's length."
abbrev pub N : Mesh → ℕ
N m = length m.x

abbrev pub E : Mesh → ℕ
E m = length m.tri / 3

-- the node at corner j, from 0, of triangle t, and the three of them
abbrev pub corner : List ℕ → ℕ → ℕ → ℕ
corner tri t j = get_or tri (3 * t + j) 0

abbrev pub corners : List ℕ → ℕ → Three ℕ
corners tri t = record { first = corner tri t 0; second = corner tri t 1; third = corner tri t 2 }

-- the same for any t: node 0 three times where there is no triangle t
unfoldable pub corners_at : List ℕ → ℕ → Corners
corners_at tri t =
    cond (ltb t (length tri / 3)) (record { n1 = corner tri t 0; n2 = corner tri t 1; n3 = corner tri t 2 }) (record { n1 = 0; n2 = 0; n3 = 0 })
