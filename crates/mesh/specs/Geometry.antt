-- Document 01, "Triangle geometry", over the lent slices.
use Rattle.std.specs.Prelude.{ℕ, ◌/◌, List, ℤ, pos, nat_abs, length, get_or}
use Rattle.lists.specs.Gather.{Three, alike, whole, gathered}
use Rattle.geometry.specs.declared.Places.{Places}
use Rattle.geometry.specs.declared.WholeSides.{WholeSides}
use Rattle.geometry.specs.Geometry.{sides_of, D}
use Rattle.mesh.specs.Lent.{corners}

-- the coordinates of three nodes
abbrev pub at : List ℤ → Three ℕ → Three ℤ
at l c = record { first = get_or l c.first (pos 0); second = get_or l c.second (pos 0); third = get_or l c.third (pos 0) }

abbrev pub places_of : List ℤ → List ℤ → Three ℕ → Places
places_of x y c = record {
  x1 = (at x c).first;
  x2 = (at x c).second;
  x3 = (at x c).third;
  y1 = (at y c).first;
  y2 = (at y c).second;
  y3 = (at y c).third;
}

unfoldable pub sides : List ℤ → List ℤ → Three ℕ → WholeSides
sides x y c = sides_of (at x c) (at y c)

module _ (x y : List ℤ) (tri : List ℕ) where
  -- D of triangle t as a count: after row 5 it is above 0
  unfoldable pub area : ℕ → ℕ
  area t = nat_abs (D (sides x y (corners tri t)))

  -- "a node's sum S of D over its triangles"
  abbrev pub S : ℕ → ℕ
  S i = gathered whole (corners tri) (λ t. alike (area t)) (length tri / 3) i
