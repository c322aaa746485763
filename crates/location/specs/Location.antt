-- Document 02, #106: "Given a whole-metre point, it finds the lowest-numbered triangle that contains it (three doubled sub-areas w with their signs, each
-- named for the corner it lies opposite, none negative), and the gauge elevation is ((w1·z1 + w2·z2) + w3·z3)/D."
use Rattle.std.specs.Prelude.{ℕ, zero, suc, ◌/◌, Bool, cond, ◌&&◌, List, length, ℤ, pos, int_le, nat_lt, Float}
use Rattle.std.specs.Float.{binary64}
use Rattle.std.specs.Float.Ieee.{of_int}
use Rattle.rows.specs.Numbers.{plus0}
use Rattle.lists.specs.Gather.{Three}
use Rattle.quantities.specs.Operations.{◌⊕◌, ◌⊗◌, ◌⊘◌}
use Rattle.geometry.specs.Geometry.{sides_of, D}
use Rattle.mesh.specs.Lent.{corners}
use Rattle.mesh.specs.Geometry.{at}
use Rattle.location.specs.declared.seeking.Point.{Point}
use Rattle.location.specs.declared.seeking.Weights.{Weights}
use Rattle.location.specs.declared.seeking.Sighting.{Sighting}

-- a coordinate put for that of corner 1, 2 or 3
abbrev pub for1 : ℤ → Three ℤ → Three ℤ
for1 v c = record { first = v; second = c.second; third = c.third }

abbrev pub for2 : ℤ → Three ℤ → Three ℤ
for2 v c = record { first = c.first; second = v; third = c.third }

abbrev pub for3 : ℤ → Three ℤ → Three ℤ
for3 v c = record { first = c.first; second = c.second; third = v }

-- "three doubled sub-areas w with their signs, each named for the corner it lies opposite": D with the point put for that corner; and D beside them
unfoldable pub weights : Three ℤ → Three ℤ → Point → Weights
weights x y p = record {
  w1 = D (sides_of (for1 p.x x) (for1 p.y y));
  w2 = D (sides_of (for2 p.x x) (for2 p.y y));
  w3 = D (sides_of (for3 p.x x) (for3 p.y y));
  d = D (sides_of x y);
}

-- "none negative"
unfoldable pub none_negative : Weights → Bool
none_negative w = int_le (pos 0) w.w1 && int_le (pos 0) w.w2 && int_le (pos 0) w.w3

-- "the gauge elevation is ((w1·z1 + w2·z2) + w3·z3)/D"
unfoldable pub elevation : Weights → Three Float → Float
elevation w z =
    ((of_int binary64 w.w1 ⊗ z.first ⊕ of_int binary64 w.w2 ⊗ z.second) ⊕ of_int binary64 w.w3 ⊗ z.third) ⊘ of_int binary64 w.d

-- the lowest number below n that passes a test, and n where there is none
unfoldable pub lowest : (ℕ → Bool) → ℕ → ℕ
lowest test zero = zero
lowest test (suc n) = cond (test zero) zero (suc (lowest (λ k. test (suc k)) n))

-- z at each of three nodes
abbrev pub levels : (ℕ → Float) → Three ℕ → Three Float
levels z c = record { first = z c.first; second = z c.second; third = z c.third }

-- over a mesh's coordinates and triangles
module _ (x y : List ℤ) (tri : List ℕ) (p : Point) where
  unfoldable pub weights_at : ℕ → Weights
  weights_at t = weights (at x (corners tri t)) (at y (corners tri t)) p

  -- triangle t contains the point
  abbrev pub contains : ℕ → Bool
  contains t = none_negative (weights_at t)

  -- "the lowest-numbered triangle that contains it"; E where none does
  unfoldable pub triangle_of : ℕ
  triangle_of = lowest contains (length tri / 3)

  -- some triangle contains it
  abbrev pub is_inside : Bool
  is_inside = nat_lt triangle_of (length tri / 3)

  -- the elevation at the point, of a mesh with elevation z i at node i; +0 where no triangle contains it
  unfoldable pub level_of : (ℕ → Float) → Float
  level_of z = cond is_inside (elevation (weights_at triangle_of) (levels z (corners tri triangle_of))) plus0

  unfoldable pub sighted : (ℕ → Float) → Sighting
  sighted z = record { triangle = triangle_of; level = level_of z }
