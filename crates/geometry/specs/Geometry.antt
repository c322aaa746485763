-- Document 01, "Triangle geometry", on single values.
use Rattle.std.specs.Prelude.{ℕ, Bool, true, false, cond, ◌&&◌, ℤ, pos, negsuc, ◌-ℤ◌, ◌*ℤ◌, nat_le, unsigned_abs}
use Rattle.std.specs.Float.{binary64}
use Rattle.std.specs.Float.Ieee.{of_int}
use Rattle.std.specs.Float.Ieee.Exact.{HasValue}
use Rattle.lists.specs.Gather.{Three}
use Rattle.geometry.specs.declared.Corners.{Corners}
use Rattle.geometry.specs.declared.Places.{Places}
use Rattle.geometry.specs.declared.WholeSides.{WholeSides}
use Rattle.quantities.specs.declared.Sides.{Sides}

-- the node numbers of three corners
abbrev pub nodes_of : Corners → Three ℕ
nodes_of c = record { first = c.n1; second = c.n2; third = c.n3 }

-- the coordinates of three corners
abbrev pub east_of : Places → Three ℤ
east_of p = record { first = p.x1; second = p.x2; third = p.x3 }

abbrev pub north_of : Places → Three ℤ
north_of p = record { first = p.y1; second = p.y2; third = p.y3 }

-- "a1 = x3-x2, a2 = x1-x3, a3 = x2-x1; b1 = y2-y3, b2 = y3-y1, b3 = y1-y2"
abbrev pub sides_of : Three ℤ → Three ℤ → WholeSides
sides_of x y = record {
  a1 = x.third -ℤ x.second;
  a2 = x.first -ℤ x.third;
  a3 = x.second -ℤ x.first;
  b1 = y.second -ℤ y.third;
  b2 = y.third -ℤ y.first;
  b3 = y.first -ℤ y.second;
}

unfoldable pub sides_at : Places → WholeSides
sides_at p = sides_of (east_of p) (north_of p)

-- "Twice the area, with its sign, is D = a3·b2 - a2·b3."
abbrev pub D : WholeSides → ℤ
D s = s.a3 *ℤ s.b2 -ℤ s.a2 *ℤ s.b3

-- "Each |a|, |b| is at most 100,000"
abbrev pub near : ℤ → Bool
near v = nat_le (unsigned_abs v) 100000

unfoldable pub all_near : WholeSides → Bool
all_near s = near s.a1 && near s.a2 && near s.a3 && near s.b1 && near s.b2 && near s.b3

-- "all become floats without loss": the float of a whole number has its sign and its size, to the last unit
abbrev pub Lossless : ℤ → Type 0
Lossless (pos n) = HasValue (of_int binary64 (pos n)) false n 1
Lossless (negsuc n) = HasValue (of_int binary64 (negsuc n)) true (unsigned_abs (negsuc n)) 1

-- a and b, and this d, as floats
abbrev pub floats_with : WholeSides → ℤ → Sides
floats_with s d = record {
  a1 = of_int binary64 s.a1;
  a2 = of_int binary64 s.a2;
  a3 = of_int binary64 s.a3;
  b1 = of_int binary64 s.b1;
  b2 = of_int binary64 s.b2;
  b3 = of_int binary64 s.b3;
  d = of_int binary64 d;
}

unfoldable pub floats : WholeSides → Sides
floats s = floats_with s (D s)

-- ---- for any sides: D where row 4 accepts them, and 0 where it does not
unfoldable pub near_d : WholeSides → ℤ
near_d s = cond (all_near s) (D s) (pos 0)
