-- What the functions here hand to one another, for laws and for the contracts of private functions. No public contract cites it.
use Rattle.std.specs.Prelude.{◌^◌, ◌<◌, Bool, cond, Option, Some, None, ◌*ℤ◌, unsigned_abs}
use Rattle.geometry.specs.declared.Places.{Places}
use Rattle.geometry.specs.declared.WholeSides.{WholeSides}
use Rattle.location.specs.declared.seeking.Point.{Point}

-- corners with a point put for corner 2, and for corner 3
abbrev pub for_second : Places → Point → Places
for_second c p = record { x1 = c.x1; x2 = p.x; x3 = c.x3; y1 = c.y1; y2 = p.y; y3 = c.y3 }

abbrev pub for_third : Places → Point → Places
for_third c p = record { x1 = c.x1; x2 = c.x2; x3 = p.x; y1 = c.y1; y2 = c.y2; y3 = p.y }

-- sides with products of less than 2^60 in size, so that their D holds in 64 bits, and so does what two such D leave of a third
pub record Short (s : WholeSides) : Type 0 where
  pub left : unsigned_abs (s.a3 *ℤ s.b2) < 2 ^ 60
  pub right : unsigned_abs (s.a2 *ℤ s.b3) < 2 ^ 60

-- what is found where some triangle contains the point
abbrev pub where_inside : {A : Type 0} → Bool → A → Option A
where_inside inside found = cond inside (Some found) None
