-- Document 02, #106: the calls. "Refusals, gauge number from 0 as place: after rows 1 to 10, 43 …, then 41 …, then 42 …, then 40 exactly when no triangle
-- contains the point; each leaves the peak record as found." What a call finds comes back beside its answer; a refused call finds 0 and +0.
use Rattle.std.specs.Prelude.{ℕ, false, List, Result, Ok, Err, ℤ, Float}
use Rattle.rows.specs.declared.Answer.{Answer}
use Rattle.rows.specs.declared.Refusal.{Refusal}
use Rattle.rows.specs.Numbers.{plus0}
use Rattle.rows.specs.Scan.{accepted, row, ◌then◌, scan}
use Rattle.rows.specs.Refusals.{answered}
use Rattle.quantities.specs.declared.Parameters.{Parameters}
use Rattle.location.specs.declared.seeking.Point.{Point}
use Rattle.keeping.specs.declared.Mark.{Mark}
use Rattle.keeping.specs.Record.{count_in, point_in, mark_in}
use Rattle.keeping.specs.Keeping as Keeping
use Rattle.keeping.specs.Keeping.{Given, if_accepted, number_rows, AddOut, UpdateOut}
use Rattle.looking.specs.Lent.{Lent, lent_rows}
use Rattle.looking.specs.Looking.{is_on, triangle_at, level_at}

-- the records, from the numbers that a C program passes and gets back one by one; the setting of advection does not cross: no row speaks of it
abbrev pub parameters : Float → Float → Float → Float → Parameters
parameters dt tau k f = record { dt = dt; tau = tau; k = k; f = f; advection = false }

abbrev pub answer : ℕ → ℕ → Float → Answer
answer number place value = record { number = number; place = place; value = value }

abbrev pub point : ℤ → ℤ → Point
point x y = record { x = x; y = y }

abbrev pub given : Answer → ℕ → Given
given a gauge = record { answer = a; gauge = gauge }

abbrev pub mark : ℕ → Float → ℕ → Mark
mark seen peak step = record { seen = seen; peak = peak; step = step }

-- "then 40 exactly when no triangle contains the point"
unfoldable pub row40 : Lent → Point → ℕ → Answer
row40 b q place = row (is_on b q) 40 place

-- ---- gauge_locate
pub record Located : Type 0 where
  pub answer : Answer
  pub triangle : ℕ

abbrev pub located : Answer → ℕ → Located
located a triangle = record { answer = a; triangle = triangle }

abbrev pub located_by : Result ℕ Refusal → Located
located_by (Ok triangle) = located accepted triangle
located_by (Err r) = located (answered (Err r)) 0

unfoldable pub locate_answer : Lent → Point → Answer
locate_answer b q = lent_rows b then row40 b q 0

unfoldable pub locate_of : Lent → Point → Located
locate_of b q = let a = locate_answer b q in located a (if_accepted a (triangle_at b q) 0)

-- ---- gauge_add: 43, 41 and 40 at the number that the gauge would have had
unfoldable pub add_of : Lent → List ℕ → Point → AddOut
add_of b r q = Keeping.add_of (lent_rows b) (is_on b q) q r

-- ---- gauge_elevation
pub record Measured : Type 0 where
  pub answer : Answer
  pub level : Float

abbrev pub measured : Answer → Float → Measured
measured a level = record { answer = a; level = level }

abbrev pub measured_by : Result Float Refusal → Measured
measured_by (Ok level) = measured accepted level
measured_by (Err r) = measured (answered (Err r)) plus0

unfoldable pub elevation_answer : Lent → List ℕ → ℕ → Answer
elevation_answer b r g = lent_rows b then number_rows r g then row40 b (point_in r g) g

unfoldable pub elevation_of : Lent → List ℕ → ℕ → Measured
elevation_of b r g = let a = elevation_answer b r g in measured a (if_accepted a (level_at b (point_in r g)) plus0)

-- ---- gauge_update: 43, then 40 at the first gauge whose point no triangle contains
unfoldable pub all_on : Lent → List ℕ → Answer
all_on b r = scan (λ g. row40 b (point_in r g) g) (count_in r)

unfoldable pub update_of : Lent → List ℕ → ℕ → UpdateOut
update_of b r step = Keeping.update_of (lent_rows b) (all_on b r) (λ g. level_at b (point_in r g)) step r

-- ---- gauge_peak
pub record Peaked : Type 0 where
  pub answer : Answer
  pub mark : Mark

abbrev pub peaked : Answer → Mark → Peaked
peaked a k = record { answer = a; mark = k }

abbrev pub peaked_by : Result Mark Refusal → Peaked
peaked_by (Ok k) = peaked accepted k
peaked_by (Err r) = peaked (answered (Err r)) (mark 0 plus0 0)

unfoldable pub peak_of : List ℕ → ℕ → Peaked
peak_of r g = let a = number_rows r g in peaked a (if_accepted a (mark_in r g) (mark 0 plus0 0))
