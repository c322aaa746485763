-- Document 02, #106: what a state has at the points of at most 64 gauges, after rows 1 to 10.
use Rattle.std.specs.Prelude.{ℕ, cond, List, Result, Ok, Err, pos, ◌==◌, nat_lt, slice_index_or, Float}
use Rattle.rows.specs.declared.Answer.{Answer}
use Rattle.rows.specs.declared.Refusal.{Refusal}
use Rattle.rows.specs.Numbers.{plus0}
use Rattle.rows.specs.Scan.{accepted}
use Rattle.rows.specs.Refusals.{said}
use Rattle.lists.specs.Table.{table}
use Rattle.lists.specs.Runs.{in_run}
use Rattle.quantities.specs.declared.Parameters.{Parameters}
use Rattle.mesh.specs.Lent.{Mesh, N}
use Rattle.bounds.specs.State.{run_rows}
use Rattle.location.specs.declared.seeking.Point.{Point}
use Rattle.location.specs.declared.Points.{Points}
use Rattle.location.specs.declared.Sightings as code
use Rattle.location.specs.Location.{triangle_of, level_of}

-- "for at most 64 gauges"
abbrev pub most : ℕ
most = 64

-- point g of several
abbrev pub point_of : Points → ℕ → Point
point_of ps g = record { x = slice_index_or ps.x g (pos 0); y = slice_index_or ps.y g (pos 0) }

-- the elevation z of a node: the present one
abbrev pub present : Mesh → List Float → ℕ → Float
present m state = in_run (N m) 1 state

module _ (m : Mesh) (state : List Float) (q : Point) where
  -- the triangle of a point, and the gauge elevation there
  abbrev pub triangle_in : ℕ
  triangle_in = triangle_of m.x m.y m.tri q

  abbrev pub level_in : Float
  level_in = level_of m.x m.y m.tri q (present m state)

-- the rows' answer, and of each point its triangle and the elevation there
pub record Sightings : Type 0 where
  pub answer : Answer
  pub triangle : List ℕ
  pub level : List Float

-- the triangle of each point, and the elevation there; 0 and +0 past the points that there are
unfoldable pub seen : Answer → Mesh → List Float → Points → Sightings
seen a m state ps = record {
  answer = a;
  triangle = table most (λ g. cond (nat_lt g ps.count) (triangle_in m state (point_of ps g)) 0);
  level = table most (λ g. cond (nat_lt g ps.count) (level_in m state (point_of ps g)) plus0);
}

unfoldable pub unseen : Answer → Sightings
unseen a = record { answer = a; triangle = table most (λ _. 0); level = table most (λ _. plus0) }

-- what a call saw. says: what an error says
abbrev pub sightings_by : {E : Type 0} → (E → Answer) → Result code.Sightings E → Sightings
sightings_by says (Ok s) = record { answer = accepted; triangle = s.triangle; level = s.level }
sightings_by says (Err e) = unseen (says e)

abbrev pub sightings_of : Result code.Sightings Refusal → Sightings
sightings_of seen = sightings_by said seen

-- asked: what the call tests before rows 1 to 10
unfoldable pub survey_of : Answer → Mesh → Parameters → List Float → Points → Sightings
survey_of asked m p state ps = let a = run_rows asked m p state in cond (a.number == 0) (seen a m state ps) (unseen a)
