-- Document 02, #106: what is seen at points, in a mesh and a state that are lent as bytes.
use Rattle.std.specs.Prelude.{ℕ, Bool, true, false, cond, eqb, Option, Some, None, Result, Ok, Err, Float}
use Rattle.rows.specs.declared.Answer.{Answer}
use Rattle.rows.specs.declared.Refusal.{Refusal}
use Rattle.rows.specs.Numbers.{plus0}
use Rattle.rows.specs.Scan.{accepted}
use Rattle.rows.specs.Refusals.{answered}
use Rattle.mesh.specs.Lent.{E}
use Rattle.location.specs.declared.Points.{Points}
use Rattle.location.specs.declared.seeking.Point.{Point}
use Rattle.location.specs.Location.{is_inside}
use Rattle.location.specs.Survey.{Sightings, triangle_in, level_in, survey_of}
use Rattle.looking.specs.declared.Sight as code
use Rattle.looking.specs.Lent.{Lent, mesh_in, state_in, row1_bytes, lent_rows}

-- what is seen at one point: the rows' answer, and where they accept the triangle, whether there is one, and the elevation
pub record Sight : Type 0 where
  pub answer : Answer
  pub triangle : ℕ
  pub inside : Bool
  pub level : Float

-- what a call found; where no triangle contains the point, the triangle is E
abbrev pub found_in : Lent → Result (Option code.Sight) Refusal → Sight
found_in b (Ok (Some s)) = record { answer = accepted; triangle = s.triangle; inside = true; level = s.level }
found_in b (Ok None) = record { answer = accepted; triangle = E (mesh_in b); inside = false; level = plus0 }
found_in b (Err r) = record { answer = answered (Err r); triangle = 0; inside = false; level = plus0 }

-- at several points
unfoldable pub look_of : Lent → Points → Sightings
look_of b ps = survey_of (row1_bytes b) (mesh_in b) b.p (state_in b) ps

module _ (b : Lent) (q : Point) where
  -- a triangle contains the point; the lowest-numbered that does; the elevation there, in the state that is lent
  abbrev pub is_on : Bool
  is_on = is_inside (mesh_in b).x (mesh_in b).y (mesh_in b).tri q

  abbrev pub triangle_at : ℕ
  triangle_at = triangle_in (mesh_in b) (state_in b) q

  abbrev pub level_at : Float
  level_at = level_in (mesh_in b) (state_in b) q

  -- at one point, where rows 1 to 10 accept
  unfoldable pub sight_of : Sight
  sight_of =
      let a = lent_rows b in
      cond (eqb a.number 0) (record { answer = a; triangle = triangle_at; inside = is_on; level = level_at })
      (record { answer = a; triangle = 0; inside = false; level = plus0 })
