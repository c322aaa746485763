-- What an accepted settling leaves passes row 10, as the next step and a save ask it: between the steps of a list rows 1 to 10 need not be asked again.
use Prim.Native.Nat.{ℕ, ◌<◌}
use mathlib.Core.Path.{◌≡◌, refl}
use mathlib.Core.Bool.{Bool, true, false, cond}
use mathlib.Core.List.{List}
use native.Mathlib.Omega.{arith}
use lib.Ieee.{Float, le}
use Rattle.rows.specs.declared.Answer.{Answer}
use Rattle.rows.specs.Numbers.{in_size}
use Rattle.rows.specs.Scan.{accepted}
use Rattle.rows.proofs.ScanLaws.{then_first, then_rest, scan_clean}
use Rattle.lists.proofs.RunLaws.{runs_length}
use Rattle.quantities.specs.declared.Parameters.{Parameters}
use Rattle.outcomes.specs.declared.Outcome.{Outcome}
use Rattle.outcomes.specs.declared.Outcome.TheVariants.{Accepted as Fine, Elevation, Column}
use Rattle.quantities.specs.Operations.{◌⊕◌}
use Rattle.quantities.specs.Constants.{tenth}
use Rattle.outcomes.specs.Outcomes.{of_rise, speed, answer_of, rise_row, flow_row}
use Rattle.limits.specs.Limits.{in_bounds}
use Rattle.limits.proofs.BoundLaws.{all_bounded, each_bounded}
use Rattle.mesh.specs.Lent.{Mesh, N}
use Rattle.bounds.specs.State.{node_of, run_rows}
use Rattle.bounds.specs.Forcing.{elevation_of, winds_of, forced_rows}
use Rattle.bounds.proofs.StateLaws.{six_runs, in_bounds_lem}
use Rattle.bounds.proofs.ForcingLaws.{AcceptedForced, accepted_forced, calm_winds}
use Rattle.passes.specs.Equations.{Given, given, count, node, new_wind, rise, flow_at, U', V', next_state}
use Rattle.passes.specs.Row13.{rise_rows, row13}

-- ---- what row 13 leaves
rise_passed_of : (h z : Float) (i : ℕ) → (answer_of (of_rise h z) i).number ≡ 0 → (in_size 30 z ≡ true) × (le tenth (h ⊕ z) ≡ true)
unfolding of_rise
rise_passed_of h z i = go (in_size 30 z) (le tenth (h ⊕ z))
  where
    go : (a b : Bool) → (answer_of (cond a (cond b (Fine z) (Column (h ⊕ z))) (Elevation z)) i).number ≡ 0 → (a ≡ true) × (b ≡ true)
    go true true e = (refl, refl)
    go true false e = absurd (omega arith)
    go false b e = absurd (omega arith)

speed_passed : (v : Float) (refusal : Outcome) (i : ℕ) → ((answer_of refusal i).number ≡ 0 → ⊥) → (answer_of (speed v refusal) i).number ≡ 0 → in_size 20 v ≡ true
unfolding speed
speed_passed v refusal i bad = go (in_size 20 v)
  where
    go : (a : Bool) → (answer_of (cond a (Fine v) refusal) i).number ≡ 0 → a ≡ true
    go true e = refl
    go false e = absurd (bad e)

pub rise_passed : (g : Given) → (rise_rows g).number ≡ 0 → (i : ℕ) → i < count g → (in_size 30 (rise g i) ≡ true) × (le tenth ((node g i).h ⊕ rise g i) ≡ true)
unfolding rise_row
rise_passed g e i l = rise_passed_of _ _ i (scan_clean _ _ e i l)

module _ (g : Given) (e : (row13 g).number ≡ 0) (i : ℕ) (l : i < count g) where
  both_passed : (flow_row (flow_at g i) i).number ≡ 0
  unfolding row13
  both_passed = scan_clean _ _ (then_rest _ _ e) i l

  east_passed : in_size 20 (U' g i) ≡ true
  unfolding flow_row
  east_passed = speed_passed _ _ i (λ q. absurd (omega (arith, q))) (then_first _ _ both_passed)

  north_passed : in_size 20 (V' g i) ≡ true
  unfolding flow_row
  north_passed = speed_passed _ _ i (λ q. absurd (omega (arith, q))) (then_rest _ _ both_passed)

-- ---- an accepted settling
module _ (asked : Answer) (m : Mesh) (p : Parameters) (state : List Float) (also : Answer) (f : List Float) (first : (forced_rows asked m p state also f).number ≡ 0) where
  its : AcceptedForced asked m p state also f
  its = accepted_forced _ _ _ _ _ _ first

  abbrev g : Given
  g = given m p state (elevation_of f) (winds_of f)

  next_node : (row13 g).number ≡ 0 → (i : ℕ) → i < N m → in_bounds (node_of (N m) m.h (next_state g) i) ≡ true
  unfolding row13 next_state
  next_node last i l =
      let a = rise_passed g (then_first _ _ last) i l in
      rw (six_runs (N m) m.h (λ j. (node g j).z) (rise g) (U' g) (V' g) (λ j. (new_wind g j).x) (λ j. (new_wind g j).y) i l)
      (all_bounded _ (record {
        earlier = (each_bounded _ (its.run.bounds i l)).z;
        z = a.0;
        column = a.1;
        u = east_passed g last i l;
        v = north_passed g last i l;
        wind = calm_winds (N m) f its.forcing i l;
      }))

  -- the next state passes what a call on a run asks
  pub settled_rows : (row13 g).number ≡ 0 → (run_rows accepted m p (next_state g)).number ≡ 0
  unfolding next_state
  settled_rows last = in_bounds_lem m p _ its.run.mesh (runs_length (N m) _) (next_node last)
