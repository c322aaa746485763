-- #102 with K = 0: wherever a step looks at U' and V', both H and H' are at least 0.1, and there the earlier m and the corrected one are 1.
use Prim.Native.Nat.{ℕ, ◌<◌}
use mathlib.Core.Path.{◌≡◌, refl, sym, ap, ◌∙◌}
use mathlib.Core.Bool.{Bool, true, false}
use mathlib.Core.List.{List, [], ◌∷◌}
use borrow.Author.Tests.{eqb-true, eqb-false}
use lib.Dec.{T, eqb}
use lib.Ieee.{Float, le, round}
use lib.Ieee.Scale.{finite}
use Rattle.rows.specs.declared.Answer.{Answer}
use Rattle.rows.specs.Scan.{◌then◌}
use Rattle.rows.specs.Numbers.{within, decimal}
use Rattle.rows.proofs.ScanLaws.{then_stop, scan_same}
use Rattle.lists.proofs.RunLaws.{run_same}
use Rattle.quantities.specs.declared.Parameters.{Parameters}
use Rattle.quantities.specs.declared.Push.{Push}
use Rattle.quantities.specs.declared.Flow.{Flow}
use Rattle.quantities.specs.Operations.{◌⊕◌, ◌⊖◌, ◌⊗◌, ◌⊘◌}
use Rattle.quantities.specs.Constants.{tenth, one, two, IsZero}
use Rattle.quantities.proofs.FloatLaws.{within_finite, times_zero, zero_over, one_minus_zero, twice_above}
use Rattle.velocity.specs.Velocity.{H, H', r, m as its_m, flow, flow_by, of_kind, flow_of}
use Rattle.outcomes.specs.Outcomes.{flow_row}
use Rattle.mesh.specs.Lent.{Mesh, N}
use Rattle.nodes.proofs.PartLaws.{mesh_parts, dt_in}
use Rattle.bounds.specs.Forcing.{row1_forcing}
use Rattle.bounds.proofs.StateLaws.{AcceptedRun}
use Rattle.bounds.proofs.ForcingLaws.{accepted_forced}
use Rattle.passes.specs.Equations.{Given, kind_of, node, new_wind, rise, push_at, flow_at, next_by, next_state}
use Rattle.passes.specs.Row13.{rise_rows, flow_rows_by, row13_by, row13}
use Rattle.passes.specs.Settle.{Rooms, row1_rooms}
use Rattle.surge.specs.Lent.{Run, run, advanced}
use Rattle.surge.specs.Step.{given_of, advance, step_rows, steps_to, step_of}
use Rattle.passes.proofs.NextLaws.{rise_passed}
use Rattle.limits.proofs.BoundLaws.{each_bounded}
use Rattle.demands.specs.Friction.{earlier_m, earlier_flow, earlier_step, SameAtZeroFriction}

-- ---- of a node
no_friction : (p : Parameters) (column : Float) → T (finite p.dt) → IsZero p.k → le tenth column ≡ true → one ⊖ (p.dt ⊗ p.k) ⊘ (two ⊗ column) ≡ one
no_friction p column dt k h = one_minus_zero _ (zero_over _ _ (times_zero _ _ dt k) (twice_above column h))

same_m : (p : Parameters) (x : Push) → T (finite p.dt) → IsZero p.k → le tenth (x.h ⊕ x.z) ≡ true → le tenth (x.h ⊕ x.rise) ≡ true → earlier_m p x ≡ its_m p x
unfolding earlier_m its_m r H H'
same_m p x dt k h h' = no_friction p _ dt k h' ∙ sym (no_friction p _ dt k h)

-- dt is finite, by row 9
dt_finite : (dt : Float) → within (decimal 125 1000) dt (decimal 60 1) ≡ true → T (finite dt)
unfolding decimal round
dt_finite dt = within_finite (decimal 125 1000) dt (decimal 60 1) tt tt

-- ---- of a step
module _ (m : Mesh) (p : Parameters) (s : Run) (f : List Float) (rooms : Rooms) (k : IsZero p.k) where
  abbrev g : Given
  g = given_of m p s f

  -- where U' and V' are looked at
  module _ (first : (step_rows m p s f rooms).number ≡ 0) (rises : (rise_rows g).number ≡ 0) where
    ran : AcceptedRun (row1_rooms rooms (N m) then row1_forcing m f) m p s.state
    unfolding step_rows
    ran = (accepted_forced _ _ _ _ _ _ first).run

    same_flow : (i : ℕ) → i < N m → earlier_flow g i ≡ flow_at g i
    unfolding flow_at flow_of flow
    same_flow i l =
        let dt = dt_finite _ (dt_in _ _ _ _ p (mesh_parts _ m p ran.mesh).1) in
        ap (λ (x : Float). of_kind (kind_of g i) (flow_by p (push_at g i) g.less x))
        (same_m p (push_at g i) dt k (each_bounded _ (ran.bounds i l)).column (rise_passed g rises i l).1)

    same_next : next_by g (earlier_flow g) ≡ next_state g
    unfolding next_state
    same_next =
        let z : ℕ → Float = λ i. (node g i).z in
        let us : (ℕ → Flow) → ℕ → Float = λ flows i. (flows i).u in
        let vs : (ℕ → Flow) → ℕ → Float = λ flows i. (flows i).v in
        let x : ℕ → Float = λ i. (new_wind g i).x in
        let y : ℕ → Float = λ i. (new_wind g i).y in
        run_same (N m) (z ∷ rise g ∷ z ∷ vs (earlier_flow g) ∷ x ∷ y ∷ []) 2 (us (earlier_flow g)) (us (flow_at g)) (λ i l. ap (λ (v : Flow). v.u) (same_flow i l))
        ∙ run_same (N m) (z ∷ rise g ∷ us (flow_at g) ∷ z ∷ x ∷ y ∷ []) 3 (vs (earlier_flow g)) (vs (flow_at g)) (λ i l. ap (λ (v : Flow). v.v) (same_flow i l))

    same_row : row13_by g (earlier_flow g) ≡ row13 g
    unfolding row13
    same_row = ap (λ (a : Answer). rise_rows g then a) (scan_same _ _ (N m) (λ i l. ap (λ (v : Flow). flow_row v i) (same_flow i l)))

  same_step : step_of m p s f rooms ≡ earlier_step m p s f rooms
  unfolding step_of steps_to earlier_step row13 advance
  same_step = go (eqb (step_rows m p s f rooms).number 0) refl (eqb (rise_rows g).number 0) refl
    where
      go : (a : Bool) → eqb (step_rows m p s f rooms).number 0 ≡ a → (b : Bool) → eqb (rise_rows g).number 0 ≡ b → step_of m p s f rooms ≡ earlier_step m p s f rooms
      go false e b q = rw e refl
      go true e true q =
          let first = eqb-true _ _ e in
          let rises = eqb-true _ _ q in
          sym (λ i. steps_to m p s f rooms (run (same_next first rises i) (advanced s.clock)) (step_rows m p s f rooms) (same_row first rises i))
      go true e false q =
          let stops = eqb-false _ _ q in
          rw (e, then_stop (rise_rows g) (flow_rows_by g (flow_at g)) stops, then_stop (rise_rows g) (flow_rows_by g (earlier_flow g)) stops, q) refl

pub same_at_zero_friction : SameAtZeroFriction
same_at_zero_friction = record {
  surge_step = λ κs a g x v met k. met ∙ same_step _ _ _ _ _ k;
  capi_surge_step = λ κs a g x v met k. met ∙ same_step _ _ _ _ _ k;
}
