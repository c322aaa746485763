-- Which answers a step's rows can have: not 13 before anything is worked out, and then 0 or 13; and with number 0 only the accepted one.
use Prim.Native.Nat.{ℕ, zero, suc, ◌+◌}
use mathlib.Core.Path.{◌≡◌, refl, subst}
use mathlib.Core.Bool.{Bool, true, false, ◌&&◌}
use native.Mathlib.Omega.{arith}
use lib.Dec.{T, ltb}
use Rattle.rows.specs.declared.Answer.{Answer}
use Rattle.rows.specs.Scan.{accepted, refused, row, ◌then◌, scan}
use Rattle.rows.proofs.ScanLaws.{then_stop, then_next}
use Rattle.quantities.specs.declared.Parameters.{Parameters}
use mathlib.Core.List.{List}
use lib.Ieee.{Float}
use Rattle.outcomes.specs.declared.Outcome.{Outcome}
use Rattle.outcomes.specs.declared.Outcome.TheVariants.{Accepted, Elevation, Column, East, North}
use Rattle.outcomes.specs.Outcomes.{of_rise, of_east, of_north, answer_of, rise_row, flow_row}
use Rattle.limits.specs.Limits.{row9, row11, row12_level, row12_wind}
use Rattle.mesh.specs.Lent.{Mesh}
use Rattle.mesh.specs.Rows.{row1, row2, row3, row4, row5, triangle_rows, shape_rows}
use Rattle.nodes.specs.Rows.{row7, row8, node_rows, mesh_rows}
use Rattle.bounds.specs.State.{row10, run_rows}
use Rattle.bounds.specs.Forcing.{row12, forced_rows}
use Rattle.passes.specs.Equations.{Given, count, node, rise, flow_at}
use Rattle.passes.specs.Row13.{row13}
use Rattle.passes.specs.Settle.{Rooms}
use Rattle.surge.specs.Lent.{Run}
use Rattle.surge.specs.Step.{step_rows}

-- ---- what holds of the accepted answer and of each refusal that a row gives holds of the answer of rows in order
module _ (P : Answer → Type 0) (none : P accepted) where
  row_has : (test : Bool) (number place : ℕ) → P (refused number place) → P (row test number place)
  unfolding row
  row_has true number place h = none
  row_has false number place h = h

  then_has : (a b : Answer) → P a → P b → P (a then b)
  then_has a b p q = go a.number refl
    where
      go : (n : ℕ) → a.number ≡ n → P (a then b)
      go zero e = rw (then_next a b e) q
      go (suc n) e = rw (then_stop a b (λ z. absurd (omega (arith, e, z)))) p

  scan_has : (f : ℕ → Answer) (n : ℕ) → ((k : ℕ) → P (f k)) → P (scan f n)
  unfolding scan
  scan_has f zero h = none
  scan_has f (suc n) h = then_has (f 0) _ (h 0) (scan_has (λ k. f (suc k)) n (λ k. h (suc k)))

-- ---- rows 1 to 12, by a test that is computed for each row's number
abbrev Early : ℕ → Type 0
Early n = T (ltb 0 n && ltb n 13)

module _ (P : Answer → Type 0) (none : P accepted) (low : (number place : ℕ) → Early number → P (refused number place)) where
  abbrev one : (test : Bool) (number place : ℕ) → Early number → P (row test number place)
  one test number place h = row_has P none test number place (low number place h)

  abbrev more : (a b : Answer) → P a → P b → P (a then b)
  more = then_has P none

  abbrev all : (f : ℕ → Answer) (n : ℕ) → ((k : ℕ) → P (f k)) → P (scan f n)
  all = scan_has P none

  mesh_has : (asked : Answer) (m : Mesh) (p : Parameters) → P asked → P (mesh_rows asked m p)
  unfolding mesh_rows shape_rows node_rows row1 row2 triangle_rows row3 row4 row5 row7 row8 row9
  mesh_has asked m p h =
      more _ _
      (more _ _ h (more _ _ (one _ 1 0 tt) (more _ _ (one _ 2 0 tt) (all _ _ (λ t. more _ _ (one _ 3 t tt) (more _ _ (one _ 4 t tt) (one _ 5 t tt)))))))
      (more _ _ (all _ _ (λ i. one _ 7 i tt))
      (more _ _ (all _ _ (λ i. one _ 8 i tt)) (more _ _ (one _ 9 0 tt) (more _ _ (one _ 9 1 tt) (more _ _ (one _ 9 2 tt) (one _ 9 3 tt))))))

  run_has : (asked : Answer) (m : Mesh) (p : Parameters) (state : List Float) → P asked → P (run_rows asked m p state)
  unfolding run_rows row10
  run_has asked m p state h = more _ _ (mesh_has _ m p (more _ _ h (one _ 1 0 tt))) (all _ _ (λ i. one _ 10 i tt))

  step_has : (m : Mesh) (p : Parameters) (s : Run) (f : List Float) (r : Rooms) → P (step_rows m p s f r)
  unfolding step_rows forced_rows row11 row12 row12_level row12_wind
  step_has m p s f r =
      more _ _ (run_has _ m p s.state (more _ _ (one _ 1 0 tt) (one _ 1 0 tt)))
      (more _ _ (one _ 11 0 tt) (more _ _ (one _ 12 1 tt) (all _ _ (λ i. one _ 12 (2 + i) tt))))

-- ---- not 13
pub not_13 : (m : Mesh) (p : Parameters) (s : Run) (f : List Float) (r : Rooms) → (step_rows m p s f r).number ≡ 13 → ⊥
not_13 = step_has (λ (a : Answer). a.number ≡ 13 → ⊥) (λ e. absurd (omega (arith, e))) (λ number place h e. absurd (subst Early e h))

-- ---- 0 or 13
abbrev Last : Answer → Type 0
Last a = (a.number ≡ 0 → ⊥) → a.number ≡ 13

zero_last : Last accepted
zero_last h = absurd (h refl)

outcome_last : (o : Outcome) (i : ℕ) → Last (answer_of o i)
outcome_last (Accepted v) i = zero_last
outcome_last (Elevation v) i = λ _. refl
outcome_last (Column v) i = λ _. refl
outcome_last (East v) i = λ _. refl
outcome_last (North v) i = λ _. refl

-- what holds of each node's outcomes holds of row 13
module _ (P : Answer → Type 0) (none : P accepted) (each : (o : Outcome) (i : ℕ) → P (answer_of o i)) (g : Given) where
  last_has : P (row13 g)
  unfolding row13 rise_row flow_row
  last_has =
      then_has P none _ _
      (scan_has P none (λ i. rise_row (node g i).h (rise g i) i) (count g) (λ i. each (of_rise (node g i).h (rise g i)) i))
      (scan_has P none (λ i. flow_row (flow_at g i) i) (count g) (λ i. let v = flow_at g i in then_has P none _ _ (each (of_east v.u) i) (each (of_north v.v) i)))

pub only_13 : (g : Given) → ((row13 g).number ≡ 0 → ⊥) → (row13 g).number ≡ 13
only_13 = last_has Last zero_last outcome_last

-- ---- "An accepted call has number 0 and place 0": one that has number 0 is the accepted answer
abbrev Plain : Answer → Type 0
Plain a = a.number ≡ 0 → a ≡ accepted

pub run_plain : (m : Mesh) (p : Parameters) (state : List Float) → Plain (run_rows accepted m p state)
run_plain m p state = run_has Plain (λ _. refl) (λ number place h e. absurd (subst Early e h)) accepted m p state (λ _. refl)
