-- Further steps of a list: where a forcing stands, and how a turn takes them on.
use Prim.Native.Nat.{ℕ, zero, suc, ◌+◌, ◌-◌, ◌*◌, ◌/◌, ◌^◌, ◌<◌, ◌≤◌}
use mathlib.Core.Path.{◌≡◌, sym, ap, ◌∙◌}
use mathlib.Core.Bool.{Bool, not, true, false, cond}
use mathlib.Core.List.{List, ◌++◌}
use native.Mathlib.Omega.{arith}
use borrow.Author.Tests.{eqb-false, not-true, eq-eqb, ne_eqb}
use lib.Dec.{eqb}
use lib.ListN.{length, take, drop, length-append, length-drop}
use lib.Ieee.{Float}
use mir.Syntax.{w64}
use mir.Val.{Fits}
use Rattle.std.specs.Result.{is_ok}
use Rattle.rows.specs.Refusals.{answered}
use Rattle.rows.specs.Scan.{accepted, ◌then◌}
use Rattle.rows.proofs.RefusalLaws.{Asked}
use Rattle.rows.proofs.ScanLaws.{same_number, other_number, row_passed, then_first, then_assoc}
use Rattle.quantities.specs.declared.Parameters.{Parameters}
use Rattle.limits.specs.Limits.{row11}
use Rattle.mesh.specs.Lent.{Mesh, N}
use Rattle.bounds.specs.Forcing.{forcing_length, forcing_at, forcings_of, row12}
use Rattle.bounds.proofs.ListLaws.{count_forcings, forcing_within}
use Rattle.passes.specs.Equations.{next_state}
use Rattle.passes.specs.Row13.{row13}
use Rattle.passes.specs.Private.{of_forcing, later_rows, onward_of, onward}
use Rattle.passes.proofs.SettleLaws.{accepting, refusing}

pub listed : (n : ℕ) (l : List Float) {j : ℕ} → j < length l / forcing_length n → j < length (forcings_of n l)
listed n l h = rw (count_forcings n l) h

-- ---- forcing j, of `long` numbers, in a list of `total` as it was lent
pub record Part (long j total : ℕ) : Type 0 where
  pub start : Fits w64 (j * long)
  pub past : Fits w64 (j * long + long)
  pub bytes : Fits w64 (j * long * 8)
  pub within : j * long + long ≤ total

pub part : (n : ℕ) (l : List Float) {j : ℕ} → j < length l / forcing_length n → length l * 8 < 2 ^ 63 → Part (forcing_length n) j (length l)
part n l {j} h bytes =
    let within = forcing_within n l j (listed n l h) in
    record {
      start = record { fits = omega arith };
      past = record { fits = omega arith };
      bytes = record { fits = omega arith };
      within = within;
    }

-- it is lent as a part of the list
pub lent_part : (n : ℕ) (l : List Float) (j : ℕ) → let long = forcing_length n in take (j * long + long - j * long) (drop (j * long) l) ≡ forcing_at n l j
lent_part n l j = let long = forcing_length n in let same : j * long + long - j * long ≡ long = omega arith in ap (λ (k : ℕ). take k (drop (j * long) l)) same

-- a part that is put back where it was lent keeps the length of the whole
pub put_back : (k : ℕ) (part whole : List Float) → length part ≡ k → k ≤ length whole → length (part ++ drop k whole) ≡ length whole
put_back k part whole e l = simp (length-append, length-drop) (omega (arith, e, l))

-- ---- the turns
-- what a turn asks, row by row
pub later_lem : (m : Mesh) (p : Parameters) (step : ℕ) (f state : List Float) → (row11 step then row12 (N m) f then row13 (of_forcing m p f state)) ≡ later_rows m p step f state
unfolding later_rows
later_lem m p step f state = sym (then_assoc _ _ _)

module _ (m : Mesh) (p : Parameters) (from : ℕ) (f : ℕ → List Float) (count : ℕ) where
  -- one turn less to go
  less : {j : ℕ} → j < count → count - j ≡ suc (count - (j + 1))
  less l = omega arith

  pub onward_none : (j : ℕ) (state : List Float) → count ≤ j → onward m p from f (count - j) j state ≡ onward_of accepted j state
  unfolding onward
  onward_none j state l = let none : count - j ≡ 0 = omega arith in rw none

  -- the count does not fall
  pub onward_counts : (k j : ℕ) (state : List Float) → j ≤ (onward m p from f k j state).accepted
  unfolding onward
  onward_counts zero j state = omega arith
  onward_counts (suc k) j state =
      let new = next_state (of_forcing m p (f j) state) in
      go (eqb (later_rows m p (from + j) (f j) state).number 0) (onward_counts k (j + 1) new)
    where
      go : (b : Bool) → j + 1 ≤ (onward m p from f k (j + 1) (next_state (of_forcing m p (f j) state))).accepted
          → j ≤ (cond b (onward m p from f k (j + 1) (next_state (of_forcing m p (f j) state))) (onward_of (later_rows m p (from + j) (f j) state) j state)).accepted
      go true h = omega (arith, h)
      go false h = omega arith

  module _ (j : ℕ) (l : j < count) (state : List Float) (a : Asked) (e : answered a ≡ later_rows m p (from + j) (f j) state) where
    abbrev new : List Float
    new = next_state (of_forcing m p (f j) state)

    module _ {next : List Float} (q : next ≡ cond (is_ok a) new state) where
      pub onward_stop : is_ok a ≡ false → onward m p from f (count - j) j state ≡ onward_of (answered a) j next
      unfolding onward
      onward_stop h =
          let same = q ∙ ap (λ (b : Bool). cond b new state) h in
          rw (less l, ne_eqb _ 0 (other_number e (refusing a h))) (λ i. onward_of (sym e i) j (sym same i))

      pub onward_more : is_ok a ≡ true → onward m p from f (count - j) j state ≡ onward m p from f (count - (j + 1)) (j + 1) next
      unfolding onward
      onward_more h =
          let same = q ∙ ap (λ (b : Bool). cond b new state) h in
          rw (less l, eq-eqb _ 0 (same_number e (accepting a h))) (λ i. onward m p from f (count - (j + 1)) (j + 1) (sym same i))

    -- row 11: the clock can count on
    pub counts : is_ok a ≡ true → from + j ≡ 4294967295 → ⊥
    unfolding later_rows row11
    counts h =
        let may : not (eqb (from + j) 4294967295) ≡ true = row_passed _ 10 0 (then_first _ _ (then_first _ _ (same_number e (accepting a h)))) in
        eqb-false (from + j) 4294967295 (not-true (eqb (from + j) 4294967295) may)
