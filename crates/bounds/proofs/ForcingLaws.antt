-- A forcing's length, and what is known where what a step tests before row 13 accepts.
use Prim.Native.Nat.{ℕ, ◌+◌, ◌-◌, ◌*◌, ◌/◌, ◌<◌}
use mathlib.Core.Path.{◌≡◌, refl, sym, ap, ◌∙◌}
use mathlib.Core.Bool.{Bool, true, false}
use mathlib.Core.List.{List}
use native.Mathlib.Omega.{arith}
use borrow.Author.Tests.{eqb-true, eqb-false, eq-eqb, ne_eqb, leb-true, leb-false, le-leb, lt-leb}
use lib.Dec.{eqb, leb}
use lib.ListN.{length, take, length-drop}
use lib.Seq.{take_all}
use lib.Ieee.{Float}
use Rattle.rows.specs.declared.Answer.{Answer}
use Rattle.rows.specs.Scan.{accepted, ◌then◌}
use Rattle.rows.proofs.ScanLaws.{row_holds, row_passed, then_next, then_first, then_rest, scan_clean}
use Rattle.quantities.specs.declared.Parameters.{Parameters}
use Rattle.limits.specs.Limits.{is_calm, row12_wind}
use Rattle.mesh.specs.Lent.{Mesh, N}
use Rattle.bounds.specs.Forcing.{wind_runs, is_forcing, winds_of, wind_at, row1_forcing, row12, forced_rows, weather_rows}
use Rattle.bounds.specs.State.{run_rows}
use Rattle.bounds.proofs.StateLaws.{AcceptedRun, accepted_run}

-- one less on both sides
pub less_one : (a b : ℕ) → (a ≡ 0 → ⊥) → eqb (a - 1) b ≡ eqb a (1 + b)
less_one a b h = go (eqb (a - 1) b) refl
  where
    go : (q : Bool) → eqb (a - 1) b ≡ q → eqb (a - 1) b ≡ eqb a (1 + b)
    go true e = e ∙ sym (eq-eqb a (1 + b) (omega (arith, h, eqb-true (a - 1) b e)))
    go false e = e ∙ sym (ne_eqb a (1 + b) (λ q. eqb-false (a - 1) b e (omega (arith, q))))

-- at most 4,096 times so many, by their length divided
pub few_forcings : (l long : ℕ) → leb ((l + 4095) / 4096) long ≡ leb l (4096 * long)
few_forcings l long = go (leb ((l + 4095) / 4096) long) refl
  where
    go : (q : Bool) → leb ((l + 4095) / 4096) long ≡ q → leb ((l + 4095) / 4096) long ≡ leb l (4096 * long)
    go true e = e ∙ sym (le-leb l (4096 * long) (omega (arith, leb-true ((l + 4095) / 4096) long e)))
    go false e = e ∙ sym (lt-leb l (4096 * long) (omega (arith, leb-false ((l + 4095) / 4096) long e)))

pub long_forcing : (m : Mesh) (f : List Float) → (row1_forcing m f).number ≡ 0 → length f ≡ 1 + wind_runs * N m
long_forcing m f e = eqb-true _ _ (row_passed _ 0 0 e)

-- a forcing of the right length is asked row 12 alone
pub weather_long : (n : ℕ) (f : List Float) → length f ≡ 1 + wind_runs * n → weather_rows n f ≡ row12 n f
unfolding weather_rows
weather_long n f long = then_next _ _ (ap (λ (a : Answer). a.number) (row_holds 1 0 (eq-eqb _ _ long)))

-- the winds, as the part of a forcing past its elevation
pub past_first : (f : List Float) → take (length f - 1) (winds_of f) ≡ winds_of f
past_first f = take_all (length f - 1) (winds_of f) (simp length-drop (omega arith))

pub long_winds : (n : ℕ) (f : List Float) → length f ≡ 1 + wind_runs * n → length (winds_of f) ≡ wind_runs * n
long_winds n f long = simp length-drop (omega (arith, long))

-- row 12 of each node's wind
pub calm_winds : (n : ℕ) (f : List Float) → (row12 n f).number ≡ 0 → (i : ℕ) → i < n → is_calm (wind_at n (winds_of f) i) ≡ true
unfolding row12 row12_wind
calm_winds n f ok i l = row_passed _ 11 (2 + i) (scan_clean _ n (then_rest _ _ ok) i l)

module _ (asked : Answer) (m : Mesh) (p : Parameters) (state : List Float) (also : Answer) (f : List Float) where
  -- where row 1 has nothing to refuse before the run's rows
  pub forced_plain : asked ≡ accepted → length f ≡ 1 + wind_runs * N m → forced_rows asked m p state also f ≡ (run_rows accepted m p state then also then row12 (N m) f)
  unfolding forced_rows
  forced_plain e long =
      let none : (asked then row1_forcing m f) ≡ accepted = (λ i. e i then row_holds {test = is_forcing (N m) f} 1 0 (eq-eqb _ _ long) i) ∙ then_next accepted accepted refl in
      ap (λ (a : Answer). run_rows a m p state then also then row12 (N m) f) none

  pub record AcceptedForced : Type 0 where
    pub run : AcceptedRun (asked then row1_forcing m f) m p state
    pub long : length f ≡ 1 + wind_runs * N m
    pub others : asked.number ≡ 0
    pub counts : also.number ≡ 0
    pub forcing : (row12 (N m) f).number ≡ 0

  pub accepted_forced : (forced_rows asked m p state also f).number ≡ 0 → AcceptedForced
  unfolding forced_rows
  accepted_forced ok =
      let run = accepted_run _ m p state (then_first _ _ ok) in
      record {
        run = run;
        long = long_forcing m f (then_rest asked _ run.others);
        others = then_first asked _ run.others;
        counts = then_first also _ (then_rest _ _ ok);
        forcing = then_rest also _ (then_rest _ _ ok);
      }
