-- What is loaded of any text can be saved again, and so can a cold start and what a step gives.
use Prim.Native.Nat.{ℕ, zero, suc, ◌+◌, ◌*◌, ◌<◌}
use mathlib.Core.Path.{◌≡◌, refl}
use mathlib.Core.Bool.{Bool, true, false, cond}
use mathlib.Core.List.{List, [], ◌∷◌, ◌++◌}
use native.Mathlib.Omega.{arith}
use borrow.Author.Tests.{ltb-true, ltb-false}
use lib.Dec.{T, ltb, eqb, lit<}
use lib.ListN.{length, get_or, get_or-eq_default}
use lib.Ieee.{Float, nan, binary64, fits}
use lib.Ieee.Bits.{of_bits-fits}
use lib.Ieee.Fits.{nan-fits, add-fits, div-fits, cond-fits}
use Rattle.lists.specs.Table.{table}
use Rattle.lists.specs.Runs.{runs_of}
use Rattle.rows.specs.Numbers.{plus0}
use Rattle.lists.proofs.TableLaws.{length_table}
use Rattle.quantities.specs.declared.Parameters.{Parameters}
use Rattle.quantities.specs.declared.Push.{Push}
use Rattle.quantities.specs.declared.Flow.{Flow}
use Rattle.elevation.specs.Elevation.{z', rise_of}
use Rattle.quantities.specs.Operations.{Taking}
use Rattle.velocity.specs.Velocity.{flow, U' as u', V' as v', flow_of}
use Rattle.frames.proofs.BackLaws.{value_small}
use Rattle.mesh.specs.Lent.{Mesh, N}
use Rattle.bounds.specs.State.{state_runs}
use Rattle.bounds.specs.Forcing.{winds_of}
use Rattle.surge.specs.Lent.{Run, cold_state, cold_clock}
use Rattle.passes.specs.Equations.{rise, flow_at, next_state}
use Rattle.surge.specs.Step.{given_of, advance}
use Rattle.lists.proofs.RunLaws.{runs_length}
use Rattle.loads.specs.Storable.{StorableClock, StorableState}
use Rattle.loads.specs.Load.{line_in, clock_in, node_in, state_in}
use Rattle.editions.specs.Lines.{Edition}

-- each value of a list is a binary64; past its end it is NaN
abbrev pub AllFit : List Float → Type 0
AllFit l = (j : ℕ) → T (fits binary64 (get_or l j nan))

join_fit : (a b : List Float) → AllFit a → AllFit b → AllFit (a ++ b)
join_fit [] b f g j = g j
join_fit (x ∷ a) b f g zero = f 0
join_fit (x ∷ a) b f g (suc j) = join_fit a b (λ i. f (suc i)) g j

-- each value that a function gives is one
abbrev EachFits : (ℕ → Float) → Type 0
EachFits f = (i : ℕ) → T (fits binary64 (f i))

abbrev AllOf : List (ℕ → Float) → Type 0
AllOf [] = Unit {0}
AllOf (f ∷ fs) = EachFits f × AllOf fs

table_fit : (n : ℕ) (f : ℕ → Float) → EachFits f → AllFit (table n f)
unfolding table
table_fit zero f h j = nan-fits binary64
table_fit (suc n) f h zero = h 0
table_fit (suc n) f h (suc j) = table_fit n (λ k. f (suc k)) (λ i. h (suc i)) j

-- runs of n
runs_fit : (n : ℕ) (fs : List (ℕ → Float)) → AllOf fs → AllFit (runs_of n fs)
unfolding runs_of
runs_fit n [] h j = nan-fits binary64
runs_fit n (f ∷ fs) h j = join_fit (table n f) (runs_of n fs) (table_fit n f h.0) (runs_fit n fs h.1) j

six_storable : (n : ℕ) (a b c d e f : ℕ → Float) → AllOf (a ∷ b ∷ c ∷ d ∷ e ∷ f ∷ []) → StorableState n (runs_of n (a ∷ b ∷ c ∷ d ∷ e ∷ f ∷ []))
six_storable n a b c d e f h = record { long = runs_length n _; values = λ j _. runs_fit n (a ∷ b ∷ c ∷ d ∷ e ∷ f ∷ []) h j }

-- the clock that is read of a text
pub clock_storable : (d : Edition) (n : ℕ) (t : List ℕ) → StorableClock (clock_in d n t)
unfolding clock_in
clock_storable d n t = record { step = value_small (line_in d n t 0) 7 4 }

-- the state that is read of a text
pub state_storable : (d : Edition) (n : ℕ) (t : List ℕ) (h : List Float) → StorableState n (state_in d n t h)
unfolding state_in node_in
state_storable d n t h =
    six_storable n _ _ _ _ _ _
    ((λ i. of_bits-fits binary64 _), ((λ i. of_bits-fits binary64 _), ((λ i. of_bits-fits binary64 _), ((λ i. of_bits-fits binary64 _), ((λ i. of_bits-fits binary64 _), ((λ i. of_bits-fits binary64 _), tt))))))

-- a cold start
pub cold_clock_storable : StorableClock cold_clock
cold_clock_storable = record { step = lit< tt }

pub cold_state_storable : (n : ℕ) → StorableState n (cold_state n)
unfolding fits
cold_state_storable n = record { long = length_table (state_runs * n) _; values = λ j _. table_fit (state_runs * n) _ (λ i. tt) j }

-- ---- what the equations give of a run that can be saved, from a forcing of binary64: a value of the run, of the forcing, or the result of an operation
pub past_fit : (l : List Float) → ((j : ℕ) → j < length l → T (fits binary64 (get_or l j nan))) → AllFit l
past_fit l h j = go (ltb j (length l)) refl
  where
    go : (b : Bool) → ltb j (length l) ≡ b → T (fits binary64 (get_or l j nan))
    go true q = h j (ltb-true j _ q)
    go false q = rw (get_or-eq_default l nan (ltb-false j _ q)) (nan-fits binary64)

all_fit : (n : ℕ) (l : List Float) → StorableState n l → AllFit l
all_fit n l s = past_fit l s.values

flow_fit : (less : Taking) (p : Parameters) (kind : ℕ) (x : Push) → T (fits binary64 (flow_of less p kind x).u) × T (fits binary64 (flow_of less p kind x).v)
unfolding flow_of flow u' v' fits
flow_fit less p kind x = go (eqb kind 2)
  where
    go : (b : Bool) → let w : Flow = cond b (record { u = plus0; v = plus0 }) (flow p x less) in T (fits binary64 w.u) × T (fits binary64 w.v)
    go true = (tt, tt)
    go false = (div-fits binary64 _ _, div-fits binary64 _ _)

-- the winds of a forcing
winds_fit : (f : List Float) → AllFit f → AllFit (winds_of f)
winds_fit [] h j = nan-fits binary64
winds_fit (e ∷ f) h j = h (suc j)

module _ (m : Mesh) (p : Parameters) (r : Run) (f : List Float) (ff : AllFit f) where
  rise_fit : (i : ℕ) → T (fits binary64 (rise (given_of m p r f) i))
  unfolding rise rise_of z'
  rise_fit i = cond-fits binary64 (eqb (get_or m.kind i 0) 1) _ _ (ff 0) (add-fits binary64 _ _)

  pub next_state_storable : StorableState (N m) r.state → StorableState (N m) (advance m p r f).state
  unfolding advance next_state flow_at
  next_state_storable s =
      let winds = winds_fit f ff in
      six_storable (N m) _ _ _ _ _ _
      ((λ i. all_fit _ _ s (1 * N m + i)), (rise_fit, ((λ i. (flow_fit _ _ _ _).0), ((λ i. (flow_fit _ _ _ _).1), ((λ i. winds (0 * N m + i)), ((λ i. winds (1 * N m + i)), tt))))))

  pub next_clock_storable : (r.clock.step ≡ 4294967295 → ⊥) → StorableClock r.clock → StorableClock (advance m p r f).clock
  unfolding advance
  next_clock_storable l c = record { step = omega (arith, c.step, l) }
