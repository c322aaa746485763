-- The product's calls have the laws of a history, so demand 3 holds of it; own saves are accepted back, and every run held can be saved.
use Prim.Native.Nat.{ℕ, zero, suc, ◌*◌, ◌/◌, ◌<◌}
use mathlib.Core.Path.{◌≡◌, refl, sym, ap, subst, ◌∙◌}
use mathlib.Core.Bool.{true, false}
use mathlib.Core.List.{List, foldl}
use borrow.Author.Tests.{eqb-true, eq-eqb}
use lib.Dec.{T}
use lib.ListN.{length, get_or, take}
use lib.Ieee.{Float, nan, binary64, fits}
use Rattle.lists.specs.Table.{table}
use Rattle.quantities.specs.declared.Parameters.{Parameters}
use Rattle.mesh.specs.Lent.{Mesh, N}
use Rattle.rows.specs.Scan.{accepted}
use Rattle.surge.specs.Lent.{Run, run, After}
use Rattle.nodes.specs.Rows.{mesh_rows}
use Rattle.surge.specs.Open.{open_answer, open_of}
use Rattle.bounds.specs.State.{state_runs, run_rows}
use Rattle.bounds.specs.Forcing.{forcing_length, forcings_of}
use Rattle.surge.specs.Step.{StepOut, advance}
use Rattle.passes.specs.Settle.{Rooms}
use Rattle.surge.proofs.StepLaws.{early, late, not_last, went_on_lem, stayed}
use Rattle.surge.proofs.NextLaws.{next_rows}
use Rattle.surge.proofs.StepAllLaws.{step_all_along, step_all_keeps}
use Rattle.surge.proofs.ColdLaws.{cold_rows, opened_mesh}
use Rattle.loads.specs.Storable.{StorableState, StorableClock, StorableParameters}
use Rattle.loads.proofs.OwnLaws.{saved_loaded}
use Rattle.loads.proofs.StorableLaws.{past_fit, clock_storable, state_storable, cold_clock_storable, cold_state_storable, next_state_storable, next_clock_storable}
use Rattle.saves.proofs.SaveLaws.{save_accepts}
use Rattle.editions.specs.Lines.{edition_of}
use Rattle.loads.specs.Load.{clock_in, load_answer, state_in, load_of}
use Rattle.loads.proofs.LoadLaws.{load_took, load_stayed, load_long, loaded_rows}
use Rattle.history.specs.History.{Reply, Call, history, Laws}
use Rattle.history.proofs.Demand3.{demand3, held_good, any_save_of_a_text}
use Rattle.demands.specs.RoundTrip.{gives}
use Rattle.demands.specs.Demand3.{Weather, WeatherList, weather_at, weathers, accepts, cold_run, Into, itself, other, lent, state_after, stepped, caught_up, saved, loaded, surge, Demand3AtSurge, AnySaveAtSurge, OpensCold, OwnSavesLoad, HeldRunsSave}

module _ (m : Mesh) (p : Parameters) (sp : StorableParameters p) where
  -- a run that these calls can hold: six runs of N binary64, a clock that a head can hold, and row 10 passes where the mesh passes 1 to 9
  record Good (r : Run) : Type 0 where
    state : StorableState (N m) r.state
    clock : StorableClock r.clock
    bounds : (mesh_rows accepted m p).number ≡ 0 → (run_rows accepted m p r.state).number ≡ 0

  good_cold : Good (cold_run m)
  good_cold = record { state = cold_state_storable (N m); clock = cold_clock_storable; bounds = cold_rows m p }

  -- ---- a step
  -- an accepted one keeps a run so
  next_good : (r : Run) (f : List Float) (rooms : Rooms) → ((j : ℕ) → j < length f → T (fits binary64 (get_or f j nan))) → Good r
      → (early m p r f rooms).number ≡ 0 → (late m p r f rooms).number ≡ 0 → Good (advance m p r f)
  next_good r f rooms values g e l = record {
    state = next_state_storable m p r f (past_fit f values) g.state;
    clock = next_clock_storable m p r f (past_fit f values) (not_last m p r f rooms e) g.clock;
    bounds = λ _. next_rows m p r f rooms e l;
  }

  module _ (r : Run) (f : Weather) (rooms : Rooms) where
    abbrev its : Run
    its = advance m p r f.forcing

    step_on : Good r → (stepped m p r f.forcing rooms).accepted ≡ true → ((stepped m p r f.forcing rooms).held ≡ its) × Good its
    step_on g e =
        let w = went_on_lem m p r f.forcing rooms e in (
          rw e (ap (λ (o : StepOut). run o.rooms.next o.reply.clock) w.out),
          next_good r f.forcing rooms f.values g w.first w.last,
        )

    step_back : (stepped m p r f.forcing rooms).accepted ≡ false → (stepped m p r f.forcing rooms).held ≡ r
    step_back e = rw e (ap (run r.state) (stayed m p r f.forcing rooms e))

  -- ---- a list
  -- the equations along the forcings, as a program has them and as they are lent
  same_along : (n k : ℕ) (f : ℕ → Weather) (r : Run)
      → foldl (λ (q : Run) (w : Weather). advance m p q w.forcing) r (take k (table n f)) ≡ foldl (advance m p) r (take k (table n (λ j. (f j).forcing)))
  unfolding table
  same_along zero zero f r = refl
  same_along zero (suc k) f r = refl
  same_along (suc n) zero f r = refl
  same_along (suc n) (suc k) f r = same_along n k (λ j. f (suc j)) (advance m p r (f 0).forcing)

  list_on : (r : Run) (l : WeatherList) (rooms : Rooms) → Good r → let o = caught_up m p r l.list rooms in
      (o.held ≡ foldl (λ (q : Run) (w : Weather). advance m p q w.forcing) r (take o.accepted (weathers (N m) l))) × Good o.held
  unfolding forcings_of
  list_on r l rooms g = (
    (step_all_along m p r l.list rooms).held
        ∙ sym (same_along (length l.list / forcing_length (N m)) (caught_up m p r l.list rooms).accepted (weather_at (N m) l) r),
    step_all_keeps m p r l.list rooms (λ (f : List Float). (j : ℕ) → j < length f → T (fits binary64 (get_or f j nan))) Good next_good
        (λ j _. (weather_at (N m) l j).values) g,
  )

  -- ---- a load
  abbrev left : After → Run
  left o = run o.state o.reply.clock

  -- a run of a text whose load was accepted is good
  text_good : (t : List ℕ) (state : List Float) → (load_answer m p t state).number ≡ 0 → Good (run (state_in (edition_of t) (N m) t m.h) (clock_in (edition_of t) (N m) t))
  text_good t state ok = record {
    state = state_storable (edition_of t) (N m) t m.h;
    clock = clock_storable (edition_of t) (N m) t;
    bounds = λ _. loaded_rows m p t state ok;
  }

  -- where a load is accepted the run held is the one that it leaves, whichever slice it was lent
  load_left : (r : Run) (t : List ℕ) (into : Into) → (loaded m p r t into).accepted ≡ true
      → (loaded m p r t into).held ≡ left (load_of m p t (lent r into) r.clock)
  load_left r t itself e = refl
  load_left r t (other slice) e = rw e

  load_on : (r : Run) (t : List ℕ) (into : Into) → (loaded m p r t into).accepted ≡ true → Good (loaded m p r t into).held
  load_on r t into e =
      let (ok, out) = load_took m p t (lent r into) r.clock e in
      subst Good (sym (load_left r t into e ∙ ap left out)) (text_good t (lent r into) ok)

  load_back : (r : Run) (t : List ℕ) (into : Into) → (loaded m p r t into).accepted ≡ false → (loaded m p r t into).held ≡ r
  load_back r t itself e = ap left (load_stayed m p t r.state r.clock e)
  load_back r t (other slice) e = rw e (ap (λ (o : After). run r.state o.reply.clock) (load_stayed m p t slice r.clock e))

  -- ---- a save, and a load of its text
  -- what a program takes up of what a load leaves
  abbrev replied : Run → Into → After → Reply Run
  replied q into o =
      let ok = accepts o.reply.answer in
      record { accepted = ok; held = run (state_after into ok o.state q.state) o.reply.clock }

  own_text : (r q : Run) (text : List ℕ) (into : Into) → Good r → length (lent q into) ≡ state_runs * N m → (saved m p r text).accepted ≡ true
      → loaded m p q (saved m p r text).text into ≡ record { accepted = true; held = r }
  own_text r q text into g l e =
      ap (replied q into) (saved_loaded m p (lent q into) l r.state r.clock g.state g.clock sp text (eqb-true _ _ e) q.clock) ∙ taken_up into
    where
      taken_up : (b : Into) → replied q b (gives r.state r.clock) ≡ record { accepted = true; held = r }
      taken_up itself = refl
      taken_up (other slice) = refl

  -- a slice that an accepted load was lent has 6N places
  lent_long : (q : Run) (t : List ℕ) (into : Into) → (loaded m p q t into).accepted ≡ true → length (lent q into) ≡ state_runs * N m
  lent_long q t into e = load_long m p t (lent q into) (load_took m p t (lent q into) q.clock e).0

  laws : Laws (surge m p)
  laws = record {
    Good = Good;
    cold_good = good_cold;
    step_accepted = step_on;
    step_refused = step_back;
    step_all_accepted = list_on;
    load_accepted = load_on;
    load_refused = load_back;
    load_saved = λ r q text into g _ e ok. ap (λ (a : Reply Run). a.held) (own_text r q text into g (lent_long q _ into ok) e);
    same_text = λ r q text room g h e k same.
        let one = own_text r r text itself g g.state.long e in
        let two = own_text q r room itself h g.state.long k in
        ap (λ (a : Reply Run). a.held) (sym one ∙ ap (λ (t : List ℕ). loaded m p r t itself) same ∙ two);
  }

  -- every run held is such a run
  good : (cs : List (Call (surge m p))) → Good (history (surge m p) cs).held
  unfolding laws
  good cs = held_good (surge m p) laws cs

-- ---- the statements
pub demand3_at_surge : Demand3AtSurge
demand3_at_surge m p sp = demand3 (surge m p) (laws m p sp)

pub any_save_at_surge : AnySaveAtSurge
any_save_at_surge m p sp = any_save_of_a_text (surge m p) (laws m p sp)

pub opens_cold : OpensCold
unfolding open_of
opens_cold m p state e = rw e

pub own_saves_load : OwnSavesLoad
own_saves_load m p sp cs text now into e l = own_text m p sp (history (surge m p) cs).held now text into (good m p sp cs) l e

pub held_runs_save : HeldRunsSave
unfolding open_of open_answer
held_runs_save m p sp state cs text e l =
    let g = good m p sp cs in
    eq-eqb _ _ (save_accepts m p _ _ text (g.bounds (opened_mesh _ m p (eqb-true _ _ e))) l)
