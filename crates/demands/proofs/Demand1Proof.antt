-- Demand 1 holds of each call.
use Prim.Native.Nat.{ℕ}
use mathlib.Core.Path.{refl, sym, subst}
use mathlib.Core.List.{List}
use borrow.Author.Tests.{eq-eqb, ne_eqb}
use lib.Ieee.{Float}
use Rattle.rows.proofs.ScanLaws.{then_stop, then_next}
use Rattle.quantities.specs.declared.Parameters.{Parameters}
use Rattle.surge.specs.declared.Clock.{Clock}
use Rattle.mesh.specs.Lent.{Mesh}
use Rattle.surge.specs.Open.{open_of}
use Rattle.surge.specs.Lent.{Run}
use Rattle.passes.specs.Equations.{next_state}
use Rattle.surge.specs.Step.{given_of, advance, refused_before, refused_by13, went_on, step_of}
use Rattle.passes.specs.Settle.{Rooms}
use Rattle.saves.specs.Save.{save_of}
use Rattle.loads.specs.Load.{load_of}
use Rattle.forcings.specs.Forcings.{taken_of}
use Rattle.demands.specs.Demand1.{Accepts, Refuses, OpenSays, StepSays, StepAllSays, SaveSays, LoadSays, ForcingSays, Demand1}
use Rattle.demands.proofs.StepAllProof.{step_all_says}
use Rattle.surge.proofs.NumberLaws.{not_13, only_13}
use Rattle.surge.proofs.StepLaws.{early, late, step_cases}
use Rattle.loads.proofs.LoadLaws.{load_cases}

open_says : (m : Mesh) (p : Parameters) (state : List Float) → OpenSays m p state (open_of m p state)
unfolding open_of
open_says m p state = record {
  answer = refl;
  clock = refl;
  accepted = λ h. rw (eq-eqb _ _ h);
  refused = λ h. rw (ne_eqb _ _ h);
}

-- ---- step
module _ (m : Mesh) (p : Parameters) (s : Run) (f : List Float) (r : Rooms) where
  refused_before_lem : Refuses (early m p s f r) → StepSays m p s f r (refused_before m p s f r (early m p s f r))
  refused_before_lem h = record {
    answer = sym (then_stop (early m p s f r) (late m p s f r) h);
    next_state = λ e. absurd (h e);
    next_clock = λ e. absurd (h e);
    same_next = λ _. refl;
    same_clock = λ _. refl;
    untouched = λ _ _. (refl, refl);
    zero_after_13 = λ e. absurd (not_13 m p s f r e);
    zero_accepted = λ e. absurd (h e);
  }

  refused_13 : Accepts (early m p s f r) → Refuses (late m p s f r) → StepSays m p s f r (refused_by13 m p s f r (late m p s f r))
  refused_13 h k = record {
    answer = sym (then_next (early m p s f r) (late m p s f r) h);
    next_state = λ e. absurd (k e);
    next_clock = λ e. absurd (k e);
    same_next = λ _. refl;
    same_clock = λ _. refl;
    untouched = λ _ n. absurd (n (only_13 (given_of m p s f) k));
    zero_after_13 = λ _. (refl, refl);
    zero_accepted = λ e. absurd (k e);
  }

  went_on_lem : Accepts (early m p s f r) → Accepts (late m p s f r) → StepSays m p s f r (went_on m p s f r (late m p s f r))
  unfolding advance next_state
  went_on_lem h k = record {
    answer = sym (then_next (early m p s f r) (late m p s f r) h);
    next_state = λ _. refl;
    next_clock = λ _. refl;
    same_next = λ e. absurd (e k);
    same_clock = λ e. absurd (e k);
    untouched = λ e _. absurd (e k);
    zero_after_13 = λ _. (refl, refl);
    zero_accepted = λ _. (refl, refl);
  }

  step_says : StepSays m p s f r (step_of m p s f r)
  step_says = step_cases m p s f r (StepSays m p s f r) went_on_lem refused_13 refused_before_lem

save_says : (m : Mesh) (p : Parameters) (state : List Float) (k : Clock) (t : List ℕ) → SaveSays m p state k t (save_of m p state k t)
unfolding save_of
save_says m p state k t = record { refused = λ h. rw (ne_eqb _ _ h) (refl, refl); accepted = λ h. rw (eq-eqb _ _ h) (refl, refl) }

load_says : (m : Mesh) (p : Parameters) (t : List ℕ) (state : List Float) (k : Clock) → LoadSays m p t state k (load_of m p t state k)
load_says m p t state k =
    load_cases m p t state k (LoadSays m p t state k)
    (λ h. record { answer = refl; accepted = λ _. (refl, refl); refused = λ n. absurd (n h) })
    (λ h. record { answer = refl; accepted = λ e. absurd (h e); refused = λ _. (refl, refl) })

forcing_says : (room : List Float) (t : List ℕ) (expected : ℕ) → ForcingSays room t expected (taken_of room t expected)
unfolding taken_of
forcing_says room t expected = record { answer = refl; accepted = λ h. rw (eq-eqb _ _ h); refused = λ h. rw (ne_eqb _ _ h) }

-- ---- and of every outcome that meets the contract, since it is the one of the definition (Demand2)
pub demand1 : Demand1
demand1 = record {
  surge_open = λ κs a g x v met. subst (OpenSays _ _ _) (sym met) (open_says _ _ _);
  surge_step = λ κs a g x v met. subst (StepSays _ _ _ _ _) (sym met) (step_says _ _ _ _ _);
  surge_step_all = λ κs a g x v met. subst (StepAllSays _ _ _ _ _) (sym met) (step_all_says _ _ _ _ _);
  saves_save = λ κs a g x v met. subst (SaveSays _ _ _ _ _) (sym met) (save_says _ _ _ _ _);
  loads_load = λ κs a g x v met k. subst (LoadSays _ _ _ _ _) (sym (met k)) (load_says _ _ _ _ _);
  forcings_read_forcing = λ κs a g x v met. subst (ForcingSays _ _ _) (sym met) (forcing_says _ _ _);
  capi_surge_open = λ κs a g x v met. subst (OpenSays _ _ _) (sym met) (open_says _ _ _);
  capi_surge_step = λ κs a g x v met. subst (StepSays _ _ _ _ _) (sym met) (step_says _ _ _ _ _);
  capi_surge_step_all = λ κs a g x v met. subst (StepAllSays _ _ _ _ _) (sym met) (step_all_says _ _ _ _ _);
  capi_surge_save = λ κs a g x v met. subst (SaveSays _ _ _ _ _) (sym met) (save_says _ _ _ _ _);
  capi_surge_load = λ κs a g x v met. subst (LoadSays _ _ _ _ _) (sym met) (load_says _ _ _ _ _);
  capi_surge_read_forcing = λ κs a g x v met. subst (ForcingSays _ _ _) (sym met) (forcing_says _ _ _);
}
