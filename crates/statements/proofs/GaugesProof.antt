-- The demands hold of the gauges' calls.
use Prim.Native.Nat.{ℕ}
use mathlib.Core.Path.{refl, sym, subst}
use mathlib.Core.List.{List}
use borrow.Author.Tests.{eq-eqb, ne_eqb}
use Rattle.location.specs.declared.seeking.Point.{Point}
use Rattle.keeping.specs.Keeping as Keeping
use Rattle.looking.specs.Lent.{Lent}
use Rattle.gauges.specs.Calls.{locate_of, add_of, elevation_of, update_of, peak_of}
use Rattle.statements.specs.Gauges.{LocateSays, AddSays, MeasureSays, UpdateSays, PeakSays, GaugeDemands}

locate_says : (b : Lent) (q : Point) → LocateSays b q (locate_of b q)
unfolding locate_of
locate_says b q = record { answer = refl; accepted = λ h. rw (eq-eqb _ _ h); refused = λ h. rw (ne_eqb _ _ h) }

add_says : (b : Lent) (r : List ℕ) (q : Point) → AddSays b r q (add_of b r q)
unfolding add_of Keeping.add_of
add_says b r q =
    record { answer = refl; accepted = λ h. (rw (eq-eqb _ _ h), rw (eq-eqb _ _ h)); refused = λ h. (rw (ne_eqb _ _ h), rw (ne_eqb _ _ h)) }

measure_says : (b : Lent) (r : List ℕ) (g : ℕ) → MeasureSays b r g (elevation_of b r g)
unfolding elevation_of
measure_says b r g = record { answer = refl; accepted = λ h. rw (eq-eqb _ _ h); refused = λ h. rw (ne_eqb _ _ h) }

update_says : (b : Lent) (r : List ℕ) (step : ℕ) → UpdateSays b r step (update_of b r step)
unfolding update_of Keeping.update_of
update_says b r step = record { answer = refl; accepted = λ h. rw (eq-eqb _ _ h); refused = λ h. rw (ne_eqb _ _ h) }

peak_says : (r : List ℕ) (g : ℕ) → PeakSays r g (peak_of r g)
unfolding peak_of
peak_says r g = record { answer = refl; accepted = λ h. rw (eq-eqb _ _ h); refused = λ h. rw (ne_eqb _ _ h) }

pub gauge_demands : GaugeDemands
gauge_demands = record {
  gauges_gauge_locate = λ κs a g x v met. subst (LocateSays _ _) (sym met) (locate_says _ _);
  gauges_gauge_add = λ κs a g x v met. subst (AddSays _ _ _) (sym met) (add_says _ _ _);
  gauges_gauge_elevation = λ κs a g x v met. subst (MeasureSays _ _ _) (sym met) (measure_says _ _ _);
  gauges_gauge_update = λ κs a g x v met. subst (UpdateSays _ _ _) (sym met) (update_says _ _ _);
  gauges_gauge_peak = λ κs a g x v met. subst (PeakSays _ _) (sym met) (peak_says _ _);
  gauges_gauge_locate_is = λ κs a g x v met. met;
  gauges_gauge_add_is = λ κs a g x v met. met;
  gauges_gauge_elevation_is = λ κs a g x v met. met;
  gauges_gauge_update_is = λ κs a g x v met. met;
  gauges_gauge_peak_is = λ κs a g x v met. met;
}
