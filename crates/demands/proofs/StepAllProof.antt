-- Demand 1 of a list of forcings, by the outcomes that its laws tell apart.
use Prim.Native.Nat.{ℕ, ◌*◌, ◌<◌}
use mathlib.Core.Path.{◌≡◌, refl, sym, ap, subst, ◌∙◌}
use mathlib.Core.Bool.{Bool, true, false, cond}
use mathlib.Core.List.{List, [], ◌++◌}
use native.Mathlib.Nat.{not-suc-le-zero}
use native.Mathlib.Omega.{arith}
use borrow.Author.Tests.{eqb-true, eqb-false, eq-eqb, ne_eqb}
use lib.Dec.{eqb}
use lib.ListN.{length, get_or, drop, take-append-drop}
use lib.Ieee.{Float}
use Rattle.rows.specs.Scan.{accepted}
use Rattle.rows.specs.Numbers.{plus0}
use Rattle.rows.proofs.ScanLaws.{then_rest}
use Rattle.lists.specs.Table.{zeros}
use Rattle.lists.proofs.TableLaws.{table_join}
use Rattle.quantities.specs.declared.Parameters.{Parameters}
use Rattle.mesh.specs.Lent.{Mesh, N}
use Rattle.bounds.specs.State.{run_rows}
use Rattle.bounds.specs.Forcing.{forcing_at, forcings_of}
use Rattle.bounds.proofs.ListLaws.{none_listed, forcing_listed}
use Rattle.passes.specs.Settle.{Rooms, work_runs}
use Rattle.passes.specs.InTurn.{Turns, added_runs, without_added}
use Rattle.surge.specs.Lent.{Run}
use Rattle.surge.specs.StepAll.{step_all_of, list_answer, later_answer}
use Rattle.surge.proofs.NumberLaws.{run_plain}
use Rattle.surge.proofs.StepAllLaws.{Passed, leaves, some_of, copies, step_all_cases}
use Rattle.demands.specs.Demand1.{Accepts, Refuses, run_after, StepAllSays}

module _ (m : Mesh) (p : Parameters) (s : Run) (l : List Float) (r : Rooms) where
  refused_rows : Refuses (list_answer m p s l r) → StepAllSays m p s l r (leaves m p s l r (list_answer m p s l r) r)
  refused_rows bad = record {
    before = λ _. refl;
    before_found = λ _. (refl, refl, refl);
    empty = λ e. absurd (bad e);
    empty_next = λ e. absurd (bad e);
    empty_work = λ e. absurd (bad e);
    count = omega arith;
    each_accepted = λ k b. absurd (not-suc-le-zero b);
    clock = omega arith;
    next_state = λ z. absurd (z refl);
    all_accepted = λ e. absurd (bad e);
    stopped = λ e. absurd (bad e);
    first_next = λ e. absurd (bad e);
    first_untouched = λ e. absurd (bad e);
    first_after_13 = λ e. absurd (bad e);
    zero_accepted = λ z. absurd (z refl);
  }

  took_none : Accepts (list_answer m p s l r) → length l ≡ 0 → StepAllSays m p s l r (leaves m p s l r (run_rows accepted m p s.state) (copies m p s l r))
  took_none ok none = record {
    before = λ bad. absurd (bad ok);
    before_found = λ bad. absurd (bad ok);
    empty = λ _ _. (run_plain m p s.state rows, refl, refl);
    empty_next = λ _ _. refl;
    empty_work = λ _ _. (refl, refl);
    count = omega arith;
    each_accepted = λ k b. absurd (not-suc-le-zero b);
    clock = omega arith;
    next_state = λ z. absurd (z refl);
    all_accepted = λ _. (run_plain m p s.state rows, sym (none_listed (N m) l none));
    stopped = λ _ bad. absurd (bad rows);
    first_next = λ _ bad. absurd (bad rows);
    first_untouched = λ _ bad. absurd (bad rows);
    first_after_13 = λ _ _ e. absurd (omega (arith, rows, e));
    zero_accepted = λ z. absurd (z refl);
  }
    where
      rows : (run_rows accepted m p s.state).number ≡ 0
      rows = then_rest _ _ ok

  took_some : Accepts (list_answer m p s l r) → (length l ≡ 0 → ⊥) → (o : Turns)
      → Passed m p s (without_added (N m) r) (forcings_of (N m) l) o → StepAllSays m p s l r (some_of m p s l r o)
  took_some ok some o h = record {
    before = λ bad. absurd (bad ok);
    before_found = λ bad. absurd (bad ok);
    empty = λ _ z. absurd (some z);
    empty_next = λ _ z. absurd (some z);
    empty_work = λ _ z. absurd (some z);
    count = h.turned.along.count;
    each_accepted = λ k b. subst (λ (f : List Float). (later_answer m p (run_after m p s l k) f).number ≡ 0) (listed k (omega (arith, b, h.turned.along.count))) (h.each k b);
    clock = h.turned.along.clock;
    next_state = λ z. sym (ap (λ (b : Bool). cond b s.state o.last.rooms.next) (ne_eqb _ _ z)) ∙ ap (λ (q : Run). q.state) h.turned.along.held;
    all_accepted = λ e. (h.plain e, h.turned.all e);
    stopped = λ _ bad.
        let below = h.turned.stopped bad in
        (below, h.answered bad ∙ (λ i. later_answer m p (h.turned.along.held i) (listed o.accepted below i)));
    first_next = λ _ bad z. first_next_is z (eqb o.last.answer.number 13) refl;
    first_untouched = λ _ _ z other. let same = h.untouched z other in (
      rw (eq-eqb _ _ z) (ap (λ (x : Rooms). x.work ++ drop (work_runs * N m) r.work) same ∙ take-append-drop (work_runs * N m) r.work),
      ap (λ (x : Rooms). x.sums) same,
    );
    first_after_13 = λ _ z e. let zeroed = h.first_13 z e in
        (rw (eq-eqb _ _ z) (ap (λ (x : Rooms). x.work ++ drop (work_runs * N m) r.work) zeroed), ap (λ (x : Rooms). x.sums) zeroed);
    zero_accepted = λ z. let zeroed = h.zeroed z in (
      rw (ne_eqb _ _ z) (
          ap (λ (x : Rooms). x.work ++ zeros (added_runs * N m)) zeroed
          ∙ table_join (work_runs * N m) (added_runs * N m) plus0
          ∙ ap zeros (omega arith)),
      ap (λ (x : Rooms). x.sums) zeroed,
    );
  }
    where
      listed : (k : ℕ) → k < length (forcings_of (N m) l) → get_or (forcings_of (N m) l) k [] ≡ forcing_at (N m) l k
      listed = forcing_listed (N m) l

      first_next_is : o.accepted ≡ 0 → (b : Bool) → eqb o.last.answer.number 13 ≡ b → o.last.rooms.next ≡ r.next
      first_next_is z true e = ap (λ (x : Rooms). x.next) (h.first_13 z (eqb-true _ _ e))
      first_next_is z false e = ap (λ (x : Rooms). x.next) (h.untouched z (eqb-false _ _ e))

  pub step_all_says : StepAllSays m p s l r (step_all_of m p s l r)
  step_all_says = step_all_cases m p s l r (StepAllSays m p s l r) refused_rows took_none took_some
