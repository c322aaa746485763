-- The outcomes of a step: told by the answer, and made of what its passes leave and the clock.
use mathlib.Core.Path.{◌≡◌, refl, sym, ap, ◌∙◌}
use mathlib.Core.Bool.{Bool, true, false, not}
use borrow.Author.Tests.{eqb-true, eqb-false, not-true}
use mathlib.Core.List.{List}
use lib.Dec.{eqb}
use lib.Ieee.{Float}
use Rattle.rows.specs.declared.Answer.{Answer}
use Rattle.rows.proofs.ScanLaws.{row_passed}
use Rattle.quantities.specs.declared.Parameters.{Parameters}
use Rattle.limits.specs.Limits.{row11}
use Rattle.mesh.specs.Lent.{Mesh}
use Rattle.bounds.proofs.ForcingLaws.{accepted_forced}
use Rattle.passes.specs.Row13.{row13}
use Rattle.passes.specs.Settle.{Rooms, Settled, settles_to, settle_of}
use Rattle.surge.specs.declared.Clock.{Clock}
use Rattle.surge.specs.Lent.{Run, advanced}
use Rattle.surge.specs.Step.{StepOut, given_of, advance, step_rows, refused_before, refused_by13, went_on, steps_to, step_of}

-- what the passes left, with a clock
abbrev pub with_clock : Clock → Settled → StepOut
with_clock k o = record { reply = record { answer = o.answer; clock = k }; rooms = o.rooms }

module _ (m : Mesh) (p : Parameters) (s : Run) (f : List Float) (r : Rooms) where
  -- the answer of what is asked before anything is worked out, and row 13's
  abbrev pub early : Answer
  early = step_rows m p s f r

  abbrev pub late : Answer
  late = row13 (given_of m p s f)

  -- what holds of each of the three outcomes, where it comes, holds of a step's
  pub step_cases : (P : StepOut → Type 0) → (early.number ≡ 0 → late.number ≡ 0 → P (went_on m p s f r late))
      → (early.number ≡ 0 → (late.number ≡ 0 → ⊥) → P (refused_by13 m p s f r late))
      → ((early.number ≡ 0 → ⊥) → P (refused_before m p s f r early)) → P (step_of m p s f r)
  unfolding step_of steps_to
  step_cases P on by13 before = go (eqb early.number 0) refl (eqb late.number 0) refl
    where
      go : (a : Bool) → eqb early.number 0 ≡ a → (b : Bool) → eqb late.number 0 ≡ b → P (step_of m p s f r)
      go true e true q = rw (e, q) (on (eqb-true _ _ e) (eqb-true _ _ q))
      go true e false q = rw (e, q) (by13 (eqb-true _ _ e) (eqb-false _ _ q))
      go false e b q = rw e (before (eqb-false _ _ e))

  -- ---- told by the answer that it gives
  -- number 0: both accepted, and the equations' state and clock came back
  pub record WentOn : Type 0 where
    pub first : early.number ≡ 0
    pub last : late.number ≡ 0
    pub out : step_of m p s f r ≡ went_on m p s f r late

  pub went_on_lem : eqb (step_of m p s f r).reply.answer.number 0 ≡ true → WentOn
  went_on_lem =
      step_cases (λ (o : StepOut). step_of m p s f r ≡ o → eqb o.reply.answer.number 0 ≡ true → WentOn)
      (λ h k q _. record { first = h; last = k; out = q })
      (λ _ k _ e. absurd (k (eqb-true _ _ e)))
      (λ h _ e. absurd (h (eqb-true _ _ e)))
      refl

  -- any other number: the clock came back as it was
  pub stayed : eqb (step_of m p s f r).reply.answer.number 0 ≡ false → (step_of m p s f r).reply.clock ≡ s.clock
  stayed =
      step_cases (λ (o : StepOut). eqb o.reply.answer.number 0 ≡ false → o.reply.clock ≡ s.clock)
      (λ _ k e. absurd (eqb-false _ _ e k))
      (λ _ _ _. refl)
      (λ _ _. refl)

  -- ---- made of what the passes leave
  abbrev its : Settled
  its = settle_of m p s.state f (row11 s.clock.step) r

  pub record Made : Type 0 where
    pub refused : (its.answer.number ≡ 0 → ⊥) → with_clock s.clock its ≡ step_of m p s f r
    pub accepted : its.answer.number ≡ 0 → (early.number ≡ 0) × (with_clock (advanced s.clock) its ≡ step_of m p s f r)

  pub made : Made
  unfolding settle_of settles_to step_of steps_to step_rows advance
  made = go (eqb early.number 0) (eqb late.number 0) refl refl
    where
      go : (a b : Bool) → eqb early.number 0 ≡ a → eqb late.number 0 ≡ b → Made
      go false b e q = record { refused = λ _. rw e; accepted = λ h. absurd (eqb-false _ _ e (rw e at h)) }
      go true false e q = record { refused = λ _. rw (e, q); accepted = λ h. absurd (eqb-false _ _ q (rw e at h)) }
      go true true e q = record { refused = λ h. absurd (h (rw e (eqb-true _ _ q))); accepted = λ _. (eqb-true _ _ e, rw (e, q)) }

  -- ---- row 11: where the rows accept, the clock can count on
  pub not_last : early.number ≡ 0 → s.clock.step ≡ 4294967295 → ⊥
  unfolding step_rows row11
  not_last ok =
      let counts : not (eqb s.clock.step 4294967295) ≡ true = row_passed _ 10 0 (accepted_forced _ _ _ _ _ _ ok).counts in
      eqb-false s.clock.step 4294967295 (not-true (eqb s.clock.step 4294967295) counts)

  -- ---- by what a call of the passes left, asked with row 11
  module _ {also : Answer} {o : Settled} (counts : also ≡ row11 s.clock.step) (settled : o ≡ settle_of m p s.state f also r) where
    left : o ≡ its
    left = settled ∙ ap (λ (a : Answer). settle_of m p s.state f a r) counts

    pub step_refused : (o.answer.number ≡ 0 → ⊥) → with_clock s.clock o ≡ step_of m p s f r
    step_refused h = ap (with_clock s.clock) left ∙ made.refused (λ z. h (ap (λ (q : Settled). q.answer.number) left ∙ z))

    module _ (ok : o.answer.number ≡ 0) where
      accepts_it : (early.number ≡ 0) × (with_clock (advanced s.clock) its ≡ step_of m p s f r)
      accepts_it = made.accepted (sym (ap (λ (q : Settled). q.answer.number) left) ∙ ok)

      pub step_counts : s.clock.step ≡ 4294967295 → ⊥
      step_counts = not_last accepts_it.0

      pub step_accepted : {k : Clock} → k ≡ advanced s.clock → with_clock k o ≡ step_of m p s f r
      step_accepted e = (λ i. with_clock (e i) (left i)) ∙ accepts_it.1
