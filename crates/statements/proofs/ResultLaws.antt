-- A result and what is read of it, a record with an answer: at most one result has what is read.
use Prim.Native.Nat.{ℕ}
use mathlib.Core.Path.{◌≡◌, refl, sym, ap, ◌∙◌}
use mathlib.Core.Bool.{true, false}
use Rattle.std.specs.Prelude.{Option, Some, None, Result, Ok, Err}
use Rattle.rows.specs.declared.Answer.{Answer}
use Rattle.rows.specs.declared.Refusal.{Refusal}
use Rattle.rows.specs.Says.{SaysOf}
use Rattle.rows.specs.SaysLaws.{refusals_say}
use Rattle.rows.proofs.RefusalLaws.{refuses_by}
use Rattle.location.specs.declared.Sightings.{Sightings}
use Rattle.location.specs.Survey.{unseen, sightings_by}
use Rattle.looking.specs.declared.Sight as code
use Rattle.looking.specs.Lent.{Lent}
use Rattle.looking.specs.Looking.{Sight, found_in}
use Rattle.keeping.specs.Keeping.{Given, given_by}
use Rattle.surge.specs.declared.Clock.{Clock}
use Rattle.surge.specs.Lent.{Reply, replied}
use Rattle.saves.specs.Save.{saved}
use Rattle.forcelog.specs.declared.Log.{Log}
use Rattle.forcelog.specs.Log.{Took, took}

-- the answer in what is read is accepted where something is given, and else the refusal; and at most one thing given has what is read
module _ {E T X : Type 0} {made : Refusal → E → Type 0} {says : E → Answer} (law : SaysOf made says) (read : Result T E → X) (answer_in : X → Answer)
    (given : (t : T) → (answer_in (read (Ok t))).number ≡ 0) (refused : (r : E) → answer_in (read (Err r)) ≡ says r) (one : (s t : T) → read (Ok s) ≡ read (Ok t) → s ≡ t) where
  -- what is given is no refusal
  apart : (t : T) (r : E) → read (Ok t) ≡ read (Err r) → ⊥
  apart t r e = refuses_by law r (sym (refused r) ∙ sym (ap answer_in e)) (given t)

  pub result_same : (a b : Result T E) → read a ≡ read b → a ≡ b
  result_same (Ok s) (Ok t) e = ap Ok (one s t e)
  result_same (Ok s) (Err r) e = absurd (apart s r e)
  result_same (Err r) (Ok t) e = absurd (apart t r (sym e))
  result_same (Err r) (Err q) e = ap Err (law.one r q (sym (refused r) ∙ ap answer_in e ∙ refused q))

-- ---- what the calls hand back
true_is_not_false : true ≡ false → ⊥
true_is_not_false e = cc

pub survey_same : {E : Type 0} {made : Refusal → E → Type 0} {says : E → Answer} → SaysOf made says → (a b : Result Sightings E) → sightings_by says a ≡ sightings_by says b → a ≡ b
unfolding unseen
survey_same {says = says} law = result_same law (sightings_by says) (λ o. o.answer) (λ s. refl) (λ r. refl) (λ s t e i. record { triangle = (e i).triangle; level = (e i).level })

sight_same : (b : Lent) (s t : Option code.Sight) → found_in b (Ok s) ≡ found_in b (Ok t) → s ≡ t
sight_same b (Some s) (Some t) e = λ i. Some (record { triangle = (e i).triangle; level = (e i).level })
sight_same b (Some s) None e = absurd (true_is_not_false (ap (λ (o : Sight). o.inside) e))
sight_same b None (Some t) e = absurd (true_is_not_false (sym (ap (λ (o : Sight). o.inside) e)))
sight_same b None None e = refl

found_accepted : (b : Lent) (s : Option code.Sight) → (found_in b (Ok s)).answer.number ≡ 0
found_accepted b (Some s) = refl
found_accepted b None = refl

pub found_same : (b : Lent) (x y : Result (Option code.Sight) Refusal) → found_in b x ≡ found_in b y → x ≡ y
found_same b = result_same refusals_say (found_in b) (λ o. o.answer) (found_accepted b) (λ r. refl) (sight_same b)

pub given_same : {E : Type 0} {made : Refusal → E → Type 0} {says : E → Answer} → SaysOf made says → (a b : Result ℕ E) → given_by says a ≡ given_by says b → a ≡ b
given_same {says = says} law = result_same law (given_by says) (λ o. o.answer) (λ g. refl) (λ r. refl) (λ g h e. ap (λ (o : Given). o.gauge) e)

pub replied_same : (k : Clock) (a b : Result Clock Refusal) → replied k a ≡ replied k b → a ≡ b
replied_same k = result_same refusals_say (replied k) (λ o. o.answer) (λ s. refl) (λ r. refl) (λ s t e. ap (λ (o : Reply). o.clock) e)

pub saved_same : (a b : Result ℕ Refusal) → saved a ≡ saved b → a ≡ b
saved_same = result_same refusals_say saved (λ a. a) (λ s. refl) (λ r. refl) (λ s t e. ap (λ (a : Answer). a.place) e)

pub took_same : (log : Log) (a b : Result Log Refusal) → took log a ≡ took log b → a ≡ b
took_same log = result_same refusals_say (took log) (λ o. o.answer) (λ s. refl) (λ r. refl) (λ s t e. ap (λ (o : Took). o.log) e)
