-- Laws of `answered`: what a row answers as a `Result`, beside the number, place and value that the definitions speak of.
use Prim.Native.Nat.{◌<◌}
use mathlib.Core.Path.{◌≡◌, refl, sym, ap, ◌∙◌}
use mathlib.Core.Bool.{Bool, true, false}
use borrow.Author.Tests.{eqb-true, ne_eqb, lt-ltb}
use lib.Dec.{eqb}
use Rattle.std.specs.Prelude.{Result, Ok, Err, is_ok, cond}
use Rattle.std.specs.Result.{IsErrAnd}
use Rattle.std.proofs.lemmas.Result.{err_from_is_err_and}
use Rattle.rows.specs.declared.Refusal.{Refusal}
use Rattle.rows.specs.declared.Answer.{Answer}
use Rattle.rows.specs.Scan.{accepted, ◌then◌}
use Rattle.rows.specs.Refusals.{number_of, answered_by, answered}
use Rattle.rows.specs.Says.{SaysOf, itself}
use Rattle.rows.specs.SaysLaws.{number_positive, refusals_say, itself_same, itself_back}
use Rattle.rows.proofs.ScanLaws.{then_stop, then_next}

-- what a function that asks returns
abbrev pub Asked : Type 0
Asked = Result (Unit {0}) Refusal

-- ---- a result that is asked of by `?`, whatever says a refusal
module _ {E : Type 0} {made : Refusal → E → Type 0} {says : E → Answer} (law : SaysOf made says) where
  -- what `?` hands back is the error
  pub stands_by : (q : Result (Unit {0}) E) (e : E) {b : Answer} → IsErrAnd q (λ y. y ≡ e) → says e ≡ b → answered_by says q ≡ b
  stands_by q e h it = let p = err_from_is_err_and q h in ap (answered_by says) (p.1 ∙ ap Err p.2) ∙ it

  pub refuses_by : (e : E) {b : Answer} → says e ≡ b → b.number ≡ 0 → ⊥
  refuses_by e it z = law.refuses e (ap (λ (x : Answer). x.number) it ∙ z)

  -- it stands before what follows
  pub stopped_by : (q : Result (Unit {0}) E) (e : E) {b : Answer} (rest : Answer) → IsErrAnd q (λ y. y ≡ e) → says e ≡ b → answered_by says q ≡ (b then rest)
  stopped_by q e {b} rest h it = stands_by q e h it ∙ sym (then_stop b rest (refuses_by e it))

  -- and so does one that is made of a refusal
  pub made_by : (q : Result (Unit {0}) E) (x : Refusal) {b : Answer} → IsErrAnd q (made x) → answered (Err x) ≡ b → answered_by says q ≡ b
  made_by q x h it = let p = err_from_is_err_and q h in ap (answered_by says) p.1 ∙ law.refusal x p.0 p.2 ∙ it

  pub turned_by : (q : Result (Unit {0}) E) (x : Refusal) {b : Answer} (rest : Answer) → IsErrAnd q (made x) → answered (Err x) ≡ b → answered_by says q ≡ (b then rest)
  turned_by q x {b} rest h it = made_by q x h it ∙ sym (then_stop b rest (λ z. number_positive x.row (ap (λ (y : Answer). y.number) it ∙ z)))

  -- at most one result says an answer
  pub answered_one : (a b : Result (Unit {0}) E) → answered_by says a ≡ answered_by says b → a ≡ b
  answered_one (Ok _) (Ok _) e = refl
  answered_one (Ok _) (Err b) e = absurd (law.refuses b (sym (ap (λ (x : Answer). x.number) e)))
  answered_one (Err a) (Ok _) e = absurd (law.refuses a (ap (λ (x : Answer). x.number) e))
  answered_one (Err a) (Err b) e = ap Err (law.one a b e)

-- of the table's refusals themselves
pub stands : (q : Asked) (x : Refusal) {b : Answer} → IsErrAnd q (λ y. y ≡ x) → answered (Err x) ≡ b → answered q ≡ b
stands = stands_by refusals_say

pub refuses : (x : Refusal) {b : Answer} → answered (Err x) ≡ b → b.number ≡ 0 → ⊥
refuses = refuses_by refusals_say

pub stopped : (q : Asked) (x : Refusal) {b : Answer} (rest : Answer) → IsErrAnd q (λ y. y ≡ x) → answered (Err x) ≡ b → answered q ≡ (b then rest)
stopped = stopped_by refusals_say

pub answered_same : (a b : Asked) → answered a ≡ answered b → a ≡ b
answered_same = answered_one refusals_say

-- and one that accepts hands on to what follows
pub went : {a b rest : Answer} → accepted ≡ b → a ≡ rest → a ≡ (b then rest)
went {a} {b} e h = h ∙ sym (then_next b _ (ap (λ (y : Answer). y.number) (sym e)))

pub accepts : {b : Answer} → accepted ≡ b → b.number ≡ 0
accepts e = ap (λ (y : Answer). y.number) (sym e)

-- ---- a call whose refusals are answers, asked an answer before
pub asked_before : (a rest : Answer) → a.number < 4294967296 → (answered_by itself (cond (eqb a.number 0) (Ok tt) (Err a)) then rest) ≡ (a then rest)
asked_before a rest l = go (eqb a.number 0) refl
  where
    go : (z : Bool) → eqb a.number 0 ≡ z → (answered_by itself (cond z (Ok tt) (Err a)) then rest) ≡ (a then rest)
    go true z = then_next accepted rest refl ∙ sym (then_next a rest (eqb-true a.number 0 z))
    go false z = ap (λ (x : Answer). x then rest) (itself_same a z (lt-ltb a.number 4294967296 l))

pub at_answers : (asked : Result (Unit {0}) Answer) (b : Answer) → b.number < 4294967296 → answered_by itself asked ≡ b → answered_by (λ a. a) asked ≡ b
at_answers (Ok _) b l e = e
at_answers (Err a) b l e = itself_back a b l e

-- ---- the library's word for a result
pub answered_ok : (r : Asked) → is_ok r ≡ eqb (answered r).number 0
answered_ok (Ok _) = refl
answered_ok (Err x) = sym (ne_eqb (number_of x.row) 0 (number_positive x.row))
