-- With answers in and out the call promises what it promises of results: what is passed on of an answer says that answer, or accepts as it does.
use Prim.Native.Nat.{ℕ, zero, suc, ◌+◌, ◌<◌}
use mathlib.Core.Path.{◌≡◌, refl, sym, ap, ◌∙◌}
use mathlib.Core.Bool.{Bool, true, false}
use mathlib.Core.List.{List}
use native.Mathlib.Omega.{arith}
use borrow.Author.Tests.{eqb-true, eqb-false, eq-eqb, ne_eqb, lt-ltb}
use lib.Dec.{eqb}
use lib.Ieee.{Float}
use Rattle.std.specs.Prelude.{Ok, Err, cond}
use Rattle.rows.specs.declared.Answer.{Answer}
use Rattle.rows.specs.Scan.{accepted, ◌then◌, scan}
use Rattle.rows.specs.Refusals.{answered_by}
use Rattle.rows.specs.Says.{itself}
use Rattle.rows.specs.SaysLaws.{answers_say, itself_same, itself_back}
use Rattle.rows.proofs.ScanLaws.{then_first, then_rest, then_next, then_same, then_below, row_below, same_number}
use Rattle.rows.proofs.RefusalLaws.{asked_before}
use Rattle.keeping.specs.Record.{count_in, all_noted, row43}
use Rattle.keeping.specs.Keeping.{if_accepted, UpdateOut, update_out, update_of}
use Rattle.keeping.proofs.RecordLaws.{update_refused, update_accepted}
use Rattle.keeping.proofs.tests.update_answer.Goals as goal
use Rattle.keeping.proofs.tests.update_answer.Goals.{After-asked-behind}

-- ---- row 43 has a number that an answer has
scan_below : (n : ℕ) (f : ℕ → Answer) → 0 < n → ((i : ℕ) → (f i).number < n) → (m : ℕ) → (scan f m).number < n
unfolding scan
scan_below n f k h zero = k
scan_below n f k h (suc m) = then_below n _ _ (h 0) (scan_below n (λ i. f (suc i)) k (λ i. h (suc i)) m)

row43_below : (b : List ℕ) → (row43 b).number < 4294967296
unfolding row43
row43_below b =
    then_below _ _ _ (row_below _ _ 43 0 (omega arith) (omega arith)) (scan_below _ _ (omega arith) (λ g. row_below _ _ 43 g (omega arith) (omega arith)) 64)

-- what is passed on of an answer
abbrev handed : Answer → Answer
handed a = answered_by itself (cond (eqb a.number 0) (Ok tt) (Err a))

handed_zero : (a : Answer) → a.number ≡ 0 → handed a ≡ accepted
handed_zero a h = ap (λ (z : Bool). answered_by itself (cond z (Ok tt) (Err a))) (eq-eqb _ _ h)

handed_other : (a : Answer) → a.number < 4294967296 → (a.number ≡ 0 → ⊥) → handed a ≡ a
handed_other a l h = ap (λ (z : Bool). answered_by itself (cond z (Ok tt) (Err a))) (ne_eqb _ _ h) ∙ itself_same a (ne_eqb _ _ h) (lt-ltb _ _ l)

module _ (asked also : Answer) (l : asked.number < 4294967296) (k : also.number < 4294967296) (level : ℕ → Float) (step : ℕ) (b : List ℕ) where
  -- what the call answers to what is passed on, and what the definition says of the answers themselves
  abbrev passed : Answer
  passed = handed asked then row43 b then handed also

  abbrev whole : Answer
  whole = asked then row43 b then also

  abbrev noted : List ℕ
  noted = all_noted level step (count_in b) b

  before : passed ≡ (asked then row43 b then handed also)
  before = asked_before asked (row43 b then handed also) l

  -- it accepts: so do all three, and the answer is the last of them
  module _ (z : passed.number ≡ 0) where
    behind : (row43 b then handed also).number ≡ 0
    behind = then_rest _ _ (same_number before z)

    also_accepts : also.number ≡ 0
    also_accepts = go (eqb also.number 0) refl
      where
        go : (t : Bool) → eqb also.number 0 ≡ t → also.number ≡ 0
        go true e = eqb-true _ _ e
        go false e = same_number (handed_other also k (eqb-false _ _ e)) (then_rest _ _ behind)

    last : also ≡ whole
    last = sym (then_next _ _ (then_first _ _ (same_number before z)) ∙ then_next _ _ (then_first _ _ behind))

  -- it refuses: the answers do, with the same
  other : (passed.number ≡ 0 → ⊥) → passed ≡ whole
  other n = before ∙ go (eqb also.number 0) refl
    where
      go : (t : Bool) → eqb also.number 0 ≡ t → (asked then row43 b then handed also) ≡ whole
      go false e = ap (λ (a : Answer). asked then row43 b then a) (handed_other also k (eqb-false _ _ e))
      go true e =
          then_same asked _ _
          (λ a. then_same (row43 b) _ _ (λ r. absurd (n (same_number (sym (before ∙ then_next _ _ a ∙ then_next _ _ r ∙ handed_zero also (eqb-true _ _ e))) refl))))

  below : whole.number < 4294967296
  below = then_below _ _ _ l (then_below _ _ _ (row43_below b) k)

  update_ok : {new : List ℕ} → update_out accepted new ≡ update_of (handed asked) (handed also) level step b → update_out also new ≡ update_of asked also level step b
  unfolding update_of
  update_ok e =
      let z = ap (λ (o : UpdateOut). o.answer.number) (sym e) in
      update_accepted asked also level step b (last z) (also_accepts z) refl (ap (λ (o : UpdateOut). o.left) e ∙ ap (λ (t : Bool). cond t noted b) (eq-eqb _ _ z))

  update_err : {new : List ℕ} (a : Answer) → update_out (itself a) new ≡ update_of (handed asked) (handed also) level step b
      → update_out a new ≡ update_of asked also level step b
  unfolding update_of
  update_err a e =
      let it = ap (λ (o : UpdateOut). o.answer) e in
      let n : (passed.number ≡ 0 → ⊥) = λ z. answers_say.refuses a (ap (λ (x : Answer). x.number) it ∙ z) in
      let same = itself_back a whole below (it ∙ other n) in
      ap (update_out a) (ap (λ (o : UpdateOut). o.left) e ∙ ap (λ (t : Bool). cond t noted b) (ne_eqb _ _ n))
      ∙ update_refused asked also level step b same (λ z. n (same_number (sym (other n)) (same_number same z)))

-- what is passed on is what is handed
led : (c : After-asked-behind) → let a = c.args in (level : ℕ → Float)
    → update_of (answered_by itself c.asked-before.result) (answered_by itself c.asked-behind.result) level a.step a.kept.now ≡ update_of (handed a.asked) (handed a.also) level a.step a.kept.now
led c level =
    λ i. update_of (answered_by itself (c.asked-before.ensures i)) (answered_by itself (c.asked-behind.ensures i)) level c.args.step c.args.kept.now

pub returns-in-Ok : goal.returns-in-Ok
returns-in-Ok c =
    let a = c.args in
    update_ok a.asked a.also c.fits.ensures c.fits-2.ensures _ a.step a.kept.now (c.in-Ok.ensures ∙ led (goal.at.returns-in-Ok c).After-asked-behind _)

pub returns-in-Err : goal.returns-in-Err
returns-in-Err c =
    let a = c.args in
    update_err a.asked a.also c.fits.ensures c.fits-2.ensures _ a.step a.kept.now c.in-Err.answer (c.in-Err.ensures ∙ led (goal.at.returns-in-Err c).After-asked-behind _)
