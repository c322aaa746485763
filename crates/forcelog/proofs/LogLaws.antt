-- The outcomes of taking a forcing: not read, read and refused by the step, and stepped. And what a reading answers.
use Prim.Native.Nat.{ℕ, ◌<◌}
use mathlib.Core.Path.{◌≡◌, refl, sym, ap, ◌∙◌}
use mathlib.Core.Bool.{Bool, true, false, cond}
use mathlib.Core.List.{List}
use borrow.Author.Tests.{eqb-true, eqb-false, eq-eqb, ne_eqb}
use lib.Dec.{eqb}
use Rattle.rows.specs.declared.Answer.{Answer}
use Rattle.rows.proofs.ScanLaws.{row_passed, then_rest, both_right}
use Rattle.lists.specs.Table.{table, zeros}
use Rattle.frames.specs.Reading.{value}
use Rattle.frames.proofs.BackLaws.{value_small}
use Rattle.faults.specs.Faults.{row22, fault}
use Rattle.surge.specs.Step.{StepOut}
use Rattle.forcings.specs.Forcings.{is_room, of_kind10, rows10, rows14, Taken, taken_of}
use Rattle.forcings.proofs.ForcingLaws.{answer_10, answer_14}
use Rattle.forcelog.specs.declared.Log.{Log}
use Rattle.forcelog.specs.Log.{Took, stepped, lines_in, later, refused_at, gone, after_step, after_read, expected, reading, take_of}

-- ---- what a reading answers, by the text's kind
reading_room : is_room (zeros 7) ≡ true
unfolding table
reading_room = refl

pub reading_10 : (text : List ℕ) (log : Log) → of_kind10 text ≡ true → rows10 text (expected log) ≡ (reading text log).answer
unfolding taken_of
reading_10 text log kind = answer_10 (zeros 7) text (expected log) reading_room kind refl

pub reading_14 : (text : List ℕ) (log : Log) → of_kind10 text ≡ false → rows14 3 text ≡ (reading text log).answer
unfolding taken_of table
reading_14 text log kind = answer_14 (zeros 7) text (expected log) reading_room kind refl

-- "(line 65,536 gets 22 unless 20 or 21 comes first)": a line of kind 10 that is read has the sequence that is expected, and a sequence is two bytes
pub read_below : (text : List ℕ) (log : Log) → of_kind10 text ≡ true → (reading text log).answer.number ≡ 0 → expected log < 65536
unfolding fault row22
read_below text log kind h =
    let ten : (rows10 text (expected log)).number ≡ 0 = ap (λ (a : Answer). a.number) (reading_10 text log kind) ∙ h in
    let test = row_passed _ 21 0 (then_rest _ _ (then_rest _ _ ten)) in
    let same : value text 1 2 ≡ expected log = eqb-true _ _ (both_right (eqb (value text 0 1) 16) _ test) in
    rw same at (value_small text 1 2)

-- ---- by the answer of the step
module _ (lines : ℕ) (log : Log) (out s : StepOut) (e : out ≡ s) where
  same_step : after_step out lines log ≡ after_step s lines log
  same_step = ap (λ (x : StepOut). after_step x lines log) e

  pub step_refused : (out.reply.answer.number ≡ 0 → ⊥) → refused_at out.reply.answer log.lines log ≡ after_step s lines log
  step_refused h = rw (ne_eqb _ _ h) at same_step

  pub step_gone : out.reply.answer.number ≡ 0 → gone out lines log ≡ after_step s lines log
  step_gone h = rw (eq-eqb _ _ h) at same_step

-- ---- by the answer of the reading
-- a refused reading: P is its line, counted from the forcing's first
abbrev pub unread : Answer → Log → Took
unread a log = refused_at a (later log.lines a.place) log

module _ (text : List ℕ) (log : Log) (r : Taken) (e : r ≡ reading text log) where
  its : after_read r (lines_in text) log ≡ take_of text log
  unfolding take_of
  its = ap (λ (x : Taken). after_read x (lines_in text) log) e

  pub not_read : (r.answer.number ≡ 0 → ⊥) → unread r.answer log ≡ take_of text log
  not_read h = rw (ne_eqb _ _ h) at its

  pub was_read : r.answer.number ≡ 0 → after_step (stepped log r.room) (lines_in text) log ≡ take_of text log
  was_read h = rw (eq-eqb _ _ h) at its

-- ---- what a caller learns of a forcing that is taken
-- of a refusal y and what else there would be, x: an outcome that accepts is x, since y refuses
chosen : (x y : Took) → (cond (eqb y.answer.number 0) x y).answer.number ≡ 0 → (y.answer.number ≡ 0) × (cond (eqb y.answer.number 0) x y ≡ x)
chosen x y h = go (eqb y.answer.number 0) refl
  where
    go : (b : Bool) → eqb y.answer.number 0 ≡ b → (y.answer.number ≡ 0) × (cond (eqb y.answer.number 0) x y ≡ x)
    go true q = (eqb-true _ _ q, rw q)
    go false q = absurd (eqb-false _ _ q (rw q at h))

abbrev its_step : List ℕ → Log → StepOut
its_step text log = stepped log (reading text log).room

module _ (text : List ℕ) (log : Log) (h : (take_of text log).answer.number ≡ 0) where
  read : take_of text log ≡ after_step (its_step text log) (lines_in text) log
  unfolding take_of
  read = (chosen (after_step (its_step text log) (lines_in text) log) (unread (reading text log).answer log) h).1

  -- it is the step's, which accepted
  pub took_step : ((its_step text log).reply.answer.number ≡ 0) × (take_of text log ≡ gone (its_step text log) (lines_in text) log)
  took_step =
      let ok = ap (λ (t : Took). t.answer.number) (sym read) ∙ h in
      let s = chosen (gone (its_step text log) (lines_in text) log) (refused_at (its_step text log).reply.answer log.lines log) ok in
      (s.0, read ∙ s.1)
