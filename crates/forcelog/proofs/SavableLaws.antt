-- The save at the end is never refused: a cold log can be saved, and so can each log that a forcing was taken into.
use Prim.Native.Nat.{ℕ, ◌+◌, ◌^◌, ◌≤◌}
use mathlib.Core.Path.{◌≡◌, refl, sym, ap, subst, ◌∙◌}
use mathlib.Core.Bool.{Bool, true, false, cond}
use mathlib.Core.List.{List, [], append-nil}
use native.Mathlib.Omega.{arith}
use borrow.Author.Tests.{eq-eqb, lt-ltb}
use lib.Dec.{lit≤, ltb}
use lib.ListN.{length, drop}
use lib.Seq.{drop-length}
use lib.Ieee.{Float}
use Rattle.std.specs.Prelude.{Result, Ok, Err, IsOk}
use Rattle.lists.specs.Table.{table}
use Rattle.rows.specs.declared.Refusal.{Refusal}
use Rattle.rows.specs.Scan.{row, ◌then◌}
use Rattle.rows.proofs.RefusalLaws.{refuses}
use Rattle.bounds.specs.State.{run_rows}
use Rattle.bounds.specs.Forcing.{row1_forcing}
use Rattle.mesh.specs.Lent.{N}
use Rattle.surge.specs.Lent.{run, After}
use Rattle.surge.specs.Open.{open_answer, open_of}
use Rattle.surge.specs.Step.{advance}
use Rattle.passes.specs.Settle.{row1_rooms}
use Rattle.surge.proofs.StepLaws.{went_on_lem, not_last}
use Rattle.surge.proofs.NextLaws.{next_rows}
use Rattle.surge.proofs.ColdLaws.{cold_rows, opened_mesh}
use Rattle.forcings.specs.Forcings.{of_kind10}
use Rattle.saves.specs.Save.{SaveOut, save_answer, saved, save_out, wrote, save_of}
use Rattle.saves.proofs.SaveLaws.{save_fine}
use Rattle.forcelog.specs.declared.Log.{Log}
use Rattle.forcelog.specs.MeshT.{T, T_parameters}
use Rattle.forcelog.specs.Log.{cold_log, Took, took, rooms, stepped, lines_in, later, reading, take_of, end_of}
use Rattle.forcelog.specs.Printed.{ending}
use Rattle.forcelog.specs.Private.{Savable}
use Rattle.forcelog.proofs.LogLaws.{took_step}
use Rattle.forcelog.proofs.MeshLaws.{T_opens}

pub cold_savable : Savable cold_log
unfolding cold_log open_of open_answer T
cold_savable = record {
  rows = cold_rows T T_parameters (opened_mesh _ T T_parameters (ap (λ (o : After). o.reply.answer.number) T_opens));
  steps = lit≤ tt;
  lines = lit≤ tt;
}

-- ---- the lines of a forcing, counted
lines_most : (text : List ℕ) → lines_in text ≤ 4
lines_most text = go (of_kind10 text)
  where
    go : (b : Bool) → cond b 1 4 ≤ 4
    go true = lit≤ tt
    go false = lit≤ tt

later_most : (lines k : ℕ) → later lines k ≤ lines + k
unfolding later
later_most lines k = go (ltb (lines + k) (2 ^ 64))
  where
    go : (b : Bool) → cond b (lines + k) lines ≤ lines + k
    go true = omega arith
    go false = omega arith

-- no log of the program reaches a count of lines that 64 bits do not hold: P is the line of the forcing that the reading names
pub later_exact : (log : Log) → Savable log → (k : ℕ) → k ≤ 4 → later log.lines k ≡ log.lines + k
unfolding later
later_exact log s k few = rw (lt-ltb (log.lines + k) (2 ^ 64) (omega (arith, s.steps, s.lines)))

-- ---- an accepted step leaves what row 10 passes, and one step more, and it was not the last
pub take_savable : (text : List ℕ) (log : Log) → Savable log → (take_of text log).answer.number ≡ 0
    → ((take_of text log).log.clock.step ≡ log.clock.step + 1) × Savable (take_of text log).log
unfolding stepped advance
take_savable text log k h =
    let s = run log.state log.clock in
    let f = (reading text log).room in
    let took = took_step text log h in
    let on = went_on_lem T T_parameters s f rooms (eq-eqb _ _ took.0) in
    let more = not_last T T_parameters s f rooms on.first in
    rw (took.1, on.out) (
      refl,
      record {
        rows = next_rows T T_parameters s f rooms on.first on.last;
        steps = omega (arith, k.steps, more);
        lines = omega (arith, k.lines, later_most log.lines (lines_in text), lines_most text);
      },
    )

-- what the program's loop goes on with: a forcing that is taken is counted, and leaves a log that can be saved
pub taken_on : (text : List ℕ) (log next : Log) → Savable log → took log (Ok next) ≡ take_of text log
    → (next.clock.step ≡ log.clock.step + 1) × Savable next
taken_on text log next kept e =
    subst (λ (t : Took). (t.log.clock.step ≡ log.clock.step + 1) × Savable t.log) (sym e) (take_savable text log kept (ap (λ (t : Took). t.answer.number) (sym e)))

-- ---- why no forcing is refused by 1 to 10: of such a log, a step passes all rows before 11 for a forcing of T's 7 numbers
pub next_may : (log : Log) (f : List Float) → Savable log → length f ≡ 7
    → (run_rows (row1_rooms rooms (N T) then row1_forcing T f) T T_parameters log.state).number ≡ 0
unfolding table T row ◌then◌
next_may log f k long = rw long k.rows

-- ---- the save of a log that can be saved, in a room of its length, is the whole text
module _ (log : Log) (k : Savable log) (t : List ℕ) (long : length t ≡ 442) where
  accepts : (save_answer T T_parameters log.state t).number ≡ 0
  unfolding T
  accepts = save_fine T T_parameters log.state log.clock t k.rows (rw long (lit≤ tt))

  pub end_saved : end_of log t ≡ save_out (wrote 442) (ending log)
  unfolding end_of save_of T
  end_saved =
      let none : drop 442 t ≡ [] = ap (λ (n : ℕ). drop n t) (sym long) ∙ drop-length t in
      rw (eq-eqb _ _ accepts) (rw (none, append-nil))

  -- and so what a call hands back that saves it is no refusal
  pub is_saved : (q : Result ℕ Refusal) (text : List ℕ) → save_out (saved q) text ≡ end_of log t → IsOk q
  is_saved (Ok n) text e = refl
  is_saved (Err x) text e = absurd (refuses x (ap (λ (o : SaveOut). o.answer) (e ∙ end_saved)) refl)
