-- The outcomes of a save: refused, and written.
use Prim.Native.Nat.{ℕ, ◌≤◌}
use mathlib.Core.Path.{◌≡◌, refl, sym, ap, ◌∙◌}
use mathlib.Core.Bool.{Bool, true, false}
use mathlib.Core.List.{List, ◌++◌}
use borrow.Author.Tests.{eqb-true, eq-eqb, ne_eqb, le-leb}
use lib.Dec.{eqb}
use lib.ListN.{length, take, drop}
use lib.Seq.{take_at}
use lib.Ieee.{Float}
use Rattle.std.specs.Prelude.{Result, Err}
use Rattle.std.specs.Result.{IsErrAnd}
use Rattle.std.proofs.lemmas.Result.{err_from_is_err_and}
use Rattle.rows.specs.declared.Answer.{Answer}
use Rattle.rows.specs.declared.Refusal.{Refusal}
use Rattle.rows.specs.Scan.{accepted}
use Rattle.rows.specs.Refusals.{answered}
use Rattle.rows.proofs.ScanLaws.{row_holds, then_stop, then_next}
use Rattle.rows.proofs.RefusalLaws.{refuses, went, accepts}
use Rattle.quantities.specs.declared.Parameters.{Parameters}
use Rattle.surge.specs.declared.Clock.{Clock}
use Rattle.mesh.specs.Lent.{Mesh, N}
use Rattle.bounds.specs.State.{run_rows}
use Rattle.editions.specs.Lines.{edition2, line_count, save_length}
use Rattle.saves.specs.Save.{Saved, saved_of, save_text, row24, save_answer, save_out, wrote, saved, save_of}
use Rattle.saves.proofs.LineLaws.{save_long}
use Rattle.saves.proofs.WriteLaws.{lines_start}

-- "127+105N bytes"
pub text_long : (s : Saved) → length (save_text s) ≡ save_length s.n
text_long s = lines_start s (line_count edition2 s.n) ∙ save_long s.n

-- the rows in turn: a run that they refuse, and row 24 of one that they accept
module _ (m : Mesh) (p : Parameters) (state : List Float) (t : List ℕ) where
  pub run_refused : (x : Refusal) → answered (Err x) ≡ run_rows accepted m p state → answered (Err x) ≡ save_answer m p state t
  unfolding save_answer
  run_refused x e = e ∙ sym (then_stop _ _ (refuses x e))

  pub room_asked : {a : Answer} → accepted ≡ run_rows accepted m p state → a ≡ row24 (N m) t → a ≡ save_answer m p state t
  unfolding save_answer
  room_asked e h = went e h

module _ (m : Mesh) (p : Parameters) (state : List Float) (k : Clock) (t : List ℕ) where
  -- a refusal that `?` hands back
  pub save_refused : (q : Result ℕ Refusal) (x : Refusal) → IsErrAnd q (λ y. y ≡ x) → answered (Err x) ≡ save_answer m p state t
      → save_out (saved q) t ≡ save_of m p state k t
  unfolding save_of
  save_refused q x is e =
      let r = err_from_is_err_and q is in
      let out : save_out (answered (Err x)) t ≡ save_of m p state k t = rw (ne_eqb _ _ (refuses x e)) (ap (λ (b : Answer). save_out b t) e) in
      ap (λ (b : Result ℕ Refusal). save_out (saved b) t) (r.1 ∙ ap Err r.2) ∙ out

  pub save_written : {new : List ℕ} → accepted ≡ save_answer m p state t → new ≡ save_text (saved_of m p state k) ++ drop (save_length (N m)) t
      → save_out (wrote (save_length (N m))) new ≡ save_of m p state k t
  unfolding save_of
  save_written e en = rw (eq-eqb _ _ (accepts e)) (ap (save_out (wrote (save_length (N m)))) en)

  -- a run that passes row 10, and room enough
  module _ (ok : (run_rows accepted m p state).number ≡ 0) (l : save_length (N m) ≤ length t) where
    pub save_fine : (save_answer m p state t).number ≡ 0
    unfolding save_answer row24
    save_fine = ap (λ (a : Answer). a.number) (then_next _ _ ok ∙ row_holds 24 (save_length (N m)) (le-leb _ _ l))

    pub save_writes : (save_of m p state k t).answer ≡ wrote (save_length (N m))
    unfolding save_of
    save_writes = rw (eq-eqb _ _ save_fine)

    pub save_accepts : (save_of m p state k t).answer.number ≡ 0
    save_accepts = ap (λ (a : Answer). a.number) save_writes

  -- an accepted save: its rows accepted, and the bytes that it wrote, as many as its place says, are the run's text
  module _ (done : (save_of m p state k t).answer.number ≡ 0) where
    pub save_answered : (save_answer m p state t).number ≡ 0
    unfolding save_of
    save_answered = go (eqb (save_answer m p state t).number 0) refl
      where
        go : (b : Bool) → eqb (save_answer m p state t).number 0 ≡ b → (save_answer m p state t).number ≡ 0
        go true q = eqb-true _ _ q
        go false q = rw q at done

    pub save_text_lem : take (save_of m p state k t).answer.place (save_of m p state k t).text ≡ save_text (saved_of m p state k)
    unfolding save_of
    save_text_lem = rw (eq-eqb _ _ save_answered) (take_at _ _ _ (text_long (saved_of m p state k)))
