-- A forcing that is read: where its lines start, how long its room is, and the outcomes refused and taken.
use Prim.Native.Nat.{ℕ, zero, suc, ◌+◌, ◌-◌, ◌*◌, ◌%◌, ◌^◌, ◌<◌, ◌≤◌, min}
use mathlib.Core.Path.{◌≡◌, refl, sym, ap, ◌∙◌}
use mathlib.Core.Bool.{Bool, true, false}
use mathlib.Core.List.{List}
use native.Mathlib.Omega.{arith}
use borrow.Author.Tests.{eqb-true, eq-eqb, ne_eqb, ltb-true, ltb-false}
use lib.Dec.{ltb}
use lib.ListN.{length, take, drop}
use Rattle.std.proofs.Common.{drop_of_length-le}
use lib.Ieee.{Float}
use Rattle.std.specs.Prelude.{Err, IsErrAnd}
use Rattle.rows.specs.declared.Answer.{Answer}
use Rattle.rows.specs.declared.Refusal.{Refusal}
use Rattle.rows.specs.Scan.{accepted, row, scan}
use Rattle.rows.specs.Refusals.{answered}
use Rattle.rows.proofs.ScanLaws.{row_holds, then_stop, then_next, then_first, scan_clean}
use Rattle.rows.proofs.RefusalLaws.{Asked, stands, refuses, accepts}
use Rattle.frames.specs.Texts.{start_of}
use Rattle.faults.specs.Faults.{fault, line_fault}
use Rattle.faults.proofs.FaultLaws.{line_within}
use Rattle.forcings.specs.Forcings.{forcing_lines, forcing_length, is_room, nodes_of, of_kind10, rows10, rows14, forcing_answer, forcing10, forcing14, forcing_of, taken, taken_of}

-- ---- the lines of kinds 14 and 15
pub start_wind : (i : ℕ) → start_of forcing_lines (suc i) ≡ forcing_length i
unfolding start_of
start_wind zero = refl
start_wind (suc i) = rw (start_wind i) (omega arith)

-- a start that no usize can count is past the text's end
pub line_left : (t : List ℕ) (i : ℕ) {at : ℕ} → length t < 2 ^ 64 → at ≡ min (min (i * 41) (2 ^ 64 - 1) + 25) (2 ^ 64 - 1)
    → drop at t ≡ drop (forcing_length i) t
line_left t i {at} few is = go (ltb (forcing_length i) (2 ^ 64)) refl
  where
    go : (b : Bool) → ltb (forcing_length i) (2 ^ 64) ≡ b → drop at t ≡ drop (forcing_length i) t
    go true e = ap (λ (k : ℕ). drop k t) (omega (arith, is, ltb-true _ _ e))
    go false e = drop_of_length-le t (omega (arith, is, few, ltb-false _ _ e)) ∙ sym (drop_of_length-le t (omega (arith, few, ltb-false _ _ e)))

-- and the row of node i's line
pub wind_fault : (t : List ℕ) (i : ℕ) {j : ℕ} {line : List ℕ} {a : Answer} → j ≡ suc i → line ≡ take 41 (drop (forcing_length i) t) → a ≡ fault line 40 21 j j
    → a ≡ line_fault forcing_lines t j
unfolding line_fault
wind_fault t i e is says = says ∙ rw (e, is, start_wind i)

-- where each is accepted, they are all there
pub all_there : (n : ℕ) (t : List ℕ) → (scan (line_fault forcing_lines t) (n + 1)).number ≡ 0 → forcing_length n ≤ length t
all_there n t ok = omega (arith, start_wind n, line_within forcing_lines t n (scan_clean _ (n + 1) ok n (omega arith)))

pub lines_within : (n : ℕ) (t : List ℕ) → (rows14 n t).number ≡ 0 → forcing_length n ≤ length t
lines_within n t ok = all_there n t (then_first _ _ ok)

-- ---- how long a room is
pub room_long : (room : List Float) → is_room room ≡ true → 1 + 2 * nodes_of room ≡ length room
room_long room e = omega (arith, eqb-true (length room % 2) 1 e)

-- ---- the answer, by the text's kind
module _ (room : List Float) (t : List ℕ) (expected : ℕ) where
  pub answer_room : (x : Refusal) → answered (Err x) ≡ row (is_room room) 1 0 → answered (Err x) ≡ forcing_answer room t expected
  unfolding forcing_answer
  answer_room x e = e ∙ sym (then_stop _ _ (refuses x e))

  module _ (fits : is_room room ≡ true) where
    pub answer_10 : {a : Answer} → of_kind10 t ≡ true → a ≡ rows10 t expected → a ≡ forcing_answer room t expected
    unfolding forcing_answer
    answer_10 kind e = rw kind (e ∙ sym (then_next _ _ (ap (λ (b : Answer). b.number) (row_holds 1 0 fits))))

    pub answer_14 : {a : Answer} → of_kind10 t ≡ false → a ≡ rows14 (nodes_of room) t → a ≡ forcing_answer room t expected
    unfolding forcing_answer
    answer_14 kind e = rw kind (e ∙ sym (then_next _ _ (ap (λ (b : Answer). b.number) (row_holds 1 0 fits))))

-- and what it holds
module _ (n : ℕ) (t : List ℕ) where
  pub forcing_10 : of_kind10 t ≡ true → forcing10 n t ≡ forcing_of n t
  unfolding forcing_of
  forcing_10 kind = rw kind

  pub forcing_14 : of_kind10 t ≡ false → forcing14 n t ≡ forcing_of n t
  unfolding forcing_of
  forcing_14 kind = rw kind

-- ---- the outcomes
module _ (room : List Float) (t : List ℕ) (expected : ℕ) where
  -- the room as found
  pub forcing_refused : (q : Asked) (x : Refusal) → IsErrAnd q (λ y. y ≡ x) → answered (Err x) ≡ forcing_answer room t expected
      → taken (answered q) room ≡ taken_of room t expected
  unfolding taken_of
  forcing_refused q x e is = rw (ne_eqb _ _ (refuses x is)) (ap (λ (a : Answer). taken a room) (stands q x e is))

  pub forcing_taken : {new : List Float} → accepted ≡ forcing_answer room t expected → new ≡ forcing_of (nodes_of room) t
      → taken accepted new ≡ taken_of room t expected
  unfolding taken_of
  forcing_taken is en = rw (eq-eqb _ _ (accepts is)) (λ i. taken (is i) (en i))
