-- What the passes leave together, and the outcomes of `settle`.
use Prim.Native.Nat.{ℕ, ◌+◌, ◌*◌, ◌<◌}
use mathlib.Core.Path.{◌≡◌, refl, sym, ap, ◌∙◌}
use mathlib.Core.Bool.{Bool, true, false, cond, ◌&&◌}
use mathlib.Core.List.{List, [], ◌∷◌}
use native.Mathlib.Nat.{one-mul}
use borrow.Author.Tests.{eqb-true, eqb-false, eq-eqb, ne_eqb}
use lib.Dec.{eqb, lit<}
use lib.ListN.{length, get_or}
use lib.Ieee.{Float, nan}
use Rattle.std.specs.Prelude.{Ok, Err}
use Rattle.std.specs.Result.{is_ok, IsErr}
use Rattle.rows.specs.declared.Answer.{Answer}
use Rattle.rows.specs.Numbers.{plus0}
use Rattle.rows.specs.Scan.{accepted}
use Rattle.lists.specs.Table.{table, zeros}
use Rattle.lists.specs.Runs.{is_runs, in_run, runs_of}
use Rattle.lists.specs.Private.{with_run}
use Rattle.rows.specs.Refusals.{answered}
use Rattle.rows.proofs.ScanLaws.{row_holds, row_passed, both_left, both_right}
use Rattle.rows.proofs.RefusalLaws.{Asked, answered_ok}
use Rattle.lists.proofs.RunLaws.{run_read, run_put, run_same, runs_alike, as_runs}
use Rattle.quantities.specs.declared.Parameters.{Parameters}
use Rattle.mesh.specs.Lent.{Mesh, N}
use Rattle.bounds.specs.State.{state_runs}
use Rattle.bounds.specs.Forcing.{wind_runs, elevation_of, winds_of, forced_rows}
use Rattle.bounds.proofs.ForcingLaws.{AcceptedForced, accepted_forced}
use Rattle.passes.specs.Equations.{Given, given, count, rise, U', V', next_state}
use Rattle.passes.specs.Row13.{row13}
use Rattle.passes.specs.Settle.{Rooms, work_runs, row1_rooms_of, row1_rooms, settled, settles_to, settle_of}
use Rattle.passes.specs.Private.{Fits, zero, advected, clear_room, flow_room}

-- a cleared work room, as runs
pub cleared_room : (g : Given) (long : ℕ) {now : List Float} → long ≡ work_runs * count g → now ≡ zeros long → now ≡ clear_room g
unfolding table
cleared_room g long e q = q ∙ ap zeros e ∙ runs_alike (count g) work_runs plus0

-- six runs written one after the other
pub published : (n : ℕ) (next : List Float) (a b c d e f : ℕ → Float) → length next ≡ state_runs * n
    → with_run n 5 f (with_run n 4 e (with_run n 3 d (with_run n 2 c (with_run n 1 b (with_run n 0 a next))))) ≡ runs_of n (a ∷ b ∷ c ∷ d ∷ e ∷ f ∷ [])
unfolding table
published n next a b c d e f long =
    let old = in_run n in
    let to4 : List Float → List Float = λ r. with_run n 5 f (with_run n 4 e r) in
    let to2 : List Float → List Float = λ r. to4 (with_run n 3 d (with_run n 2 c r)) in
    ap (λ (r : List Float). to2 (with_run n 1 b (with_run n 0 a r))) (as_runs n nan state_runs next long)
    ∙ ap (λ (r : List Float). to2 (with_run n 1 b r)) (run_put n (old 0 next ∷ old 1 next ∷ old 2 next ∷ old 3 next ∷ old 4 next ∷ old 5 next ∷ []) 0 a (lit< tt))
    ∙ ap to2 (run_put n (a ∷ old 1 next ∷ old 2 next ∷ old 3 next ∷ old 4 next ∷ old 5 next ∷ []) 1 b (lit< tt))
    ∙ ap (λ (r : List Float). to4 (with_run n 3 d r)) (run_put n (a ∷ b ∷ old 2 next ∷ old 3 next ∷ old 4 next ∷ old 5 next ∷ []) 2 c (lit< tt))
    ∙ ap to4 (run_put n (a ∷ b ∷ c ∷ old 3 next ∷ old 4 next ∷ old 5 next ∷ []) 3 d (lit< tt))
    ∙ ap (λ (r : List Float). with_run n 5 f r) (run_put n (a ∷ b ∷ c ∷ d ∷ old 4 next ∷ old 5 next ∷ []) 4 e (lit< tt))
    ∙ run_put n (a ∷ b ∷ c ∷ d ∷ e ∷ old 5 next ∷ []) 5 f (lit< tt)

-- the next state, from z in the state, what the work room holds, and the new winds
pub next_state_lem : (g : Given) {next work : List Float} → work ≡ flow_room g → let n = count g in
    next ≡ runs_of n (in_run n 1 g.state ∷ in_run n 0 work ∷ in_run n 1 work ∷ in_run n 2 work ∷ in_run n 0 g.winds ∷ in_run n 1 g.winds ∷ []) → next ≡ next_state g
unfolding next_state
next_state_lem g ew en =
    let n = count g in
    let z = in_run n 1 g.state in
    let x = in_run n 0 g.winds in
    let y = in_run n 1 g.winds in
    let fs = rise g ∷ U' g ∷ V' g ∷ advected g in
    let r = flow_room g in
    let read : (k : ℕ) → k < work_runs → (i : ℕ) → i < n → in_run n k r i ≡ get_or fs k (λ _. nan) i = λ k h i l. run_read n fs k i nan h l in
    en
    ∙ ap (λ (w : List Float). runs_of n (z ∷ in_run n 0 w ∷ in_run n 1 w ∷ in_run n 2 w ∷ x ∷ y ∷ [])) ew
    ∙ run_same n (z ∷ zero ∷ in_run n 1 r ∷ in_run n 2 r ∷ x ∷ y ∷ []) 1 (in_run n 0 r) (rise g) (read 0 (lit< tt))
    ∙ run_same n (z ∷ rise g ∷ zero ∷ in_run n 2 r ∷ x ∷ y ∷ []) 2 (in_run n 1 r) (U' g) (read 1 (lit< tt))
    ∙ run_same n (z ∷ rise g ∷ U' g ∷ zero ∷ x ∷ y ∷ []) 3 (in_run n 2 r) (V' g) (read 2 (lit< tt))

-- ---- row 1 of the rooms
pub record RoomLengths (runs : ℕ) (r : Rooms) (n : ℕ) : Type 0 where
  pub next : length r.next ≡ state_runs * n
  pub work : length r.work ≡ runs * n
  pub sums : length r.sums ≡ n

pub room_lengths : (runs : ℕ) (r : Rooms) (n : ℕ) → (row1_rooms_of runs r n).number ≡ 0 → RoomLengths runs r n
room_lengths runs r n e = record {
  next = eqb-true _ _ (both_left _ (is_runs (length r.work) runs n) first_two);
  work = eqb-true _ _ (both_right (is_runs (length r.next) state_runs n) _ first_two);
  sums = eqb-true _ _ (both_right (is_runs (length r.next) state_runs n && is_runs (length r.work) runs n) _ all_three) ∙ one-mul n;
}
  where
    all_three : (is_runs (length r.next) state_runs n && is_runs (length r.work) runs n && is_runs (length r.sums) 1 n) ≡ true
    all_three = row_passed _ 0 0 e

    first_two : (is_runs (length r.next) state_runs n && is_runs (length r.work) runs n) ≡ true
    first_two = both_left _ (is_runs (length r.sums) 1 n) all_three

pub lengths_room : (runs : ℕ) (r : Rooms) (n : ℕ) → RoomLengths runs r n → row1_rooms_of runs r n ≡ accepted
lengths_room runs r n h = row_holds 1 0 (λ i. eq-eqb _ _ h.next i && eq-eqb _ _ h.work i && eq-eqb _ _ (h.sums ∙ sym (one-mul n)) i)

-- ---- an answer as a result
pub accepting : (a : Asked) → is_ok a ≡ true → (answered a).number ≡ 0
accepting a e = eqb-true _ _ (sym (answered_ok a) ∙ e)

pub refusing : (a : Asked) → is_ok a ≡ false → (answered a).number ≡ 0 → ⊥
refusing a e = eqb-false _ _ (sym (answered_ok a) ∙ e)

-- a refusal that `?` hands back leaves what there was
pub kept : (a : Asked) (new : List Float) {old : List Float} → IsErr a → old ≡ cond (is_ok a) new old
kept (Ok _) new e = cc
kept (Err _) new e = refl

-- ---- the outcomes
module _ (m : Mesh) (p : Parameters) (state f : List Float) (also : Answer) (r : Rooms) where
  abbrev pub asked : Answer
  asked = forced_rows (row1_rooms r (N m)) m p state also f

  abbrev pub its : Given
  its = given m p state (elevation_of f) (winds_of f)

  -- refused before anything is worked out
  pub refused : {a : Answer} → a ≡ asked → (asked.number ≡ 0 → ⊥) → record { answer = a; rooms = r } ≡ settle_of m p state f also r
  unfolding settle_of settles_to
  refused e h = (λ i. record { answer = e i; rooms = r }) ∙ rw (ne_eqb _ _ h)

  module _ (ok : asked.number ≡ 0) where
    all : AcceptedForced (row1_rooms r (N m)) m p state also f
    all = accepted_forced _ _ _ _ _ _ ok

    pub forcing_long : length f ≡ 1 + wind_runs * N m
    forcing_long = all.long

    -- what the passes are given has these lengths, with the winds as the part of the forcing past its elevation
    pub fits : (winds : List Float) → Fits (given m p state (elevation_of f) winds)
    fits winds = record { shape = all.run.shape; state = all.run.long; setting = refl }

    lengths : RoomLengths work_runs r (N m)
    lengths = room_lengths work_runs r (N m) all.others

    pub next_long : length r.next ≡ state_runs * N m
    next_long = lengths.next

    pub work_long : length r.work ≡ work_runs * N m
    work_long = lengths.work

    pub sums_long : length r.sums ≡ N m
    sums_long = lengths.sums

    -- worked out: what is left is zero but for the next state
    pub worked : {winds : List Float} (a : Asked) {next work : List Float} {sums : List ℕ} → winds ≡ winds_of f
        → let g = given m p state (elevation_of f) winds in
        answered a ≡ row13 g → next ≡ cond (is_ok a) (next_state g) r.next → work ≡ zeros (work_runs * N m) → sums ≡ table (N m) (λ _. 0)
        → settled (answered a) next work sums ≡ settle_of m p state f also r
    unfolding settle_of settles_to
    worked {winds} a q e en ew es =
        let g = given m p state (elevation_of f) winds in
        let same : g ≡ its = λ i. given m p state (elevation_of f) (q i) in
        let answer = e ∙ ap row13 same in
        let next = en ∙ ap (λ (b : Bool). cond b (next_state g) r.next) (answered_ok a) ∙ (λ i. cond (eqb (answer i).number 0) (next_state (same i)) r.next) in
        (λ i. settled (answer i) (next i) (ew i) (es i)) ∙ rw (eq-eqb _ _ ok)
