-- Single settlings made one after another, and what is left after those that were accepted.
use Prim.Native.Nat.{ℕ, zero, suc, ◌+◌, ◌*◌, ◌<◌}
use mathlib.Core.Path.{◌≡◌, refl, sym, ap, ◌∙◌}
use mathlib.Core.Bool.{Bool, true, false, cond}
use mathlib.Core.List.{List, [], ◌∷◌, foldl}
use native.Mathlib.Nat.{add-zero}
use native.Mathlib.Omega.{arith}
use borrow.Author.Tests.{eqb-true, eqb-false, eq-eqb, ne_eqb}
use lib.Dec.{eqb}
use lib.ListN.{length}
use lib.Ieee.{Float}
use Rattle.rows.specs.declared.Answer.{Answer}
use Rattle.rows.specs.Numbers.{plus0}
use Rattle.rows.specs.Scan.{accepted, ◌then◌}
use Rattle.lists.specs.Table.{table}
use Rattle.rows.proofs.ScanLaws.{then_stop, then_next, then_first, then_rest, scan_none, scan_clean}
use Rattle.lists.proofs.TableLaws.{length_table, table_same}
use Rattle.quantities.specs.declared.Parameters.{Parameters}
use Rattle.limits.specs.Limits.{row11}
use Rattle.mesh.specs.Lent.{Mesh, N}
use Rattle.bounds.specs.State.{run_rows}
use Rattle.bounds.specs.Forcing.{forcing_length, row12, forced_rows}
use Rattle.bounds.proofs.StateLaws.{accepted_run}
use Rattle.bounds.proofs.ForcingLaws.{forced_plain}
use Rattle.passes.specs.Equations.{Given, next_state}
use Rattle.passes.specs.Row13.{rise_rows, flow_rows, row13}
use Rattle.passes.specs.Settle.{Rooms, work_runs, row1_rooms, cleared, Settled, settles_to, settle_of}
use Rattle.passes.specs.InTurn.{Single, Turns, another}
use Rattle.passes.specs.SettleAll.{settling}
use Rattle.passes.specs.Private.{of_forcing, later_rows, Onward, onward}
use Rattle.passes.proofs.SettleLaws.{RoomLengths, lengths_room}
use Rattle.passes.proofs.NextLaws.{settled_rows}

-- ---- where row 13 accepts, its answer is that of an accepted call
pub row13_accepts : (g : Given) → (row13 g).number ≡ 0 → row13 g ≡ accepted
unfolding row13
row13_accepts g e = then_next (rise_rows g) (flow_rows g) (then_first _ _ e) ∙ scan_none _ _ (scan_clean _ _ (then_rest _ _ e))

-- ---- a refusal stands, whatever the single call is
pub stands : (single : Single) (begin : List Float) (fs : List (List Float)) (o : Turns) → (o.last.answer.number ≡ 0 → ⊥) → foldl (another single begin) o fs ≡ o
unfolding another
stands single begin [] o h = refl
stands single begin (f ∷ fs) o h = ap (λ (q : Turns). foldl (another single begin) q fs) (rw (ne_eqb _ _ h)) ∙ stands single begin fs o h

module _ (m : Mesh) (p : Parameters) where
  abbrev n : ℕ
  n = N m

  -- ---- rows 1 to 10 are not asked again: a state that passes them, rooms as a step leaves them, and a forcing of the right length
  module _ (state f : List Float) (also : Answer) (ok : (run_rows accepted m p state).number ≡ 0) (long : length f ≡ forcing_length n) where
    abbrev rooms : Rooms
    rooms = cleared state n

    rooms_right : RoomLengths work_runs rooms n
    rooms_right = record { next = (accepted_run _ _ _ _ ok).long; work = length_table (work_runs * n) (λ _. plus0); sums = length_table n (λ _. 0) }

    forced_again : forced_rows (row1_rooms rooms n) m p state also f ≡ (also then row12 n f)
    forced_again = forced_plain _ m p state also f (lengths_room work_runs rooms n rooms_right) long ∙ then_next _ _ ok

  module _ (begin : List Float) (from : ℕ) where
    -- what is left after j accepted steps
    abbrev pub gone : Answer → List Float → ℕ → Turns
    gone a state j = record { last = record { answer = a; step = from + j; rooms = cleared state n }; accepted = j }

    abbrev pub gone_to : Onward → Turns
    gone_to o = gone o.answer o.next o.accepted

    abbrev more : Turns → List Float → Turns
    more = another (settling m p) begin

    -- one step more, after j accepted ones: as rows 11 to 13 say
    module _ (state f : List Float) (j : ℕ) (some : j ≡ 0 → ⊥) (ok : (run_rows accepted m p state).number ≡ 0) (long : length f ≡ forcing_length n) where
      abbrev first : Answer
      first = row11 (from + j) then row12 n f

      abbrev g : Given
      g = of_forcing m p f state

      abbrev later : Answer
      later = later_rows m p (from + j) f state

      -- a settling, as a call that was made
      abbrev made : Settled → Turns
      made o = record { last = record { answer = o.answer; step = cond (eqb o.answer.number 0) (from + j + 1) (from + j); rooms = o.rooms }; accepted = cond (eqb o.answer.number 0) (j + 1) j }

      abbrev settles : Settled
      settles = settles_to g (cleared state n) first (row13 g)

      settled : more (gone accepted state j) f ≡ made settles
      unfolding another settle_of
      settled = rw (ne_eqb j 0 some) (ap (λ (a : Answer). made (settles_to g (cleared state n) a (row13 g))) (forced_again state f (row11 (from + j)) ok long))

      -- refused, by one of the rows
      refused : (a : Answer) → (a.number ≡ 0 → ⊥) → later ≡ a → settles ≡ record { answer = a; rooms = cleared state n } → more (gone accepted state j) f ≡ gone later state j
      refused a h e q = settled ∙ ap made q ∙ rw (ne_eqb _ 0 h) (ap (λ (b : Answer). gone b state j) (sym e))

      pub one_stop : (later.number ≡ 0 → ⊥) → more (gone accepted state j) f ≡ gone later state j
      unfolding later_rows settles_to
      one_stop h = go (eqb first.number 0) (eqb (row13 g).number 0) refl refl
        where
          go : (a b : Bool) → eqb first.number 0 ≡ a → eqb (row13 g).number 0 ≡ b → more (gone accepted state j) f ≡ gone later state j
          go false b e q = refused first (eqb-false _ _ e) (then_stop first (row13 g) (eqb-false _ _ e)) (rw e)
          go true false e q = refused (row13 g) (eqb-false _ _ q) (then_next first (row13 g) (eqb-true _ _ e)) (rw (e, q))
          go true true e q = absurd (h (ap (λ (a : Answer). a.number) (then_next first (row13 g) (eqb-true _ _ e)) ∙ eqb-true _ _ q))

      pub one_more : later.number ≡ 0 → (more (gone accepted state j) f ≡ gone accepted (next_state g) (j + 1)) × ((run_rows accepted m p (next_state g)).number ≡ 0)
      unfolding later_rows settles_to
      one_more h =
          let e = then_first first (row13 g) h in
          let q = then_rest first (row13 g) h in
          let again = forced_again state f (row11 (from + j)) ok long in
          let on : from + j + 1 ≡ from + (j + 1) = omega arith in
          let its : settles ≡ record { answer = accepted; rooms = cleared (next_state g) n } = rw (eq-eqb _ _ e, eq-eqb _ _ q) (λ i. record { answer = row13_accepts g q i; rooms = cleared (next_state g) n }) in (
            settled ∙ ap made its ∙ (λ i. record { last = record { answer = accepted; step = on i; rooms = cleared (next_state g) n }; accepted = j + 1 }),
            settled_rows _ m p state _ f (ap (λ (a : Answer). a.number) again ∙ e) q,
          )

    -- ---- k forcings more, from a state after j accepted steps
    pub in_turn_lem : (f : ℕ → List Float) (k j : ℕ) (state : List Float) → (j ≡ 0 → ⊥) → (run_rows accepted m p state).number ≡ 0 → ((i : ℕ) → i < k → length (f (j + i)) ≡ forcing_length n)
        → foldl more (gone accepted state j) (table k (λ i. f (j + i))) ≡ gone_to (onward m p from f k j state)
    unfolding table onward
    in_turn_lem f zero j state some ok long = refl
    in_turn_lem f (suc k) j state some ok long =
        go (eqb (later_rows m p (from + j) (f j) state).number 0) refl
        (λ good. in_turn_lem f k (j + 1) new (λ z. absurd (omega (arith, z))) good (λ i l. sym (ap length (shift i)) ∙ long (suc i) (omega arith)))
      where
        new : List Float
        new = next_state (of_forcing m p (f j) state)

        shift : (i : ℕ) → f (j + suc i) ≡ f (j + 1 + i)
        shift i = let q : j + suc i ≡ j + 1 + i = omega arith in ap f q

        rest : List (List Float)
        rest = table k (λ i. f (j + suc i))

        step : Turns → Turns
        step o = foldl more o rest

        first : f (j + 0) ≡ f j
        first = ap f (add-zero j)

        right : length (f j) ≡ forcing_length n
        right = ap length (sym first) ∙ long 0 (omega arith)

        go : (b : Bool) → eqb (later_rows m p (from + j) (f j) state).number 0 ≡ b
            → ((run_rows accepted m p new).number ≡ 0 → foldl more (gone accepted new (j + 1)) (table k (λ i. f (j + 1 + i))) ≡ gone_to (onward m p from f k (j + 1) new))
            → foldl more (gone accepted state j) (table (suc k) (λ i. f (j + i))) ≡ gone_to (onward m p from f (suc k) j state)
        go false e again =
            let h = eqb-false _ _ e in
            rw e (ap (λ (v : List Float). step (more (gone accepted state j) v)) first ∙ ap step (one_stop state (f j) j some ok right h) ∙ stands (settling m p) begin rest (gone (later_rows m p (from + j) (f j) state) state j) h)
        go true e again =
            let one = one_more state (f j) j some ok right (eqb-true _ _ e) in
            rw e (
            ap (λ (v : List Float). step (more (gone accepted state j) v)) first
            ∙ ap step one.0
            ∙ ap (foldl more (gone accepted new (j + 1))) (table_same k (λ i. f (j + suc i)) (λ i. f (j + 1 + i)) (λ i l. shift i))
            ∙ again one.1)
