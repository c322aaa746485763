-- The outcomes of a list: refused before any forcing, no forcing, the first refused, and those past it.
use Prim.Native.Nat.{ℕ, suc, ◌+◌, ◌-◌, ◌*◌, ◌/◌, ◌%◌, ◌≤◌}
use mathlib.Core.Path.{◌≡◌, refl, sym, ap, ◌∙◌}
use mathlib.Core.Bool.{Bool, true, false, cond}
use mathlib.Core.List.{List, ◌∷◌, ◌++◌, foldl}
use native.Mathlib.Omega.{arith}
use borrow.Author.Tests.{eqb-true, eqb-false, eq-eqb, ne_eqb}
use lib.Dec.{eqb}
use lib.ListN.{length}
use lib.Ieee.{Float}
use Rattle.rows.specs.declared.Answer.{Answer}
use Rattle.rows.specs.Numbers.{plus0}
use Rattle.rows.specs.Scan.{accepted}
use Rattle.lists.specs.Table.{table, zeros}
use Rattle.lists.proofs.TableLaws.{table_same, table_join}
use Rattle.rows.proofs.ScanLaws.{row_passed, then_first, then_rest, other_number}
use Rattle.quantities.specs.declared.Parameters.{Parameters}
use Rattle.limits.specs.Limits.{row11}
use Rattle.mesh.specs.Lent.{Mesh, N}
use Rattle.bounds.specs.State.{run_rows}
use Rattle.bounds.specs.Forcing.{forcing_length, forcing_at, forcings_of, forced_rows, list_rows}
use Rattle.bounds.proofs.ListLaws.{count_forcings, some_listed, forcing_long}
use Rattle.passes.specs.Equations.{Given, next_state}
use Rattle.passes.specs.Row13.{row13}
use Rattle.passes.specs.Settle.{Rooms, work_runs, row1_rooms, cleared, Settled, settles_to, settle_of}
use Rattle.passes.specs.InTurn.{Turns, unmoved, another, added_runs, without_added, with_added, first_rows, list_of}
use Rattle.passes.specs.SettleAll.{settling}
use Rattle.passes.specs.Private.{of_forcing, Onward, onward_of, onward}
use Rattle.passes.proofs.SettleLaws.{RoomLengths, room_lengths}
use Rattle.passes.proofs.NextLaws.{settled_rows}
use Rattle.passes.proofs.TurnLaws.{listed, onward_counts}
use Rattle.passes.proofs.ListLaws.{row13_accepts, gone_to, stands, in_turn_lem}

module _ (m : Mesh) (p : Parameters) (state : List Float) (step : ℕ) (l : List Float) (r : Rooms) where
  abbrev pub asked : Answer
  asked = first_rows m l r

  abbrev pub its : Turns
  its = list_of (settling m p) m p state step l r

  abbrev long : ℕ
  long = forcing_length (N m)

  pub list_refused : {a : Answer} → a ≡ asked → (a.number ≡ 0 → ⊥) → unmoved step a r ≡ its
  unfolding list_of
  list_refused e h = rw (ne_eqb _ 0 (other_number e h)) (λ i. unmoved step (e i) r)

  module _ (ok : asked.number ≡ 0) where
    pub list_rooms : RoomLengths (work_runs + added_runs) r (N m)
    unfolding list_rows
    list_rooms = room_lengths (work_runs + added_runs) r (N m) (then_first _ _ (then_rest _ _ ok))

    -- the list is whole forcings
    whole : length l % long ≡ 0
    unfolding list_rows
    whole = eqb-true _ _ (row_passed _ 0 0 (then_rest _ _ (then_rest _ _ ok)))

    pub list_none : length l ≡ 0 → {a : Answer} {next : List Float} → a ≡ run_rows accepted m p state → next ≡ cond (eqb a.number 0) state r.next
        → unmoved step a (record { next = next; work = r.work; sums = r.sums }) ≡ its
    unfolding list_of
    list_none none {a} {next} e q =
        rw (eq-eqb _ 0 ok, eq-eqb _ 0 none)
        ((λ i. unmoved step a (record { next = q i; work = r.work; sums = r.sums })) ∙ go (eqb a.number 0) ∙ (λ i. unmoved step (e i) (cond (eqb (e i).number 0) copied r)))
      where
        copied : Rooms
        copied = record { next = state; work = r.work; sums = r.sums }

        go : (b : Bool) → unmoved step a (record { next = cond b state r.next; work = r.work; sums = r.sums }) ≡ unmoved step a (cond b copied r)
        go true = refl
        go false = refl

    two_parts : (work_runs + added_runs) * N m ≡ work_runs * N m + added_runs * N m
    two_parts = omega arith

    module _ (some : length l ≡ 0 → ⊥) where
      abbrev count : ℕ
      count = length l / long

      pub counted : 1 ≤ count
      counted = let none = some_listed (N m) l whole some in omega (arith, none, count_forcings (N m) l)

      abbrev pub first : List Float
      first = forcing_at (N m) l 0

      abbrev pub one : Settled
      one = settle_of m p state first (row11 step) (without_added (N m) r)

      -- the forcings: the first, and those past it
      abbrev rest : List (List Float)
      rest = table (count - 1) (λ i. forcing_at (N m) l (1 + i))

      split : forcings_of (N m) l ≡ first ∷ rest
      unfolding forcings_of table
      split =
          let more : count ≡ suc (count - 1) = omega (arith, counted) in
          let past : (i : ℕ) → forcing_at (N m) l (suc i) ≡ forcing_at (N m) l (1 + i) = λ i. let e : suc i ≡ 1 + i = omega arith in ap (forcing_at (N m) l) e in
          ap (λ (k : ℕ). table k (forcing_at (N m) l)) more
          ∙ ap (λ (fs : List (List Float)). first ∷ fs) (table_same (count - 1) (λ i. forcing_at (N m) l (suc i)) (λ i. forcing_at (N m) l (1 + i)) (λ i _. past i))

      abbrev more : Turns → List Float → Turns
      more = another (settling m p) state

      abbrev fold : List (List Float) → Turns
      fold = foldl more (unmoved step accepted (without_added (N m) r))

      of_some : with_added (N m) r (fold (forcings_of (N m) l)) ≡ its
      unfolding list_of
      of_some = rw (eq-eqb _ 0 ok, ne_eqb _ 0 some)

      -- the first call
      abbrev made : Settled → Turns
      made o = record { last = record { answer = o.answer; step = cond (eqb o.answer.number 0) (step + 1) step; rooms = o.rooms }; accepted = cond (eqb o.answer.number 0) (0 + 1) 0 }

      from_first : fold (forcings_of (N m) l) ≡ foldl more (made one) rest
      unfolding another
      from_first = ap fold split

      -- refused
      pub list_stop : (one.answer.number ≡ 0 → ⊥) → with_added (N m) r (unmoved step one.answer one.rooms) ≡ its
      list_stop h =
          let stopped : made one ≡ unmoved step one.answer one.rooms = rw (ne_eqb _ 0 h) in
          let all = from_first ∙ ap (λ (o : Turns). foldl more o rest) stopped ∙ stands (settling m p) state rest (unmoved step one.answer one.rooms) h in
          sym (ap (with_added (N m) r) all) ∙ of_some

      -- accepted
      module _ (h : one.answer.number ≡ 0) where
        abbrev g : Given
        g = of_forcing m p first state

        abbrev early : Answer
        early = forced_rows (row1_rooms (without_added (N m) r) (N m)) m p state (row11 step) first

        both : (early.number ≡ 0) × ((row13 g).number ≡ 0)
        unfolding settle_of settles_to
        both = go (eqb early.number 0) refl
          where
            go : (b : Bool) → eqb early.number 0 ≡ b → (early.number ≡ 0) × ((row13 g).number ≡ 0)
            go true e = (eqb-true _ _ e, rw e at h)
            go false e = absurd (eqb-false _ _ e (rw e at h))

        pub first_rows_lem : early.number ≡ 0
        first_rows_lem = both.0

        pub first_state : one ≡ record { answer = accepted; rooms = cleared (next_state g) (N m) }
        unfolding settle_of settles_to
        first_state = rw (eq-eqb _ 0 both.0, eq-eqb _ 0 both.1) (λ i. record { answer = row13_accepts g both.1 i; rooms = cleared (next_state g) (N m) })

        abbrev past : Onward
        past = onward m p step (forcing_at (N m) l) (count - 1) 1 (next_state g)

        -- those past the first
        list_on : fold (forcings_of (N m) l) ≡ gone_to m p state step past
        list_on =
            from_first
            ∙ ap (λ (o : Settled). foldl more (made o) rest) first_state
            ∙ in_turn_lem m p state step (forcing_at (N m) l) (count - 1) 1 (next_state g) (λ z. absurd (omega (arith, z))) (settled_rows _ m p state _ first both.0 both.1)
            (λ i b. forcing_long (N m) l (1 + i) (listed (N m) l (omega (arith, b))))

        pub list_more : {a : Answer} {k : ℕ} {next work : List Float} {sums : List ℕ} → onward_of a k next ≡ past → work ≡ zeros (length r.work) → sums ≡ table (length r.sums) (λ _. 0)
            → record { last = record { answer = a; step = step + k; rooms = record { next = next; work = work; sums = sums } }; accepted = k } ≡ its
        list_more {a} {k} {next} e w s =
            let some_steps : k ≡ 0 → ⊥ = λ z. absurd (omega (arith, z, ap (λ (o : Onward). o.accepted) e, onward_counts m p step (forcing_at (N m) l) count (count - 1) 1 (next_state g))) in
            let clear = w ∙ ap zeros (list_rooms.work ∙ two_parts) ∙ sym (table_join (work_runs * N m) (added_runs * N m) plus0) in
            let none = s ∙ ap (λ (n : ℕ). table n (λ _. 0)) list_rooms.sums in
            let left : with_added (N m) r (gone_to m p state step (onward_of a k next)) ≡ done (zeros (work_runs * N m) ++ zeros (added_runs * N m)) (table (N m) (λ _. 0)) = rw (ne_eqb k 0 some_steps) in
            (λ i. done (clear i) (none i)) ∙ sym left ∙ ap (λ (o : Onward). with_added (N m) r (gone_to m p state step o)) e ∙ sym (ap (with_added (N m) r) list_on) ∙ of_some
          where
            done : List Float → List ℕ → Turns
            done work sums = record { last = record { answer = a; step = step + k; rooms = record { next = next; work = work; sums = sums } }; accepted = k }
