-- #107: what a list of forcings comes to, by the laws of a single step: the run along those that were accepted, the clock, the count, where it stops, and
-- what it leaves in the rooms. That rows 1 to 10 accept again after an accepted step is `next_rows`.
use Prim.Native.Nat.{ℕ, zero, suc, ◌+◌, ◌*◌, ◌≤◌, ◌<◌}
use mathlib.Core.Path.{◌≡◌, refl, sym, ap, subst, ◌∙◌}
use mathlib.Core.Bool.{Bool, true, false, cond}
use mathlib.Core.List.{List, [], ◌∷◌, ◌++◌, foldl, foldl-append, append-nil, append_assoc}
use native.Mathlib.Nat.{not-suc-le-zero}
use native.Mathlib.Omega.{arith}
use borrow.Author.Tests.{eqb-true, eqb-false, eq-eqb, ne_eqb}
use lib.Dec.{eqb}
use lib.ListN.{length, get_or, take, length-append, take-append-drop, get_or-append}
use lib.Seq.{length-take-le, take_all, take-append-le, get_or_at}
use lib.Ieee.{Float}
use Rattle.rows.specs.declared.Answer.{Answer}
use Rattle.rows.specs.Scan.{accepted, row, ◌then◌}
use Rattle.rows.proofs.ScanLaws.{row_holds, row_passed, then_stop, then_next, then_first, then_rest, then_assoc, same_number}
use Rattle.lists.specs.Table.{table}
use Rattle.lists.proofs.TableLaws.{length_table}
use Rattle.lists.proofs.RunLaws.{runs_length}
use Rattle.quantities.specs.declared.Parameters.{Parameters}
use Rattle.limits.specs.Limits.{row11}
use Rattle.mesh.specs.Lent.{Mesh, N}
use Rattle.bounds.specs.State.{state_runs, run_rows}
use Rattle.bounds.specs.Forcing.{forcing_at, forcings_of, row1_forcing, row12, row14, list_rows}
use Rattle.bounds.proofs.ForcingLaws.{long_forcing, forced_plain}
use Rattle.bounds.proofs.ListLaws.{some_listed, forcing_long}
use Rattle.passes.specs.Equations.{next_state}
use Rattle.passes.specs.Settle.{Rooms, work_runs, row1_rooms_of, row1_rooms, cleared}
use Rattle.passes.specs.InTurn.{Turns, unmoved, another, in_turn, added_runs, without_added, with_added, first_rows, of_none, list_of}
use Rattle.passes.proofs.SettleLaws.{room_lengths, lengths_room}
use Rattle.passes.proofs.ListLaws.{row13_accepts, stands}
use Rattle.surge.specs.Lent.{Run, run}
use Rattle.surge.specs.Step.{StepOut, given_of, advance, step_rows, refused_before, refused_by13, went_on}
use Rattle.surge.specs.StepAll.{single_step, step_all_of, held_after, list_answer, later_answer}
use Rattle.surge.proofs.StepLaws.{early, late, step_cases}
use Rattle.surge.proofs.NumberLaws.{not_13, only_13}
use Rattle.surge.proofs.NextLaws.{next_rows}

-- the rooms that a step leaves pass row 1
cleared_fit : (next : List Float) (n : ℕ) → length next ≡ state_runs * n → (row1_rooms (cleared next n) n).number ≡ 0
cleared_fit next n e =
    ap (λ (a : Answer). a.number) (lengths_room work_runs (cleared next n) n (record { next = e; work = length_table _ _; sums = length_table {A = ℕ} n (λ _. 0) }))

-- a row that accepts is the accepted answer
row_clean : (test : Bool) (number place : ℕ) → (row test (suc number) place).number ≡ 0 → row test (suc number) place ≡ accepted
row_clean test number place e = row_holds (suc number) place (row_passed test number place e)

-- ---- of each of a list's forcings
abbrev Each : (List Float → Type 0) → List (List Float) → Type 0
Each Q [] = Unit {0}
Each Q (f ∷ fs) = Q f × Each Q fs

each_of : (Q : List Float → Type 0) (k : ℕ) (f : ℕ → List Float) → ((j : ℕ) → j < k → Q (f j)) → Each Q (table k f)
unfolding table
each_of Q zero f h = tt
each_of Q (suc k) f h = (h 0 (omega arith), each_of Q k (λ j. f (suc j)) (λ j l. h (suc j) (omega arith)))

-- what a step left, as a call that was made after k were accepted
abbrev turns_of : StepOut → ℕ → Turns
turns_of o k = record { last = record { answer = o.reply.answer; step = o.reply.clock.step; rooms = o.rooms }; accepted = k }

module _ (m : Mesh) (p : Parameters) (s : Run) where
  -- ---- one call more
  abbrev more : Turns → List Float → Turns
  more = another (single_step m p) s.state

  abbrev Accepted : Turns → Type 0
  Accepted o = o.last.answer.number ≡ 0

  -- what holds of each outcome of one call more, where it comes, holds of it
  more_cases : (P : Turns → Type 0) (o : Turns) (f : List Float) → let q = held_after s o in let r = o.last.rooms in
      ((Accepted o → ⊥) → P o)
      → (Accepted o → (early m p q f r).number ≡ 0 → (late m p q f r).number ≡ 0 → P (turns_of (went_on m p q f r (late m p q f r)) (o.accepted + 1)))
      → (Accepted o → (early m p q f r).number ≡ 0 → ((late m p q f r).number ≡ 0 → ⊥) → P (turns_of (refused_by13 m p q f r (late m p q f r)) o.accepted))
      → (Accepted o → ((early m p q f r).number ≡ 0 → ⊥) → P (turns_of (refused_before m p q f r (early m p q f r)) o.accepted))
      → P (more o f)
  unfolding another
  more_cases P o f stays on by13 before = go (eqb o.last.answer.number 0) refl
    where
      go : (b : Bool) → eqb o.last.answer.number 0 ≡ b → P (more o f)
      go true e =
          let ok = eqb-true _ _ e in
          rw e (
          step_cases m p (held_after s o) f o.last.rooms
          (λ (c : StepOut). P (turns_of c (cond (eqb c.reply.answer.number 0) (o.accepted + 1) o.accepted)))
          (λ h l. rw (eq-eqb _ _ l) (on ok h l))
          (λ h l. rw (ne_eqb _ _ l) (by13 ok h l))
          (λ h. rw (ne_eqb _ _ h) (before ok h)))
      go false e = rw e (stays (eqb-false _ _ e))

  -- the run that is held after one more is the equations' from the run before it
  held_on : (o : Turns) (f : List Float) → let q = held_after s o in let r = o.last.rooms in
      held_after s (turns_of (went_on m p q f r (late m p q f r)) (o.accepted + 1)) ≡ advance m p q f
  held_on o f = rw (ne_eqb (o.accepted + 1) 0 (λ e. absurd (omega (arith, e))))

  -- ---- all of them in turn: what one call more keeps holds after all
  module _ (Q : List Float → Type 0) (Inv : List (List Float) → Turns → Type 0)
      (one : (done : List (List Float)) (o : Turns) (f : List Float) → Q f → Inv done o → Inv (done ++ (f ∷ [])) (more o f)) where
    in_turn_lem : (fs done : List (List Float)) (o : Turns) → Each Q fs → Inv done o → Inv (done ++ fs) (foldl more o fs)
    in_turn_lem [] done o q h = rw append-nil h
    in_turn_lem (f ∷ fs) done o q h =
        subst (λ (l : List (List Float)). Inv l (foldl more (more o f) fs)) (append_assoc done (f ∷ []) fs)
        (in_turn_lem fs (done ++ (f ∷ [])) (more o f) q.1 (one done o f q.0 h))

  -- a run that every accepted step keeps so is held
  module _ (Q : List Float → Type 0) (P : Run → Type 0)
      (kept : (q : Run) (f : List Float) (r : Rooms) → Q f → P q → (early m p q f r).number ≡ 0 → (late m p q f r).number ≡ 0 → P (advance m p q f)) where
    more_keeps : (done : List (List Float)) (o : Turns) (f : List Float) → Q f → P (held_after s o) → P (held_after s (more o f))
    more_keeps done o f q h =
        more_cases (λ (c : Turns). P (held_after s c)) o f
        (λ _. h)
        (λ _ e l. subst P (sym (held_on o f)) (kept (held_after s o) f o.last.rooms q h e l))
        (λ _ _ _. h)
        (λ _ _. h)

  -- ---- what any forcings, offered in turn, come to
  -- the count, the run along those that were accepted, and the clock
  pub record Along (done : List (List Float)) (o : Turns) : Type 0 where
    pub count : o.accepted ≤ length done
    pub held : held_after s o ≡ foldl (advance m p) s (take o.accepted done)
    pub clock : o.last.step ≡ s.clock.step + o.accepted

  -- and that none is left out, unless one is refused
  pub record Turned (done : List (List Float)) (o : Turns) : Type 0 where
    pub along : Along done o
    pub all : Accepted o → o.accepted ≡ length done
    pub stopped : (Accepted o → ⊥) → o.accepted < length done

  none_along : (done : List (List Float)) (a : Answer) (rooms : Rooms)
      → Along done (record { last = record { answer = a; step = s.clock.step; rooms = rooms }; accepted = 0 })
  none_along done a rooms = record { count = omega arith; held = refl; clock = omega arith }

  module _ (done : List (List Float)) (o : Turns) (f : List Float) (h : Turned done o) where
    abbrev longer : List (List Float)
    longer = done ++ (f ∷ [])

    one_longer : length longer ≡ length done + 1
    one_longer = length-append done (f ∷ [])

    -- where no step more is accepted the run is as it was
    as_before : held_after s o ≡ foldl (advance m p) s (take o.accepted longer)
    as_before = h.along.held ∙ ap (foldl (advance m p) s) (sym (take-append-le o.accepted done (f ∷ []) h.along.count))

    -- and where one is it is a step further
    one_on : Accepted o → advance m p (held_after s o) f ≡ foldl (advance m p) s (take (o.accepted + 1) longer)
    one_on ok =
        let all = h.all ok in
        ap (λ (q : Run). advance m p q f) (h.along.held ∙ ap (foldl (advance m p) s) (take_all o.accepted done (omega (arith, all))))
        ∙ sym (foldl-append (advance m p) s done (f ∷ []))
        ∙ ap (foldl (advance m p) s) (sym (take_all (o.accepted + 1) longer (omega (arith, all, one_longer))))

    -- a refusal here
    refused_here : (a : Answer) (rooms : Rooms) → (a.number ≡ 0 → ⊥) → Accepted o → rooms.next ≡ o.last.rooms.next
        → Turned longer (record { last = record { answer = a; step = o.last.step; rooms = rooms }; accepted = o.accepted })
    refused_here a rooms bad ok e = record {
      along = record {
        count = omega (arith, h.along.count, one_longer);
        held = (λ i. run (cond (eqb o.accepted 0) s.state (e i)) (record { step = o.last.step })) ∙ as_before;
        clock = h.along.clock;
      };
      all = λ z. absurd (bad z);
      stopped = λ _. omega (arith, h.all ok, one_longer);
    }

    -- none is made here
    none_here : (Accepted o → ⊥) → Turned longer o
    none_here bad = record {
      along = record { count = omega (arith, h.along.count, one_longer); held = as_before; clock = h.along.clock };
      all = λ z. absurd (bad z);
      stopped = λ z. omega (arith, h.stopped z, one_longer);
    }

    -- one more is accepted here
    accepted_here : Accepted o → let q = held_after s o in let r = o.last.rooms in
        (late m p q f r).number ≡ 0 → Turned longer (turns_of (went_on m p q f r (late m p q f r)) (o.accepted + 1))
    unfolding advance
    accepted_here ok l = record {
      along = record { count = omega (arith, h.along.count, one_longer); held = held_on o f ∙ one_on ok; clock = omega (arith, h.along.clock) };
      all = λ _. omega (arith, h.all ok, one_longer);
      stopped = λ z. absurd (z l);
    }

    turned_more : Turned longer (more o f)
    turned_more =
        more_cases (Turned longer) o f none_here (λ ok _ l. accepted_here ok l) (λ ok _ l. refused_here _ _ l ok refl) (λ ok e. refused_here _ _ e ok refl)

  turned_begun : (r : Rooms) → Turned [] (unmoved s.clock.step accepted r)
  turned_begun r = record { along = none_along [] _ r; all = λ _. refl; stopped = λ z. absurd (z refl) }

  -- ---- the same where row 1 of the rooms and rows 1 to 10 of the run accept
  -- a step answers rows 11, 12 and 13 alone then
  module _ (q : Run) (f : List Float) (r : Rooms) (fit : (row1_rooms r (N m)).number ≡ 0) (long : (row1_forcing m f).number ≡ 0) where
    rows_first : early m p q f r ≡ (run_rows accepted m p q.state then row11 q.clock.step then row12 (N m) f)
    unfolding step_rows
    rows_first = forced_plain _ m p q.state (row11 q.clock.step) f (row_clean _ 0 0 fit) (long_forcing m f long)

    later_is : (run_rows accepted m p q.state).number ≡ 0 → (early m p q f r then late m p q f r) ≡ later_answer m p q f
    later_is ok =
        ap (λ (a : Answer). a then late m p q f r) (rows_first ∙ then_next _ _ ok)
        ∙ then_assoc (row11 q.clock.step) (row12 (N m) f) (late m p q f r)

  -- the next state has its length
  next_long : (q : Run) (f : List Float) → length (advance m p q f).state ≡ state_runs * N m
  unfolding advance next_state
  next_long q f = runs_length (N m) _

  -- r: the rooms that the first call is lent
  module _ (r : Rooms) where
    pub record Passed (done : List (List Float)) (o : Turns) : Type 0 where
      pub turned : Turned done o
      pub fit : (row1_rooms o.last.rooms (N m)).number ≡ 0
      pub rows : (run_rows accepted m p (held_after s o).state).number ≡ 0
      -- each that was accepted is one that a step accepts, on the run after those before it; and the answer of the one that is refused
      pub each : (j : ℕ) → j < o.accepted → (later_answer m p (foldl (advance m p) s (take j done)) (get_or done j [])).number ≡ 0
      pub plain : Accepted o → o.last.answer ≡ accepted
      pub answered : (Accepted o → ⊥) → o.last.answer ≡ later_answer m p (held_after s o) (get_or done o.accepted [])
      -- the rooms: while none is accepted, after a 13 and otherwise; and once one is
      pub first_13 : o.accepted ≡ 0 → o.last.answer.number ≡ 13 → o.last.rooms ≡ cleared r.next (N m)
      pub untouched : o.accepted ≡ 0 → (o.last.answer.number ≡ 13 → ⊥) → o.last.rooms ≡ r
      pub zeroed : (o.accepted ≡ 0 → ⊥) → o.last.rooms ≡ cleared o.last.rooms.next (N m)

    passed_begun : (row1_rooms r (N m)).number ≡ 0 → (run_rows accepted m p s.state).number ≡ 0 → Passed [] (unmoved s.clock.step accepted r)
    passed_begun fit rows = record {
      turned = turned_begun r;
      fit = fit;
      rows = rows;
      each = λ j b. absurd (not-suc-le-zero b);
      plain = λ _. refl;
      answered = λ z. absurd (z refl);
      first_13 = λ _ e. absurd (omega (arith, e));
      untouched = λ _ _. refl;
      zeroed = λ z. absurd (z refl);
    }

    module _ (done : List (List Float)) (o : Turns) (f : List Float) (long : (row1_forcing m f).number ≡ 0) (h : Passed done o) where
      abbrev its : Run
      its = held_after s o

      abbrev lent : Rooms
      lent = o.last.rooms

      -- the forcing at the place where they stop
      here : Accepted o → get_or (done ++ (f ∷ [])) o.accepted [] ≡ f
      here ok = get_or_at done f [] [] o.accepted (sym (h.turned.all ok))

      answers : Accepted o → (early m p its f lent then late m p its f lent) ≡ later_answer m p its (get_or (done ++ (f ∷ [])) o.accepted [])
      answers ok = later_is its f lent h.fit long h.rows ∙ ap (later_answer m p its) (sym (here ok))

      not_yet : Accepted o → o.accepted ≡ 0 → lent ≡ r
      not_yet ok none = h.untouched none (λ e. absurd (omega (arith, ok, e)))

      -- those that were accepted before
      each_before : (j : ℕ) → j < o.accepted → (later_answer m p (foldl (advance m p) s (take j (done ++ (f ∷ [])))) (get_or (done ++ (f ∷ [])) j [])).number ≡ 0
      each_before j b =
          let count = h.turned.along.count in
          rw (take-append-le j done (f ∷ []) (omega (arith, b, count)), get_or-append done (f ∷ []) [] j (omega (arith, b, count))) (h.each j b)

      each_now :
          Accepted o → (early m p its f lent).number ≡ 0 → (late m p its f lent).number ≡ 0 →
          (j : ℕ) → j < o.accepted + 1 → (later_answer m p (foldl (advance m p) s (take j (done ++ (f ∷ [])))) (get_or (done ++ (f ∷ [])) j [])).number ≡ 0
      each_now ok e l j b = go (eqb j o.accepted) refl
        where
          go : (t : Bool) → eqb j o.accepted ≡ t → (later_answer m p (foldl (advance m p) s (take j (done ++ (f ∷ [])))) (get_or (done ++ (f ∷ [])) j [])).number ≡ 0
          go true t =
              rw (eqb-true j o.accepted t, ← (as_before done o f h.turned), ← (answers ok), then_next (early m p its f lent) (late m p its f lent) e) l
          go false t = let other = eqb-false j o.accepted t in each_before j (omega (arith, b, other))

      passed_more : Passed (done ++ (f ∷ [])) (more o f)
      passed_more =
          more_cases (Passed (done ++ (f ∷ []))) o f
          (λ bad. record {
            turned = none_here done o f h.turned bad;
            fit = h.fit;
            rows = h.rows;
            each = each_before;
            plain = h.plain;
            answered = λ z. h.answered z ∙ ap (later_answer m p its) (sym (get_or-append done (f ∷ []) [] o.accepted (h.turned.stopped z)));
            first_13 = h.first_13;
            untouched = h.untouched;
            zeroed = h.zeroed;
          })
          (λ ok e l. record {
            turned = accepted_here done o f h.turned ok l;
            fit = cleared_fit (advance m p its f).state (N m) (next_long its f);
            rows = subst (λ (q : Run). (run_rows accepted m p q.state).number ≡ 0) (sym (held_on o f)) (next_rows m p its f lent e l);
            each = each_now ok e l;
            plain = row13_accepts (given_of m p its f);
            answered = λ z. absurd (z l);
            first_13 = λ z. absurd (omega (arith, z));
            untouched = λ z. absurd (omega (arith, z));
            zeroed = λ _. refl;
          })
          (λ ok e l. record {
            turned = refused_here done o f h.turned _ _ l ok refl;
            fit = cleared_fit lent.next (N m) (room_lengths work_runs lent (N m) h.fit).next;
            rows = h.rows;
            each = each_before;
            plain = λ z. absurd (l z);
            answered = λ _. sym (then_next _ _ e) ∙ answers ok;
            first_13 = λ z _. ap (λ (x : Rooms). cleared x.next (N m)) (not_yet ok z);
            untouched = λ _ z. absurd (z (only_13 (given_of m p its f) l));
            zeroed = λ _. refl;
          })
          (λ ok e. record {
            turned = refused_here done o f h.turned _ _ e ok refl;
            fit = h.fit;
            rows = h.rows;
            each = each_before;
            plain = λ z. absurd (e z);
            answered = λ _. sym (then_stop _ _ e) ∙ answers ok;
            first_13 = λ _ z. absurd (not_13 m p its f lent z);
            untouched = λ z _. not_yet ok z;
            zeroed = h.zeroed;
          })

  -- ---- the call on a list
  module _ (l : List Float) (r : Rooms) where
    abbrev listed : List (List Float)
    listed = forcings_of (N m) l

    -- row 14, then row 1 of the rooms and of the list; then the run's rows 1 to 10
    abbrev slices : Answer
    slices = first_rows m l r

    abbrev first_answer : Answer
    first_answer = list_answer m p s l r

    -- those that single calls are lent
    abbrev lent_first : Rooms
    lent_first = without_added (N m) r

    abbrev offered : Turns
    offered = in_turn (single_step m p) s.state s.clock.step lent_first listed

    abbrev pub leaves : Answer → Rooms → Turns
    leaves = unmoved s.clock.step

    abbrev pub some_of : Turns → Turns
    some_of = with_added (N m) r

    abbrev pub copies : Rooms
    copies = record { next = s.state; work = r.work; sums = r.sums }

    list_cases : (P : Turns → Type 0)
        → ((slices.number ≡ 0 → ⊥) → P (leaves slices r))
        → (slices.number ≡ 0 → length l ≡ 0 → P (of_none s.state s.clock.step r (run_rows accepted m p s.state)))
        → (slices.number ≡ 0 → (length l ≡ 0 → ⊥) → P (some_of offered))
        → P (step_all_of m p s l r)
    unfolding list_of
    list_cases P refused none some = go (eqb slices.number 0) refl (eqb (length l) 0) refl
      where
        go : (a : Bool) → eqb slices.number 0 ≡ a → (b : Bool) → eqb (length l) 0 ≡ b → P (step_all_of m p s l r)
        go true e true q = rw (e, q) (none (eqb-true _ _ e) (eqb-true _ _ q))
        go true e false q = rw (e, q) (some (eqb-true _ _ e) (eqb-false _ _ q))
        go false e b q = rw e (refused (eqb-false _ _ e))

    each_listed : (Q : List Float → Type 0) → ((j : ℕ) → j < length listed → Q (forcing_at (N m) l j)) → Each Q listed
    unfolding forcings_of
    each_listed Q h = each_of Q _ _ (λ j b. h j (rw (length_table _ (forcing_at (N m) l)) b))

    -- ---- of every list
    pub step_all_along : Along (forcings_of (N m) l) (step_all_of m p s l r)
    step_all_along =
        list_cases (Along listed)
        (λ _. none_along listed _ _)
        (λ _ _. none_along listed _ _)
        (λ _ _.
        let h = in_turn_lem (λ _. Unit {0}) Turned (λ done o f _ t. turned_more done o f t) listed [] _ (each_listed _ (λ _ _. tt)) (turned_begun lent_first) in
        record { count = h.along.count; held = h.along.held; clock = h.along.clock })

    -- what every accepted step keeps of a run holds of the run held
    module _ (Q : List Float → Type 0) (P : Run → Type 0)
        (kept : (q : Run) (f : List Float) (rooms : Rooms) → Q f → P q → (early m p q f rooms).number ≡ 0 → (late m p q f rooms).number ≡ 0 → P (advance m p q f)) where
      pub step_all_keeps : ((j : ℕ) → j < length (forcings_of (N m) l) → Q (forcing_at (N m) l j)) → P s → P (held_after s (step_all_of m p s l r))
      step_all_keeps each h =
          list_cases (λ (o : Turns). P (held_after s o))
          (λ _. h)
          (λ _ _. h)
          (λ _ _. in_turn_lem Q (λ (_ : List (List Float)) (o : Turns). P (held_after s o)) (more_keeps Q P kept) listed [] _ (each_listed Q each) h)

    -- ---- where rows 14 and 1 of the slices accept
    module _ (ok : slices.number ≡ 0) where
      fit_first : (row1_rooms lent_first (N m)).number ≡ 0
      unfolding list_rows
      fit_first =
          let h = room_lengths (work_runs + added_runs) r (N m) (then_first _ _ (then_rest (row14 (N m) l) _ ok)) in
          ap (λ (a : Answer). a.number)
          (lengths_room work_runs lent_first (N m) (record { next = h.next; work = length-take-le _ r.work (omega (arith, h.work)); sums = h.sums }))

      each_long : Each (λ f. (row1_forcing m f).number ≡ 0) listed
      each_long = each_listed _ (λ j b. ap (λ (a : Answer). a.number) (row_holds 1 0 (eq-eqb _ _ (forcing_long (N m) l j b))))

      not_none : (length l ≡ 0 → ⊥) → length listed ≡ 0 → ⊥
      unfolding list_rows
      not_none =
          let whole = row_passed _ 0 0 (then_rest (row1_rooms_of (work_runs + added_runs) r (N m)) _ (then_rest (row14 (N m) l) _ ok)) in
          some_listed (N m) l (eqb-true _ _ whole)

      -- rows 1 to 10 of the run refuse: the first call does, and leaves all as found
      module _ (bad : (run_rows accepted m p s.state).number ≡ 0 → ⊥) where
        abbrev refused_first : Turns
        refused_first = record { last = record { answer = run_rows accepted m p s.state; step = s.clock.step; rooms = lent_first }; accepted = 0 }

        first_early : (f : List Float) → (row1_forcing m f).number ≡ 0 → early m p s f lent_first ≡ run_rows accepted m p s.state
        first_early f long = rows_first s f lent_first fit_first long ∙ then_stop _ _ bad

        first_more : (f : List Float) → (row1_forcing m f).number ≡ 0 → more (unmoved s.clock.step accepted lent_first) f ≡ refused_first
        first_more f long =
            let is = first_early f long in
            more_cases (λ (o : Turns). o ≡ refused_first) (unmoved s.clock.step accepted lent_first) f
            (λ z. absurd (z refl))
            (λ _ e _. absurd (bad (same_number is e)))
            (λ _ e _. absurd (bad (same_number is e)))
            (λ _ _. ap (λ (a : Answer). turns_of (refused_before m p s f lent_first a) 0) is)

        first_refused : (fs : List (List Float)) → (length fs ≡ 0 → ⊥) → Each (λ f. (row1_forcing m f).number ≡ 0) fs
            → foldl more (unmoved s.clock.step accepted lent_first) fs ≡ refused_first
        first_refused [] z e = absurd (z refl)
        first_refused (f ∷ fs) z e = ap (λ (o : Turns). foldl more o fs) (first_more f e.0) ∙ stands (single_step m p) s.state fs refused_first bad

        none_offered : (length l ≡ 0 → ⊥) → some_of offered ≡ leaves (run_rows accepted m p s.state) r
        none_offered z =
            ap some_of (first_refused listed (not_none z) each_long)
            ∙ (λ i. leaves (run_rows accepted m p s.state) (record { next = r.next; work = take-append-drop (work_runs * N m) r.work i; sums = r.sums }))

      all_passed : (run_rows accepted m p s.state).number ≡ 0 → Passed lent_first listed offered
      all_passed rows =
          in_turn_lem (λ f. (row1_forcing m f).number ≡ 0) (Passed lent_first) (passed_more lent_first) listed [] _ each_long (passed_begun lent_first fit_first rows)

    -- ---- the outcomes: refused by rows 14 and 1 to 10; an empty list that passes them; and the calls in turn
    pub step_all_cases : (P : Turns → Type 0)
        → ((first_answer.number ≡ 0 → ⊥) → P (leaves first_answer r))
        → (first_answer.number ≡ 0 → length l ≡ 0 → P (leaves (run_rows accepted m p s.state) copies))
        → (first_answer.number ≡ 0 → (length l ≡ 0 → ⊥) → (o : Turns) → Passed lent_first listed o → P (some_of o))
        → P (step_all_of m p s l r)
    step_all_cases P refused none some =
        list_cases P
        (λ e. subst (λ (a : Answer). P (leaves a r)) (then_stop slices rows e) (refused (λ z. e (then_first _ _ z))))
        (λ e z. empty e z (eqb rows.number 0) refl)
        (λ e z. full e z (eqb rows.number 0) refl)
      where
        rows : Answer
        rows = run_rows accepted m p s.state

        by_rows : slices.number ≡ 0 → (rows.number ≡ 0 → ⊥) → P (leaves rows r)
        by_rows e bad = subst (λ (a : Answer). P (leaves a r)) (then_next slices rows e) (refused (λ z. bad (then_rest _ _ z)))

        passes : slices.number ≡ 0 → rows.number ≡ 0 → first_answer.number ≡ 0
        passes e q = ap (λ (a : Answer). a.number) (then_next slices rows e) ∙ q

        empty : slices.number ≡ 0 → length l ≡ 0 → (b : Bool) → eqb rows.number 0 ≡ b
            → P (of_none s.state s.clock.step r rows)
        empty e z true q = rw q (none (passes e (eqb-true _ _ q)) z)
        empty e z false q = rw q (by_rows e (eqb-false _ _ q))

        full : slices.number ≡ 0 → (length l ≡ 0 → ⊥) → (b : Bool) → eqb rows.number 0 ≡ b → P (some_of offered)
        full e z true q = some (passes e (eqb-true _ _ q)) z offered (all_passed e (eqb-true _ _ q))
        full e z false q = subst P (sym (none_offered e (eqb-false _ _ q) z)) (by_rows e (eqb-false _ _ q))
