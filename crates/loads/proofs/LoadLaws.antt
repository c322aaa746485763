-- The outcomes of a load: refused, and loaded; and what an accepted load leaves passes row 10.
use Prim.Native.Nat.{ℕ, ◌*◌, ◌<◌, ◌≤◌}
use mathlib.Core.Path.{◌≡◌, refl, ap}
use mathlib.Core.Bool.{Bool, true, false}
use mathlib.Core.List.{List}
use borrow.Author.Tests.{leb-true, eqb-true, eqb-false, eq-eqb, ne_eqb}
use lib.Dec.{eqb}
use lib.ListN.{length}
use lib.Ieee.{Float}
use Rattle.std.specs.Prelude.{Err}
use Rattle.rows.specs.declared.Answer.{Answer}
use Rattle.rows.specs.declared.Refusal.{Refusal}
use Rattle.rows.specs.Refusals.{answered}
use Rattle.rows.proofs.ScanLaws.{row_passed, then_first, then_rest, scan_clean}
use Rattle.rows.proofs.RefusalLaws.{refuses, accepts}
use Rattle.quantities.specs.declared.Parameters.{Parameters}
use Rattle.surge.specs.declared.Clock.{Clock}
use Rattle.mesh.specs.Lent.{Mesh, N, E}
use Rattle.surge.specs.Lent.{After, after}
use Rattle.nodes.specs.Rows.{mesh_rows}
use Rattle.limits.specs.Limits.{in_bounds}
use Rattle.bounds.specs.State.{state_runs, run_rows}
use Rattle.rows.specs.Scan.{accepted}
use Rattle.lists.proofs.RunLaws.{runs_length}
use Rattle.mesh.proofs.ShapedLaws.{shaped_asked}
use Rattle.nodes.proofs.PartLaws.{mesh_parts, mesh_asked}
use Rattle.bounds.proofs.StateLaws.{six_runs, long_state, in_bounds_lem}
use Rattle.areas.specs.Areas.{sum_d}
use Rattle.frames.specs.Texts.{start_of}
use Rattle.editions.specs.Lines.{layout_at, line_count, edition_of}
use Rattle.loads.specs.Load.{line_rows, trailing_row, clock_in, node_in, rows_in, load_answer, state_in, load_of}

module _ (m : Mesh) (p : Parameters) (t : List ℕ) (state : List Float) where
  -- the text's state and clock
  abbrev pub took_text : After
  took_text = after (record { answer = load_answer m p t state; clock = clock_in (edition_of t) (N m) t }) (state_in (edition_of t) (N m) t m.h)

  module _ (k : Clock) where
    -- state and clock as found
    abbrev pub left_as_found : After
    left_as_found = after (record { answer = load_answer m p t state; clock = k }) state

    pub load_refused : (x : Refusal) → answered (Err x) ≡ load_answer m p t state → after (record { answer = answered (Err x); clock = k }) state ≡ load_of m p t state k
    unfolding load_of
    load_refused x e = rw (ne_eqb _ _ (refuses x e)) (ap (λ (b : Answer). after (record { answer = b; clock = k }) state) e)

    pub load_taken : {c : Clock} {new : List Float} → accepted ≡ load_answer m p t state → c ≡ clock_in (edition_of t) (N m) t → new ≡ state_in (edition_of t) (N m) t m.h
        → after (record { answer = accepted; clock = c }) new ≡ load_of m p t state k
    unfolding load_of
    load_taken e ec en = rw (eq-eqb _ _ (accepts e)) (λ i. after (record { answer = e i; clock = ec i }) (en i))

    -- what holds of each of the two outcomes, where it comes, holds of a load's
    pub load_cases : (P : After → Type 0) → ((load_answer m p t state).number ≡ 0 → P took_text)
        → (((load_answer m p t state).number ≡ 0 → ⊥) → P left_as_found) → P (load_of m p t state k)
    unfolding load_of
    load_cases P took stayed = go (eqb (load_answer m p t state).number 0) refl
      where
        go : (b : Bool) → eqb (load_answer m p t state).number 0 ≡ b → P (load_of m p t state k)
        go true q = rw q (took (eqb-true _ _ q))
        go false q = rw q (stayed (eqb-false _ _ q))

    -- number 0: the rows accepted, and the text's state and clock came back
    pub load_took : eqb (load_of m p t state k).reply.answer.number 0 ≡ true → ((load_answer m p t state).number ≡ 0) × (load_of m p t state k ≡ took_text)
    load_took =
        load_cases
        (λ (o : After). load_of m p t state k ≡ o → eqb o.reply.answer.number 0 ≡ true → ((load_answer m p t state).number ≡ 0) × (load_of m p t state k ≡ took_text))
        (λ h q _. (h, q))
        (λ h _ e. absurd (h (eqb-true _ _ e)))
        refl

    -- any other number: the state and the clock came back as they were
    pub load_stayed : eqb (load_of m p t state k).reply.answer.number 0 ≡ false → load_of m p t state k ≡ left_as_found
    load_stayed =
        load_cases (λ (o : After). eqb o.reply.answer.number 0 ≡ false → o ≡ left_as_found)
        (λ h e. absurd (eqb-false _ _ e h))
        (λ _ _. refl)

  -- ---- what an accepted load leaves
  module _ (ok : (load_answer m p t state).number ≡ 0) where
    pub load_long : length state ≡ state_runs * N m
    unfolding load_answer
    load_long = long_state m state (shaped_asked _ m (mesh_parts _ m p (then_first _ _ ok)).0)

    pub load_mesh : (mesh_rows accepted m p).number ≡ 0
    unfolding load_answer
    load_mesh = mesh_asked _ m p (then_first _ _ ok)

    -- rows 20 to 23 and 25 of each line, and no bytes after the last
    pub text_read : (rows_in (edition_of t) (N m) t (E m) (sum_d m) p m.h).number ≡ 0
    unfolding load_answer
    text_read = then_rest _ _ ok

    pub line_read : (j : ℕ) → j < line_count (edition_of t) (N m) → (line_rows (edition_of t) (N m) t (E m) (sum_d m) p j).number ≡ 0
    unfolding rows_in
    line_read j l = scan_clean _ _ (then_first _ _ text_read) j l

    pub no_longer : length t ≤ start_of (layout_at (edition_of t) (N m)) (line_count (edition_of t) (N m))
    unfolding rows_in trailing_row
    no_longer = leb-true _ _ (row_passed _ 19 _ (then_first _ _ (then_rest _ _ text_read)))

    pub node_read : (i : ℕ) → i < N m → in_bounds (node_in (edition_of t) (N m) t m.h i) ≡ true
    unfolding rows_in
    node_read i l = row_passed _ 9 i (scan_clean _ _ (then_rest _ _ (then_rest _ _ text_read)) i l)

    -- row 10 over the loaded values
    pub loaded_rows : (run_rows accepted m p (state_in (edition_of t) (N m) t m.h)).number ≡ 0
    unfolding state_in node_in
    loaded_rows =
        in_bounds_lem m p (state_in (edition_of t) (N m) t m.h) load_mesh (runs_length (N m) _)
        (λ i l. rw (six_runs (N m) m.h _ _ _ _ _ _ i l) (node_read i l))
