-- The way back, whole: a save's own text is loaded to the run that was saved, what document 01's rules wrote is loaded with its wind at every node, and
-- what any load gives is saved and loaded again.
use Prim.Native.Nat.{ℕ, ◌*◌, ◌^◌, ◌<◌, ◌≤◌}
use mathlib.Core.Path.{◌≡◌, refl, sym, ap, subst, ◌∙◌}
use mathlib.Core.List.{List, []}
use native.Mathlib.Omega.{arith}
use borrow.Author.Tests.{eq-eqb, le-leb}
use lib.Dec.{T}
use lib.ListN.{length, get_or, take}
use lib.Ieee.{Float, nan, binary64, fits}
use Rattle.rows.specs.declared.Answer.{Answer}
use Rattle.rows.specs.Scan.{accepted}
use Rattle.rows.proofs.ScanLaws.{row_holds, then_first, scan_none, same_number, goes}
use Rattle.quantities.specs.declared.Parameters.{Parameters}
use Rattle.quantities.specs.declared.Wind.{Wind}
use Rattle.frames.specs.Texts.{start_of}
use Rattle.frames.proofs.TextLaws.{lines_long}
use Rattle.surge.specs.declared.Clock.{Clock}
use Rattle.mesh.specs.Lent.{Mesh, N, E}
use Rattle.areas.specs.Areas.{sum_d}
use Rattle.areas.proofs.AreaLaws.{sum_small}
use Rattle.surge.specs.Lent.{After, after}
use Rattle.bounds.specs.State.{state_runs, node_of, run_rows}
use Rattle.bounds.proofs.StateLaws.{AcceptedRun, accepted_run}
use Rattle.editions.specs.Lines.{Edition, Values, edition1, edition2, layout_at, line_count, line_of, text_of, save_length, edition_of}
use Rattle.saves.specs.Save.{Saved, saved_of, values1, values2, save_text, save_text1, with_wind, save_answer, wrote, save_of}
use Rattle.saves.proofs.LineLaws.{Fitting, fit1, fit2, line_long}
use Rattle.saves.proofs.SaveLaws.{save_writes, save_accepts, save_answered, save_text_lem}
use Rattle.loads.specs.Storable.{StorableClock, StorableState, StorableParameters}
use Rattle.loads.specs.Load.{row10_in, line_rows, trailing_row, clock_in, node_in, rows_in, load_answer, state_in, load_of}
use Rattle.loads.proofs.NodeLaws.{loaded_all}
use Rattle.loads.proofs.LoadLaws.{load_took, loaded_rows}
use Rattle.loads.proofs.StorableLaws.{clock_storable, state_storable}
use Rattle.loads.proofs.BackLaws.{edition_1, edition_2, lines_fine, lines_fine1, clock_back, clock_back1, node_back, node_back1, state_back}

-- two runs of N nodes whose saves have the same text are the same run
pub same_text : (a b : Saved) → a.n ≡ b.n → StorableState a.n a.state → StorableState b.n b.state → StorableClock a.clock → StorableClock b.clock
    → save_text a ≡ save_text b → (a.state ≡ b.state) × (a.clock ≡ b.clock)
same_text a b q s₁ s₂ c₁ c₂ same = (
  sym (state_back a s₁ []) ∙ (λ i. state_in edition2 (q i) (same i) []) ∙ state_back b s₂ [],
  sym (clock_back a c₁) ∙ (λ i. clock_in edition2 (q i) (same i)) ∙ clock_back b c₂,
)

passed : {a : Answer} → a ≡ accepted → a.number ≡ 0
passed q = same_number (sym q) refl

-- a text of either edition with no line refused, no bytes after them and every node in bounds, on a mesh that its rows accept
text_fine : (m : Mesh) (p : Parameters) (d : Edition) (t : List ℕ) → ((j : ℕ) → j < line_count d (N m) → line_rows d (N m) t (E m) (sum_d m) p j ≡ accepted)
    → length t ≤ start_of (layout_at d (N m)) (line_count d (N m)) → ((i : ℕ) → i < N m → (row10_in d (N m) t m.h i).number ≡ 0)
    → accepted ≡ rows_in d (N m) t (E m) (sum_d m) p m.h
unfolding rows_in trailing_row
text_fine m p d t lines no_more nodes =
    goes _ (passed (scan_none _ (line_count d (N m)) (λ j b. passed (lines j b))))
    (goes _ (passed (row_holds 20 _ (le-leb _ _ no_more))) (sym (scan_none _ (N m) nodes)))

-- where the rows accept, a load gives what the text holds
load_gives : (m : Mesh) (p : Parameters) (t : List ℕ) (old : List Float) (clock : Clock) {k : Clock} {state : List Float} → accepted ≡ load_answer m p t old
    → clock_in (edition_of t) (N m) t ≡ k → state_in (edition_of t) (N m) t m.h ≡ state
    → load_of m p t old clock ≡ after (record { answer = accepted; clock = k }) state
unfolding load_of
load_gives m p t old clock ok ek es = rw (← ok) (λ i. after (record { answer = accepted; clock = ek i }) (es i))

module _ (m : Mesh) (p : Parameters) (old : List Float) (long : length old ≡ state_runs * N m) where
  -- ---- the lines that were written of a run that its rows accept, in either edition, are loaded to that run, over any state of the right length
  module _ (d : Edition) (v : Values) (fit : Fitting d (N m) v) (its-edition : edition_of (text_of d (N m) v) ≡ d) (state : List Float) (k : Clock)
      (its : AcceptedRun accepted m p state) where
    abbrev t : List ℕ
    t = text_of d (N m) v

    no_more : length t ≤ start_of (layout_at d (N m)) (line_count d (N m))
    no_more = rw (lines_long (layout_at d (N m)) (line_of d (N m) v) (line_long d (N m) v fit) (line_count d (N m))) (omega arith)

    module _ (lines : (j : ℕ) → j < line_count d (N m) → line_rows d (N m) t (E m) (sum_d m) p j ≡ accepted)
        (nodes : (i : ℕ) → i < N m → node_of (N m) m.h state i ≡ node_in d (N m) t m.h i) where
      node_fine : (i : ℕ) → i < N m → (row10_in d (N m) t m.h i).number ≡ 0
      node_fine i b = passed (row_holds 10 i (rw (← nodes i b) (its.bounds i b)))

      load_fine : accepted ≡ load_answer m p t old
      unfolding load_answer
      load_fine =
          goes _ (rw (row_holds 1 0 (eq-eqb _ _ long)) its.mesh)
          (subst (λ (d' : Edition). accepted ≡ rows_in d' (N m) t (E m) (sum_d m) p m.h) (sym its-edition) (text_fine m p d t lines no_more node_fine))

      load_held : clock_in d (N m) t ≡ k → (clock : Clock) → load_of m p t old clock ≡ after (record { answer = accepted; clock = k }) state
      load_held its-clock clock =
          load_gives m p t old clock load_fine
          (ap (λ (d' : Edition). clock_in d' (N m) t) its-edition ∙ its-clock)
          (ap (λ (d' : Edition). state_in d' (N m) t m.h) its-edition ∙ sym (loaded_all d (N m) t m.h state its.long nodes))

  module _ (state : List Float) (k : Clock) (s : StorableState (N m) state) (c : StorableClock k) (sp : StorableParameters p) where
    -- a save's own text
    pub load_own : (run_rows accepted m p state).number ≡ 0 → (clock : Clock)
        → load_of m p (save_text (saved_of m p state k)) old clock ≡ after (record { answer = accepted; clock = k }) state
    load_own ok =
        let its = accepted_run _ _ _ _ ok in
        let run = saved_of m p state k in
        let sized = its.shape.sized in
        let lines = lines_fine run sized.most_nodes (omega (arith, sized.most_triangles)) (sum_small m its.shape) sp in
        load_held edition2 (values2 run) (fit2 run) (edition_2 run) state k its lines (node_back run s m.h) (clock_back run c)

    -- ---- a save and a load
    module _ (t : List ℕ) (done : (save_of m p state k t).answer.number ≡ 0) where
      -- the bytes that an accepted save wrote, as many as its place says, are loaded to the run that was saved
      pub saved_loaded : (clock : Clock)
          → load_of m p (take (save_of m p state k t).answer.place (save_of m p state k t).text) old clock ≡ after (record { answer = accepted; clock = k }) state
      unfolding save_answer
      saved_loaded clock = rw (save_text_lem m p state k t done) (load_own (then_first _ _ (save_answered m p state k t done)) clock)

  -- ---- the text of document 01's own rules, for a run with one wind: that wind at every node
  module _ (state : List Float) (step : ℕ) (w : Wind) (values : (j : ℕ) → j < 4 * N m → T (fits binary64 (get_or state j nan))) (fx : T (fits binary64 w.x))
      (fy : T (fits binary64 w.y)) (few : step < 256 ^ 4) where
    pub load_old : (run_rows accepted m p (with_wind (N m) state w)).number ≡ 0 → (clock : Clock)
        → load_of m p (save_text1 (N m) (E m) state step w) old clock ≡ after (record { answer = accepted; clock = record { step = step } }) (with_wind (N m) state w)
    load_old ok =
        let its = accepted_run _ _ _ _ ok in
        let sized = its.shape.sized in
        let lines = lines_fine1 (N m) (E m) state step w sized.most_nodes (omega (arith, sized.most_triangles)) p (sum_d m) in
        load_held edition1 (values1 (N m) (E m) state step w) (fit1 (N m) (E m) state step w) (edition_1 (N m) (E m) state step w) (with_wind (N m) state w)
        (record { step = step }) its lines (node_back1 (N m) (E m) state step w values fx fy m.h) (clock_back1 (N m) (E m) state step w few)

-- ---- what an accepted load of either edition gives
-- the run that a load leaves is saved into a text, and that is loaded over another run and gives it back
abbrev Again : Mesh → Parameters → List ℕ → List Float → Clock → After → Type 0
Again m p text old other o =
    let s = save_of m p o.state o.reply.clock text in
    (s.answer ≡ wrote (save_length (N m)))
    × (load_of m p (take s.answer.place s.text) old other ≡ after (record { answer = accepted; clock = o.reply.clock }) o.state)

pub loaded_again : (m : Mesh) (p : Parameters) (t : List ℕ) (state : List Float) (k : Clock) (text : List ℕ) (old : List Float) (other : Clock)
    → (load_of m p t state k).reply.answer.number ≡ 0 → save_length (N m) ≤ length text → length old ≡ state_runs * N m → StorableParameters p
    → Again m p text old other (load_of m p t state k)
loaded_again m p t state k text old other done enough long sp =
    let (ok, out) = load_took m p t state k (eq-eqb _ _ done) in
    let d = edition_of t in
    let fits = state_storable d (N m) t m.h in
    let rows = loaded_rows m p t state ok in
    subst (Again m p text old other) (sym out) (
      save_writes m p _ _ text rows enough,
      saved_loaded m p old long _ _ fits (clock_storable d (N m) t) sp text (save_accepts m p _ _ text rows enough) other,
    )
