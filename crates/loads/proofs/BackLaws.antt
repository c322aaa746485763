-- The way back, line by line: what is read of a save's text of either edition is what was written.
use Prim.Native.Nat.{ℕ, zero, suc, ◌+◌, ◌*◌, ◌^◌, ◌<◌, ◌≤◌}
use mathlib.Core.Path.{◌≡◌, refl, sym, ap, ◌∙◌}
use mathlib.Core.Bool.{Bool, true, false, cond, ◌&&◌}
use mathlib.Core.List.{List, [], ◌∷◌}
use native.Mathlib.Omega.{arith}
use borrow.Author.Tests.{lt-ltb, eq-eqb, le-leb}
use lib.Dec.{T, ltb, leb, eqb, lit<, lit≤}
use lib.ListN.{length, get_or, take}
use lib.Ieee.{Float, nan, binary64, fits}
use Rattle.rows.specs.Scan.{accepted}
use Rattle.rows.proofs.ScanLaws.{row_holds, then_next}
use Rattle.quantities.specs.declared.Parameters.{Parameters}
use Rattle.quantities.specs.declared.Wind.{Wind}
use Rattle.patterns.proofs.PatternLaws.{pattern_fits}
use Rattle.frames.specs.Bytes.{digit, digits, field}
use Rattle.frames.specs.Frames.{Frame, Layout, line, text, field_bytes, checked, digits_of, bits}
use Rattle.frames.specs.Reading.{value}
use Rattle.frames.specs.Texts.{start_of, starts}
use Rattle.frames.proofs.BackLaws.{field_back, float_field}
use Rattle.frames.proofs.FrameLaws.{text_length}
use Rattle.frames.proofs.TextLaws.{line_back}
use Rattle.faults.specs.Faults.{fault, line_fault}
use Rattle.faults.proofs.FaultLaws.{line_fine}
use Rattle.bounds.specs.State.{node_of}
use Rattle.bounds.proofs.StateLaws.{six_runs}
use Rattle.editions.specs.Lines.{Edition, Values, run2, node1, node2, end_layout, edition1, edition2, layout_at, line_count, line_of, text_of, edition_of}
use Rattle.saves.specs.Save.{Saved, run_values, state_values, state_values1, values1, values2, save_text, save_text1, with_wind}
use Rattle.saves.proofs.LineLaws.{Fitting, all_laid, line_long, fit1, fit2}
use Rattle.loads.specs.Storable.{StorableClock, StorableState, StorableParameters}
use Rattle.editions.specs.Rows.{is_head, row23, row25}
use Rattle.loads.specs.Load.{line_in, line_rows, clock_in, node_in, state_in}
use Rattle.loads.proofs.NodeLaws.{loaded_all}

-- ---- in either edition
module _ (d : Edition) (n : ℕ) (v : Values) (fit : Fitting d n v) where
  -- each line of a save's text is the line that was written
  line_found : (j : ℕ) → j < line_count d n → line_in d n (text_of d n v) j ≡ text (line_of d n v j)
  line_found j h = line_back (layout_at d n) (line_of d n v) (line_long d n v fit) (line_count d n) j h

  -- rows 20, 21, 22 over the line that was written
  fault_fine : (j : ℕ) → j < line_count d n → (layout_at d n j).kind < 256 → j < 65536 → line_fault (layout_at d n) (text_of d n v) j ≡ accepted
  unfolding line_fault
  fault_fine j h k s =
      let f = line_of d n v j in
      rw (line_found j h)
      (ap (λ (ws : List ℕ). fault (text f) (digits_of ws) (layout_at d n j).kind j j) (sym (all_laid (layout_at d n j).widths _ (fit j))) ∙ line_fine f j k s)

  -- no line is refused, where 23 and 25 accept the lines that were written
  rows_fine : (e sum : ℕ) (p : Parameters) → ((j : ℕ) → row23 n e (text (line_of d n v j)) (layout_at d n j).kind j ≡ accepted)
      → ((j : ℕ) → row25 p sum (text (line_of d n v j)) (layout_at d n j).kind j ≡ accepted)
      → (j : ℕ) → j < line_count d n → (layout_at d n j).kind < 256 → j < 65536 → line_rows d n (text_of d n v) e sum p j ≡ accepted
  unfolding line_rows
  rows_fine e sum p counts settings j h k s =
      rw (fault_fine j h k s, line_found j h) (then_next accepted _ refl ∙ rw (counts j) (then_next accepted _ refl ∙ settings j))

  -- the step number that is read is the one that the head has
  step_found : (step : ℕ) → 0 < line_count d n → value (text (line_of d n v 0)) 7 4 ≡ step → clock_in d n (text_of d n v) ≡ record { step = step }
  unfolding clock_in
  step_found step h e = rw (line_found 0 h) (λ i. record { step = e i })

-- row 23 of a head: N and E stand at the same bytes of both
counts_head : (f : Frame) (kind n e : ℕ) → is_head kind ≡ true → value (text f) 3 2 ≡ n → value (text f) 5 2 ≡ e → row23 n e (text f) kind 0 ≡ accepted
unfolding row23
counts_head f kind n e head its_n its-e = row_holds 23 0 (rw (head, eq-eqb _ _ its_n, eq-eqb _ _ its-e))

-- and past the heads: line j is a node's or the end
module _ (node : Layout) (j : ℕ) where
  small_past : node.kind < 256 → (b : Bool) → (cond b node end_layout).kind < 256
  small_past h true = h
  small_past h false = lit< tt

  counts_past : is_head node.kind ≡ false → eqb node.kind 3 ≡ false → (n e : ℕ) (values : List ℕ) → n ≤ 4096 → (b : Bool)
      → let l = cond b node end_layout in row23 n e (text (line l j (cond b values (n ∷ [])))) l.kind j ≡ accepted
  unfolding row23
  counts_past no-head no_end n e values few true = row_holds 23 j (rw (no-head, no_end))
  counts_past no-head no_end n e values few false =
      row_holds 23 j (eq-eqb _ _ (field_back (line end_layout j (n ∷ [])) 0 (lit< tt) (record { narrow = lit≤ tt; small = omega arith })))

  settings_past : eqb node.kind 5 ≡ false → (p : Parameters) (sum : ℕ) (t : List ℕ) (b : Bool) → row25 p sum t (cond b node end_layout).kind j ≡ accepted
  unfolding row25
  settings_past other p sum t true = row_holds 25 j (rw other)
  settings_past other p sum t false = row_holds 25 j refl

-- a text starts as its first line does
starts_first : (a b k : ℕ) (t : List ℕ) → starts a b (take (suc (suc k)) t) ≡ starts a b t
starts_first a b k [] = refl
starts_first a b k (x ∷ []) = refl
starts_first a b k (x ∷ y ∷ t) = rw (le-leb 2 (length (x ∷ y ∷ take k t)) (omega arith), le-leb 2 (length (x ∷ y ∷ t)) (omega arith))

-- what starts with 0 and another digit than 1 is of edition 2
other_digit : (t : List ℕ) → eqb (get_or t 1 0) 49 ≡ false → starts 48 49 t ≡ false
other_digit t e = rw e (go (leb 2 (length t)) (eqb (get_or t 0 0) 48))
  where
    go : (a b : Bool) → (a && (b && false)) ≡ false
    go true true = refl
    go true false = refl
    go false b = refl

-- ---- edition 2
module _ (s : Saved) where
  abbrev t2 : List ℕ
  t2 = save_text s

  pub found2 : (j : ℕ) → j < line_count edition2 s.n → line_in edition2 s.n t2 j ≡ text (line_of edition2 s.n (values2 s) j)
  found2 = line_found edition2 s.n (values2 s) (fit2 s)

  -- its text is read as edition 2
  pub edition_2 : edition_of t2 ≡ edition2
  unfolding start_of text field_bytes checked digits digit field
  edition_2 =
      let first = found2 0 (omega arith) in
      let other = other_digit (text (line_of edition2 s.n (values2 s) 0)) refl in
      ap (λ (b : Bool). cond b edition1 edition2) (sym (starts_first 48 49 23 t2) ∙ ap (starts 48 49) first ∙ other)

  small_kind2 : (j : ℕ) → (layout_at edition2 s.n j).kind < 256
  small_kind2 zero = lit< tt
  small_kind2 (suc zero) = lit< tt
  small_kind2 (suc (suc i)) = small_past node2 (suc (suc i)) (lit< tt) (ltb i s.n)

  -- a run whose numbers the fields can hold
  module _ (few : s.n ≤ 4096) (few_triangles : s.e < 65536) (small : s.sum < 256 ^ 8) (sp : StorableParameters s.p) where
    counts_2 : (j : ℕ) → row23 s.n s.e (text (line_of edition2 s.n (values2 s) j)) (layout_at edition2 s.n j).kind j ≡ accepted
    unfolding row23
    counts_2 zero =
        let f = line_of edition2 s.n (values2 s) 0 in
        let its_n = field_back f 0 (lit< tt) (record { narrow = lit≤ tt; small = omega arith }) in
        counts_head f 4 s.n s.e refl its_n (field_back f 1 (lit< tt) (record { narrow = lit≤ tt; small = few_triangles }))
    counts_2 (suc zero) = row_holds 23 1 refl
    counts_2 (suc (suc i)) = counts_past node2 (suc (suc i)) refl refl s.n s.e (state_values s.n s.state i) few (ltb i s.n)

    settings_2 : (j : ℕ) → row25 s.p s.sum (text (line_of edition2 s.n (values2 s) j)) (layout_at edition2 s.n j).kind j ≡ accepted
    unfolding row25
    settings_2 zero = row_holds 25 0 refl
    settings_2 (suc zero) =
        let f = line run2 1 (run_values s.p s.sum) in
        let dt : value (text f) 3 8 ≡ bits s.p.dt = field_back f 0 (lit< tt) (record { narrow = lit≤ tt; small = pattern_fits _ sp.dt }) in
        let tau : value (text f) 11 8 ≡ bits s.p.tau = field_back f 1 (lit< tt) (record { narrow = lit≤ tt; small = pattern_fits _ sp.tau }) in
        let k : value (text f) 19 8 ≡ bits s.p.k = field_back f 2 (lit< tt) (record { narrow = lit≤ tt; small = pattern_fits _ sp.k }) in
        let c : value (text f) 27 8 ≡ bits s.p.f = field_back f 3 (lit< tt) (record { narrow = lit≤ tt; small = pattern_fits _ sp.f }) in
        let areas : value (text f) 35 8 ≡ s.sum = field_back f 4 (lit< tt) (record { narrow = lit≤ tt; small = small }) in
        row_holds 25 1 (rw (eq-eqb _ _ dt, eq-eqb _ _ tau, eq-eqb _ _ k, eq-eqb _ _ c, eq-eqb _ _ areas))
    settings_2 (suc (suc i)) = settings_past node2 (suc (suc i)) refl s.p s.sum _ (ltb i s.n)

    -- no line of a save's text is refused
    pub lines_fine : (j : ℕ) → j < line_count edition2 s.n → line_rows edition2 s.n t2 s.e s.sum s.p j ≡ accepted
    lines_fine j h = rows_fine edition2 s.n (values2 s) (fit2 s) s.e s.sum s.p counts_2 settings_2 j h (small_kind2 j) (omega arith)

  -- the clock that is read of a save's text is the one that was saved
  pub clock_back : StorableClock s.clock → clock_in edition2 s.n t2 ≡ s.clock
  clock_back c =
      let f = line_of edition2 s.n (values2 s) 0 in
      step_found edition2 s.n (values2 s) (fit2 s) s.clock.step (omega arith) (field_back f 2 (lit< tt) (record { narrow = lit≤ tt; small = c.step }))

  module _ (ss : StorableState s.n s.state) (h : List Float) where
    -- the values of node i that are read of a save's text are those that the state has there
    pub node_back : (i : ℕ) → i < s.n → node_of s.n h s.state i ≡ node_in edition2 s.n t2 h i
    unfolding node_in
    node_back i l =
        let n = s.n in
        let f = line node2 (suc (suc i)) (state_values n s.state i) in
        rw (found2 (suc (suc i)) (omega arith), lt-ltb i n l)
        (λ j. record {
          h = get_or h i nan;
          earlier = sym (float_field f 0 (lit< tt) _ refl (ss.values (0 * n + i) (omega arith))) j;
          z = sym (float_field f 1 (lit< tt) _ refl (ss.values (1 * n + i) (omega arith))) j;
          u = sym (float_field f 2 (lit< tt) _ refl (ss.values (2 * n + i) (omega arith))) j;
          v = sym (float_field f 3 (lit< tt) _ refl (ss.values (3 * n + i) (omega arith))) j;
          wx = sym (float_field f 4 (lit< tt) _ refl (ss.values (4 * n + i) (omega arith))) j;
          wy = sym (float_field f 5 (lit< tt) _ refl (ss.values (5 * n + i) (omega arith))) j;
        })

    -- and the state is the one that was saved
    pub state_back : state_in edition2 s.n t2 h ≡ s.state
    state_back = sym (loaded_all edition2 s.n t2 h s.state ss.long node_back)

-- ---- edition 1: the text that document 01's own rules give for a run with one wind
module _ (n e : ℕ) (state : List Float) (step : ℕ) (w : Wind) where
  abbrev t1 : List ℕ
  t1 = save_text1 n e state step w

  abbrev v1 : Values
  v1 = values1 n e state step w

  found1 : (j : ℕ) → j < line_count edition1 n → line_in edition1 n t1 j ≡ text (line_of edition1 n v1 j)
  found1 = line_found edition1 n v1 (fit1 n e state step w)

  -- it is read as edition 1
  pub edition_1 : edition_of t1 ≡ edition1
  unfolding start_of text field_bytes checked digits digit field
  edition_1 =
      let first = found1 0 (omega arith) in
      let f = line_of edition1 n v1 0 in
      let long : leb 2 (length (text f)) ≡ true = le-leb 2 (length (text f)) (omega (arith, text_length f)) in
      let right : starts 48 49 (text f) ≡ true = rw long in
      ap (λ (b : Bool). cond b edition1 edition2) (sym (starts_first 48 49 55 t1) ∙ ap (starts 48 49) first ∙ right)

  small_kind1 : (j : ℕ) → (layout_at edition1 n j).kind < 256
  small_kind1 zero = lit< tt
  small_kind1 (suc i) = small_past node1 (suc i) (lit< tt) (ltb i n)

  module _ (few : n ≤ 4096) (few_triangles : e < 65536) where
    counts_1 : (j : ℕ) → row23 n e (text (line_of edition1 n v1 j)) (layout_at edition1 n j).kind j ≡ accepted
    counts_1 zero =
        let f = line_of edition1 n v1 0 in
        let its_n = field_back f 0 (lit< tt) (record { narrow = lit≤ tt; small = omega arith }) in
        counts_head f 1 n e refl its_n (field_back f 1 (lit< tt) (record { narrow = lit≤ tt; small = few_triangles }))
    counts_1 (suc i) = counts_past node1 (suc i) refl refl n e (state_values1 n state i) few (ltb i n)

    -- 25 is asked of no line
    settings_1 : (p : Parameters) (sum : ℕ) (j : ℕ) → row25 p sum (text (line_of edition1 n v1 j)) (layout_at edition1 n j).kind j ≡ accepted
    unfolding row25
    settings_1 p sum zero = row_holds 25 0 refl
    settings_1 p sum (suc i) = settings_past node1 (suc i) refl p sum _ (ltb i n)

    pub lines_fine1 : (p : Parameters) (sum j : ℕ) → j < line_count edition1 n → line_rows edition1 n t1 e sum p j ≡ accepted
    lines_fine1 p sum j h = rows_fine edition1 n v1 (fit1 n e state step w) e sum p counts_1 (settings_1 p sum) j h (small_kind1 j) (omega arith)

  pub clock_back1 : step < 256 ^ 4 → clock_in edition1 n t1 ≡ record { step = step }
  clock_back1 c =
      let f = line_of edition1 n v1 0 in
      step_found edition1 n v1 (fit1 n e state step w) step (omega arith) (field_back f 2 (lit< tt) (record { narrow = lit≤ tt; small = c }))

  module _ (values : (j : ℕ) → j < 4 * n → T (fits binary64 (get_or state j nan))) (fx : T (fits binary64 w.x)) (fy : T (fits binary64 w.y)) (h : List Float) where
    pub node_back1 : (i : ℕ) → i < n → node_of n h (with_wind n state w) i ≡ node_in edition1 n t1 h i
    unfolding node_in
    node_back1 i l =
        let f = line node1 (suc i) (state_values1 n state i) in
        let o = line_of edition1 n v1 0 in
        six_runs n h _ _ _ _ _ _ i l
        ∙ rw (found1 (suc i) (omega arith), found1 0 (omega arith), lt-ltb i n l)
        (λ j. record {
          h = get_or h i nan;
          earlier = sym (float_field f 0 (lit< tt) _ refl (values (0 * n + i) (omega arith))) j;
          z = sym (float_field f 1 (lit< tt) _ refl (values (1 * n + i) (omega arith))) j;
          u = sym (float_field f 2 (lit< tt) _ refl (values (2 * n + i) (omega arith))) j;
          v = sym (float_field f 3 (lit< tt) _ refl (values (3 * n + i) (omega arith))) j;
          wx = sym (float_field o 3 (lit< tt) w.x refl fx) j;
          wy = sym (float_field o 4 (lit< tt) w.y refl fy) j;
        })
