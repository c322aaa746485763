-- The way on: a text that is loaded as edition 2 is the text of a save of what it gives, in one of its spellings.
use Prim.Native.Nat.{ℕ, zero, suc, ◌<◌, ◌≤◌}
use mathlib.Core.Path.{◌≡◌, refl, sym, ap, subst, ◌∙◌}
use mathlib.Core.Bool.{Bool, true, false, cond, not, ◌&&◌}
use mathlib.Core.List.{List, [], ◌∷◌}
use native.Mathlib.Omega.{arith}
use borrow.Author.Tests.{ltb-true, eqb-true}
use lib.Dec.{T, ltb, eqb}
use lib.ListN.{length, length-map}
use lib.Ieee.{Float, nan, inf, fin, le, lt, eq, is_nan}
use Rattle.rows.specs.Numbers.{within, decimal, minus}
use Rattle.rows.proofs.ScanLaws.{row_passed, then_first, then_rest, both_left, both_right}
use Rattle.patterns.proofs.PatternLaws.{pattern_back}
use Rattle.frames.specs.Frames.{line, text, digits_of, bits}
use Rattle.frames.specs.Reading.{value, float}
use Rattle.frames.specs.Spelling.{upper, in_upper}
use Rattle.frames.specs.Texts.{start_of}
use Rattle.frames.proofs.BackLaws.{value_small}
use Rattle.frames.proofs.TextLaws.{text_lines}
use Rattle.frames.proofs.SpellingLaws.{line_at_upper}
use Rattle.faults.specs.Faults.{fault, line_fault}
use Rattle.faults.proofs.SpellingLaws.{fault_written}
use Rattle.quantities.specs.declared.Parameters.{Parameters}
use Rattle.quantities.specs.declared.Node.{Node}
use Rattle.surge.specs.declared.Clock.{Clock}
use Rattle.mesh.specs.Lent.{Mesh, N, E}
use Rattle.areas.specs.Areas.{sum_d}
use Rattle.limits.specs.Limits.{is_calm, in_bounds}
use Rattle.limits.proofs.BoundLaws.{each_bounded}
use Rattle.bounds.specs.State.{node_of}
use Rattle.bounds.proofs.StateLaws.{six_runs}
use Rattle.editions.specs.Lines.{Edition, node2, end_layout, edition2, layout_at, line_count, line_of, edition_of}
use Rattle.saves.specs.Save.{Saved, saved_of, state_values, values2, save_text}
use Rattle.editions.specs.Rows.{row23, row25}
use Rattle.loads.specs.Load.{line_in, line_rows, clock_in, node_in, load_answer, state_in}
use Rattle.loads.proofs.LoadLaws.{line_read, no_longer, node_read}

-- ---- a float that is read in a range is of the pattern that it was read from: a NaN is in no range
no_nan : (low v high : Float) → within low v high ≡ true → T (not (is_nan v))
unfolding within le lt eq is_nan
no_nan low nan high h = subst T (sym (both_right (le low nan) (le nan high) h)) tt
no_nan low (inf s) high h = tt
no_nan low (fin s m e) high h = tt

module _ (line : List ℕ) (at : ℕ) where
  pattern : (low high : Float) → within low (float line at) high ≡ true → value line at 8 ≡ bits (float line at)
  pattern low high h = sym (pattern_back (value line at 8) (value_small line at 8) (no_nan low (float line at) high h))

module _ (m : Mesh) (p : Parameters) (t : List ℕ) (state : List Float) (two : edition_of t ≡ edition2) (ok : (load_answer m p t state).number ≡ 0) where
  abbrev n : ℕ
  n = N m

  -- the run that was loaded
  abbrev k : Clock
  k = clock_in edition2 n t

  abbrev new : List Float
  new = state_in edition2 n t m.h

  abbrev kept : Saved
  kept = saved_of m p new k

  abbrev at : ℕ → List ℕ
  at = line_in edition2 n t

  -- ---- what was asked of the text, as one of edition 2
  rows : (j : ℕ) → j < line_count edition2 n → (line_rows edition2 n t (E m) (sum_d m) p j).number ≡ 0
  rows = subst (λ (d : Edition). (j : ℕ) → j < line_count d n → (line_rows d n t (E m) (sum_d m) p j).number ≡ 0) two (line_read m p t state ok)

  short : length t ≤ start_of (layout_at edition2 n) (line_count edition2 n)
  short = subst (λ (d : Edition). length t ≤ start_of (layout_at d n) (line_count d n)) two (no_longer m p t state ok)

  bounded : (i : ℕ) → i < n → in_bounds (node_in edition2 n t m.h i) ≡ true
  bounded = subst (λ (d : Edition). (i : ℕ) → i < n → in_bounds (node_in d n t m.h i) ≡ true) two (node_read m p t state ok)

  -- ---- each line is the one that a save of that run has there
  head_written : in_upper (at 0) ≡ text (line_of edition2 n (values2 kept) 0)
  unfolding line_rows line_fault row23 clock_in
  head_written =
      let l = at 0 in
      let r = rows 0 (omega arith) in
      let its_n = eqb (value l 3 2) n in
      let its-e = eqb (value l 5 2) (E m) in
      let counts = row_passed (its_n && its-e) 22 0 (then_first _ _ (then_rest _ _ r)) in
      fault_written (line_of edition2 n (values2 kept) 0) l 0 (then_first _ _ r) refl
      (eqb-true _ _ (both_left its_n its-e counts), (eqb-true _ _ (both_right its_n its-e counts), (refl, tt)))

  run_written : in_upper (at 1) ≡ text (line_of edition2 n (values2 kept) 1)
  unfolding line_rows line_fault row25
  run_written =
      let l = at 1 in
      let r = rows 1 (omega arith) in
      let dt = eqb (value l 3 8) (bits p.dt) in
      let tau = eqb (value l 11 8) (bits p.tau) in
      let friction = eqb (value l 19 8) (bits p.k) in
      let f = eqb (value l 27 8) (bits p.f) in
      let sum = eqb (value l 35 8) (sum_d m) in
      let five = row_passed (dt && tau && friction && f && sum) 24 1 (then_rest _ _ (then_rest _ _ r)) in
      let four = both_left (dt && tau && friction && f) sum five in
      let three = both_left (dt && tau && friction) f four in
      let pair = both_left (dt && tau) friction three in
      fault_written (line_of edition2 n (values2 kept) 1) l 1 (then_first _ _ r) refl
      (eqb-true _ _ (both_left dt tau pair), (eqb-true _ _ (both_right dt tau pair), (eqb-true _ _ (both_right (dt && tau) friction three), (eqb-true _ _ (both_right (dt && tau && friction) f four), (eqb-true _ _ (both_right (dt && tau && friction && f) sum five), tt)))))

  -- node i of that run
  node_same : (i : ℕ) → i < n → node_of n m.h new i ≡ node_in edition2 n t m.h i
  unfolding state_in node_in
  node_same i l = six_runs n m.h _ _ _ _ _ _ i l

  abbrev bits_of : Node → List ℕ
  bits_of c = bits c.earlier ∷ bits c.z ∷ bits c.u ∷ bits c.v ∷ bits c.wx ∷ bits c.wy ∷ []

  node_written : (i : ℕ) → i < n → (fault (at (suc (suc i))) 104 6 (suc (suc i)) (suc (suc i))).number ≡ 0
      → in_upper (at (suc (suc i))) ≡ text (line node2 (suc (suc i)) (state_values n new i))
  unfolding node_in is_calm
  node_written i b fine =
      let l = at (suc (suc i)) in
      let c = node_in edition2 n t m.h i in
      let its = each_bounded c (bounded i b) in
      let x = within (minus 1 10) c.wx (decimal 1 10) in
      let y = within (minus 1 10) c.wy (decimal 1 10) in
      fault_written (line node2 (suc (suc i)) (bits_of c)) l (suc (suc i)) fine refl
      (pattern l 3 _ _ its.earlier, (pattern l 11 _ _ its.z, (pattern l 19 _ _ its.u, (pattern l 27 _ _ its.v, (pattern l 35 _ _ (both_left x y its.wind), (pattern l 43 _ _ (both_right x y its.wind), tt))))))
      ∙ ap (λ (q : Node). text (line node2 (suc (suc i)) (bits_of q))) (sym (node_same i b))

  line_written : (j : ℕ) → j < line_count edition2 n → in_upper (at j) ≡ text (line_of edition2 n (values2 kept) j)
  unfolding line_rows line_fault row23
  line_written zero h = head_written
  line_written (suc zero) h = run_written
  line_written (suc (suc i)) h = let r = rows (suc (suc i)) h in go (ltb i n) refl (then_first _ _ r) (then_first _ _ (then_rest _ _ r))
    where
      go : (b : Bool) → ltb i n ≡ b → let l = at (suc (suc i)) in let due = cond b node2 end_layout in
          (fault l (digits_of due.widths) due.kind (suc (suc i)) (suc (suc i))).number ≡ 0 → (row23 n (E m) l due.kind (suc (suc i))).number ≡ 0
          → in_upper l ≡ text (line due (suc (suc i)) (cond b (state_values n new i) (n ∷ [])))
      go true q fine counts = node_written i (ltb-true i n q) fine
      go false q fine counts =
          let its_n = eqb (value (at (suc (suc i))) 3 2) n in
          fault_written (line end_layout (suc (suc i)) (n ∷ [])) (at (suc (suc i))) (suc (suc i)) fine refl (eqb-true _ _ (row_passed its_n 22 (suc (suc i)) counts), tt)

  -- ---- and so is the text
  pub text_written : in_upper t ≡ save_text kept
  text_written =
      text_lines (layout_at edition2 n) (line_of edition2 n (values2 kept)) (in_upper t) (line_count edition2 n) (rw (length-map t upper) short)
      (λ j b. line_at_upper (layout_at edition2 n) t j ∙ line_written j b)
