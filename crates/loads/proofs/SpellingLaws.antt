-- Document 02, #104: a text is loaded as the text in upper case is, on every mesh, state and clock.
use Prim.Native.Nat.{ℕ, ◌+◌}
use mathlib.Core.Path.{◌≡◌, ap}
use mathlib.Core.Bool.{Bool, cond}
use mathlib.Core.List.{List, [], ◌∷◌}
use lib.Dec.{lit<}
use lib.ListN.{length-map, get_or}
use lib.Ieee.{Float, nan}
use Rattle.rows.specs.Scan.{row}
use Rattle.rows.proofs.ScanLaws.{scan_same}
use Rattle.lists.specs.Runs.{runs_of}
use Rattle.quantities.specs.declared.Parameters.{Parameters}
use Rattle.quantities.specs.declared.Node.{Node}
use Rattle.frames.specs.Spelling.{upper, in_upper}
use Rattle.frames.specs.Frames.{byte_of}
use Rattle.frames.specs.Reading.{float}
use Rattle.frames.proofs.SpellingLaws.{value_upper, line_at_upper, starts_upper}
use Rattle.faults.proofs.SpellingLaws.{line_fault_upper}
use Rattle.surge.specs.declared.Clock.{Clock}
use Rattle.mesh.specs.Lent.{Mesh, N, E}
use Rattle.areas.specs.Areas.{sum_d}
use Rattle.limits.specs.Limits.{in_bounds}
use Rattle.editions.specs.Lines.{Edition, edition1, edition2, layout_at, node_line, line_count, edition_of}
use Rattle.editions.specs.Rows.{row23, row25}
use Rattle.loads.specs.Load.{line_in, line_rows, trailing_row, clock_in, node_in, row10_in, rows_in, load_answer, state_in, load_of}

-- the edition is told by two digits that have no case
edition_upper : (t : List ℕ) → edition_of (in_upper t) ≡ edition_of t
edition_upper t = ap (λ (b : Bool). cond b edition1 edition2) (starts_upper 48 49 (lit< tt) (lit< tt) t)

counts_upper : (n e : ℕ) (line : List ℕ) (kind j : ℕ) → row23 n e (in_upper line) kind j ≡ row23 n e line kind j
unfolding row23
counts_upper n e line kind j = rw (value_upper line 3 2, value_upper line 5 2)

settings_upper : (p : Parameters) (sum : ℕ) (line : List ℕ) (kind j : ℕ) → row25 p sum (in_upper line) kind j ≡ row25 p sum line kind j
unfolding row25
settings_upper p sum line kind j = rw (value_upper line 3 8, value_upper line 11 8, value_upper line 19 8, value_upper line 27 8, value_upper line 35 8)

module _ (d : Edition) (n : ℕ) (t : List ℕ) where
  rows_upper : (e sum : ℕ) (p : Parameters) (j : ℕ) → line_rows d n (in_upper t) e sum p j ≡ line_rows d n t e sum p j
  unfolding line_rows
  rows_upper e sum p j =
      let kind = (layout_at d n j).kind in
      rw (
        line_fault_upper (layout_at d n) t j,
        line_at_upper (layout_at d n) t j,
        counts_upper n e (line_in d n t j) kind j,
        settings_upper p sum (line_in d n t j) kind j,
      )

  clock_upper : clock_in d n (in_upper t) ≡ clock_in d n t
  unfolding clock_in
  clock_upper = rw (line_at_upper (layout_at d n) t 0, value_upper (line_in d n t 0) 7 4)

  float_upper : (j at : ℕ) → float (line_in d n (in_upper t) j) at ≡ float (line_in d n t j) at
  float_upper j at = rw (line_at_upper (layout_at d n) t j, value_upper (line_in d n t j) at 8)

  node_upper : (h : List Float) (i : ℕ) → node_in d n (in_upper t) h i ≡ node_in d n t h i
  unfolding node_in
  node_upper h i =
      λ q. record {
        h = get_or h i nan;
        earlier = float_upper (node_line d i) (byte_of d.node.widths 0) q;
        z = float_upper (node_line d i) (byte_of d.node.widths 1) q;
        u = float_upper (node_line d i) (byte_of d.node.widths 2) q;
        v = float_upper (node_line d i) (byte_of d.node.widths 3) q;
        wx = float_upper (d.wind_line i) d.wind_byte q;
        wy = float_upper (d.wind_line i) (8 + d.wind_byte) q;
      }

  state_upper : (h : List Float) → state_in d n (in_upper t) h ≡ state_in d n t h
  unfolding state_in
  state_upper h =
      ap (λ (c : ℕ → Node). runs_of n ((λ i. (c i).earlier) ∷ (λ i. (c i).z) ∷ (λ i. (c i).u) ∷ (λ i. (c i).v) ∷ (λ i. (c i).wx) ∷ (λ i. (c i).wy) ∷ []))
      (λ q i. node_upper h i q)

  text_upper : (e sum : ℕ) (p : Parameters) (h : List Float) → rows_in d n (in_upper t) e sum p h ≡ rows_in d n t e sum p h
  unfolding rows_in trailing_row
  text_upper e sum p h =
      let lines = scan_same (line_rows d n (in_upper t) e sum p) (line_rows d n t e sum p) (line_count d n) (λ j _. rows_upper e sum p j) in
      let bounds = scan_same (row10_in d n (in_upper t) h) (row10_in d n t h) n (λ i _. ap (λ (c : Node). row (in_bounds c) 10 i) (node_upper h i)) in
      rw (lines, length-map t upper, bounds)

module _ (m : Mesh) (p : Parameters) (t : List ℕ) (state : List Float) where
  answer_upper : load_answer m p (in_upper t) state ≡ load_answer m p t state
  unfolding load_answer
  answer_upper = rw (edition_upper t, text_upper (edition_of t) (N m) t (E m) (sum_d m) p m.h)

  pub load_upper : (k : Clock) → load_of m p (in_upper t) state k ≡ load_of m p t state k
  unfolding load_of
  load_upper k = rw (answer_upper, edition_upper t, clock_upper (edition_of t) (N m) t, state_upper (edition_of t) (N m) t m.h)
