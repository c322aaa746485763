-- What a line that was accepted fills, and rooms that are filled place by place.
use Rattle.std.proofs.Common.{◌≡◌, ℕ, ◌+◌, ◌-◌, ◌*◌, ◌/◌, ◌%◌, ◌<◌, ◌≤◌, Bool, true, ◌&&◌, leb, List, length, set, ℤ, sym, refl, ap, ◌∙◌, arith, leb-true, true≢false}
use Rattle.std.specs.Prelude.{Option, Some, None, IsSome, MatchOption}
use lib.Ieee.{of_int, binary64}
use Rattle.rows.specs.declared.Answer.{Answer}
use Rattle.rows.specs.Numbers.{decimal}
use Rattle.rows.proofs.ScanLaws.{row_passed, then_first, then_rest, both_left, both_right}
use Rattle.quantities.specs.Operations.{◌⊘◌}
use Rattle.lists.specs.Private.{up_to}
use Rattle.lists.proofs.TableLaws.{fill_more}
use Rattle.grids.specs.Text.{line_of, fields_of, field_of, exactly}
use Rattle.grids.specs.Numbers.{number_of, signed, is_minus, unsigned, whole_of, in32, is_short, thousandths_of, depth_of, after_first}
use Rattle.grids.specs.Grid.{node_tests, node_line_rows, is_corner, triangle_tests, triangle_line_rows, corner_in}
use Rattle.grids.specs.Private.{capped, present, after_lines, its, NoLine, NodeSeen, TriangleSeen}
use Rattle.grids.specs.declared.entries.NodeLine.{NodeLine}
use Rattle.grids.specs.declared.entries.TriangleLine.{TriangleLine}
use Rattle.grids.proofs.SignLaws.{size_32}
use Rattle.grids.proofs.TextLaws.{line_at, after_more}

-- ---- the line that is read is line i of what the lines started from
module _ (i : ℕ) (u : List ℕ) {left : List ℕ} (at : left ≡ after_lines i u) where
  pub here : present left ≡ line_of u i
  here = ap present at ∙ sym (line_at i u)

  pub here_accepts : (rows : ℕ → List ℕ → Answer) → (rows i (line_of u i)).number ≡ 0 → (rows i (present left)).number ≡ 0
  here_accepts rows e = ap (λ (l : List ℕ). (rows i l).number) here ∙ e

  pub here_after : {next : List ℕ} → next ≡ after_first 10 left → next ≡ after_lines (i + 1) u
  here_after e = e ∙ ap (after_first 10) at ∙ sym (after_more i u)

exact : (m : Bool) (v : ℕ) → in32 (signed m v) ≡ true → capped v ≡ v
exact m v e = omega (arith, size_32 m v e)

-- a whole number that was read is the number itself, where that is in its range
whole_value : {m : Bool} {v : ℕ} (f : List ℕ) → m ≡ is_minus f → v ≡ capped (number_of (unsigned f)) → in32 (whole_of f) ≡ true → signed m v ≡ whole_of f
whole_value f minus size range = λ j. signed (minus j) ((size ∙ exact (is_minus f) (number_of (unsigned f)) range) j)

-- ---- a line that was accepted is there
pub line_there : {A : Type 0} (tests : List (List ℕ → Bool)) (t : List ℕ) (Its : A → Type 0) (r : Option A) → MatchOption r (NoLine tests t) Its
    → exactly tests (fields_of (present t)) ≡ true → IsSome r
line_there tests t Its None out e = absurd (true≢false (sym e ∙ sym out))
line_there tests t Its (Some r) seen e = refl

pub node_holds : (i : ℕ) (t : List ℕ) → (node_line_rows i (present t)).number ≡ 0 → exactly node_tests (fields_of (present t)) ≡ true
unfolding node_line_rows
node_holds i t ok = row_passed _ 29 (2 + i) (then_first _ _ ok)

pub triangle_holds : (n k : ℕ) (t : List ℕ) → (triangle_line_rows n k (present t)).number ≡ 0 → exactly triangle_tests (fields_of (present t)) ≡ true
unfolding triangle_line_rows
triangle_holds n k t ok = row_passed _ 29 (2 + n + k) (then_first _ _ ok)

-- ---- a node's line
module _ (i : ℕ) {t : List ℕ} {r : NodeLine} {rest : List ℕ} (s : NodeSeen t r rest) (ok : (node_line_rows i (present t)).number ≡ 0) where
  ranges : (in32 (whole_of (its t 1)) && in32 (whole_of (its t 2)) && is_short (its t 3)) ≡ true
  unfolding node_line_rows
  ranges = row_passed _ 31 (2 + i) (then_rest _ _ (then_rest _ _ ok))

  whole_ranges : (in32 (whole_of (its t 1)) && in32 (whole_of (its t 2))) ≡ true
  whole_ranges = both_left _ (is_short (its t 3)) ranges

  x_range : in32 (whole_of (its t 1)) ≡ true
  x_range = both_left _ (in32 (whole_of (its t 2))) whole_ranges

  y_range : in32 (whole_of (its t 2)) ≡ true
  y_range = both_right (in32 (whole_of (its t 1))) _ whole_ranges

  pub x_value : signed r.x.minus r.x.size ≡ whole_of (its t 1)
  x_value = whole_value (its t 1) s.x_minus s.x_size x_range

  pub y_value : signed r.y.minus r.y.size ≡ whole_of (its t 2)
  y_value = whole_value (its t 2) s.y_minus s.y_size y_range

  pub x_fits : in32 (signed r.x.minus r.x.size) ≡ true
  x_fits = ap in32 x_value ∙ x_range

  pub y_fits : in32 (signed r.y.minus r.y.size) ≡ true
  y_fits = ap in32 y_value ∙ y_range

  pub h_value : of_int binary64 (signed r.h.minus r.h.size) ⊘ decimal 1000 1 ≡ depth_of (its t 3)
  unfolding depth_of thousandths_of
  h_value =
      let short = s.h_short ∙ both_right (in32 (whole_of (its t 1)) && in32 (whole_of (its t 2))) _ ranges in
      ap (λ (z : ℤ). of_int binary64 z ⊘ decimal 1000 1) (λ j. signed (s.h_minus j) (s.h_size short j))

  pub node_after : rest ≡ after_first 10 t
  node_after = s.seen.after refl

-- ---- a triangle's line
corner_range : (v : ℕ) → is_corner v ≡ true → (1 ≤ v) × (v ≤ 65536)
corner_range v e = (leb-true 1 v (both_left _ (leb v 65536) e), leb-true v 65536 (both_right (leb 1 v) _ e))

module _ (n k : ℕ) {t : List ℕ} {r : TriangleLine} {rest : List ℕ} (s : TriangleSeen t r rest) (ok : (triangle_line_rows n k (present t)).number ≡ 0) where
  corners : (is_corner (number_of (its t 2)) && is_corner (number_of (its t 3)) && is_corner (number_of (its t 4))) ≡ true
  unfolding triangle_line_rows
  corners = row_passed _ 31 (2 + n + k) (then_rest _ _ (then_rest _ _ ok))

  two_corners : (is_corner (number_of (its t 2)) && is_corner (number_of (its t 3))) ≡ true
  two_corners = both_left _ (is_corner (number_of (its t 4))) corners

  -- a corner that was read is the number itself, and is in its range
  its_corner : (v : ℕ) {w : ℕ} → is_corner v ≡ true → w ≡ capped v → (w ≡ v) × ((1 ≤ w) × (w ≤ 65536))
  its_corner v e is = let range = corner_range v e in (omega (arith, is, range.1), (omega (arith, is, range.0, range.1), omega (arith, is, range.1)))

  pub first_corner : (r.first ≡ number_of (its t 2)) × ((1 ≤ r.first) × (r.first ≤ 65536))
  first_corner = its_corner (number_of (its t 2)) (both_left _ (is_corner (number_of (its t 3))) two_corners) s.first

  pub second_corner : (r.second ≡ number_of (its t 3)) × ((1 ≤ r.second) × (r.second ≤ 65536))
  second_corner = its_corner (number_of (its t 3)) (both_right (is_corner (number_of (its t 2))) _ two_corners) s.second

  pub third_corner : (r.third ≡ number_of (its t 4)) × ((1 ≤ r.third) × (r.third ≤ 65536))
  third_corner = its_corner (number_of (its t 4)) (both_right (is_corner (number_of (its t 2)) && is_corner (number_of (its t 3))) _ corners) s.third

  pub triangle_after : rest ≡ after_first 10 t
  triangle_after = s.seen.after refl

-- ---- three places to a triangle
module _ (k : ℕ) (f : ℕ → ℕ) (l₀ : List ℕ) {l : List ℕ} (filled : l ≡ up_to (3 * k) f l₀) (h : 3 * k + 2 < length l₀) where
  pub three_more : {a b c : ℕ} → a ≡ f (3 * k + 0) → b ≡ f (3 * k + 1) → c ≡ f (3 * k + 2)
      → set (set (set l (3 * k + 0) a) (3 * k + 1) b) (3 * k + 2) c ≡ up_to (3 * (k + 1)) f l₀
  three_more {a} {b} {c} ea eb ec =
      let first : set l (3 * k + 0) a ≡ up_to (3 * k + 1) f l₀ =
      fill_more (3 * k + 0) f l₀ (filled ∙ to (3 * k) (3 * k + 0) (omega arith)) (omega arith) ea ∙ to (3 * k + 0 + 1) (3 * k + 1) (omega arith) in
      let second : set (set l (3 * k + 0) a) (3 * k + 1) b ≡ up_to (3 * k + 2) f l₀ =
      fill_more (3 * k + 1) f l₀ first (omega arith) eb ∙ to (3 * k + 1 + 1) (3 * k + 2) (omega arith) in
      fill_more (3 * k + 2) f l₀ second h ec ∙ to (3 * k + 2 + 1) (3 * (k + 1)) (omega arith)
    where
      to : (m n : ℕ) → m ≡ n → up_to m f l₀ ≡ up_to n f l₀
      to m n e = ap (λ (n : ℕ). up_to n f l₀) e

pub corner_place : (u : List ℕ) (k j : ℕ) → j < 3 → {w : ℕ} → w ≡ number_of (field_of (line_of u k) (2 + j)) → w - 1 ≡ corner_in (line_of u) (3 * k + j)
corner_place u k j h e =
    let line : k ≡ (3 * k + j) / 3 = omega arith in
    let place : j ≡ (3 * k + j) % 3 = omega arith in
    (λ i. e i - 1) ∙ (λ i. number_of (field_of (line_of u (line i)) (2 + place i)) - 1)
