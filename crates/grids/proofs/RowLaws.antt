-- The rows of a line, tested on what was read of it: a number that was counted up to the limit answers as the number itself.
use Rattle.std.proofs.Common.{◌≡◌, ℕ, zero, suc, ◌+◌, ◌*◌, ◌^◌, ◌<◌, Bool, true, false, cond, ◌&&◌, eqb, leb, List, sym, refl, ap, ◌∙◌, arith, ne_eqb, le-leb, leb-false, leb-true}
use mathlib.Core.Bool.{and-true, and-false}
use borrow.Author.Tests.{lt-leb}
use lib.Dec.{leb-suc-suc}
use Rattle.std.specs.Prelude.{Result, Err, IsErrAnd}
use Rattle.std.proofs.lemmas.Result.{err_from_is_err_and}
use Rattle.rows.specs.declared.Answer.{Answer}
use Rattle.rows.specs.declared.Refusal.{Refusal}
use Rattle.rows.specs.Scan.{refused, row, ◌then◌}
use Rattle.rows.specs.Refusals.{answered}
use Rattle.rows.proofs.ScanLaws.{row_holds, then_stop, then_next}
use Rattle.rows.proofs.RefusalLaws.{refuses}
use Rattle.grids.specs.Numbers.{number_of, signed, whole_of, unsigned, is_minus, in32}
use Rattle.grids.specs.Grid.{lengths, is_room, count_line_rows, node_line_rows, is_corner, triangle_line_rows}
use Rattle.grids.specs.Private.{most, capped, present, its, CountsSeen, NodeSeen, TriangleSeen, line_answer}
use Rattle.grids.specs.declared.entries.Counts.{Counts}
use Rattle.grids.specs.declared.entries.NodeLine.{NodeLine}
use Rattle.grids.specs.declared.entries.TriangleLine.{TriangleLine}
use Rattle.grids.proofs.LineLaws.{capped_is}

-- ---- the first of a line's rows asks whether the line holds what it is to hold
pub no_line : {test : Bool} (number place : ℕ) (rest : Answer) → false ≡ test → refused (suc number) place ≡ (row test (suc number) place then rest)
unfolding row ◌then◌
no_line number place rest e = rw (← e)

line_held : {test : Bool} (number place : ℕ) {rest : Answer} → true ≡ test → rest ≡ (row test number place then rest)
line_held number place {rest} e = sym (then_next _ rest (ap (λ (a : Answer). a.number) (row_holds number place (sym e))))

-- ---- where the rows of lines are asked by `?`, what it hands back is the refusal
pub line_stands : (q : Result ℕ Refusal) (x : Refusal) {b : Answer} → IsErrAnd q (λ y. y ≡ x) → answered (Err x) ≡ b → line_answer q ≡ b
line_stands q x e says = let p = err_from_is_err_and q e in ap line_answer (p.1 ∙ ap Err p.2) ∙ says

pub line_stopped : (q : Result ℕ Refusal) (x : Refusal) {b : Answer} (rest : Answer) → IsErrAnd q (λ y. y ≡ x) → answered (Err x) ≡ b
    → line_answer q ≡ (b then rest)
line_stopped q x {b} rest e says = line_stands q x e says ∙ sym (then_stop b rest (refuses x says))

-- ---- whole numbers of 32 bits
pub in_32 : (m : Bool) (v : ℕ) → cond m (leb v 2147483648) (leb v 2147483647) ≡ in32 (signed m v)
unfolding in32
in_32 false v = refl
in_32 true zero = refl
in_32 true (suc n) = leb-suc-suc n 2147483647 ∙ sym (and-true (leb n 2147483647))

pub in_32_by : {m : Bool} (b : Bool) (v : ℕ) → m ≡ b → cond b (leb v 2147483648) (leb v 2147483647) ≡ in32 (signed m v)
in_32_by b v e = in_32 b v ∙ ap (λ (m : Bool). in32 (signed m v)) (sym e)

capped_within : (v k : ℕ) → k < most → leb (capped v) k ≡ leb v k
capped_within v k l = go (leb v k) refl
  where
    go : (c : Bool) → leb v k ≡ c → leb (capped v) k ≡ leb v k
    go true e = le-leb (capped v) k (omega (arith, leb-true v k e)) ∙ sym e
    go false e = lt-leb (capped v) k (omega (arith, leb-false v k e)) ∙ sym e

capped_32 : (m : Bool) (v : ℕ) → in32 (signed m (capped v)) ≡ in32 (signed m v)
capped_32 m v =
    sym (in_32 m (capped v))
    ∙ (λ i. cond m (capped_within v 2147483648 (omega arith) i) (capped_within v 2147483647 (omega arith) i))
    ∙ in_32 m v

-- ---- corner numbers
capped_above : (v : ℕ) → leb 1 (capped v) ≡ leb 1 v
capped_above v = go (leb 1 v) refl
  where
    go : (c : Bool) → leb 1 v ≡ c → leb 1 (capped v) ≡ leb 1 v
    go true e = le-leb 1 (capped v) (omega (arith, leb-true 1 v e)) ∙ sym e
    go false e = lt-leb 1 (capped v) (omega (arith, leb-false 1 v e)) ∙ sym e

capped_corner : (v : ℕ) → is_corner (capped v) ≡ is_corner v
capped_corner v = λ i. capped_above v i && capped_within v 65536 (omega arith) i

-- ---- what was read of a field answers as the field does
number_is : {v : ℕ} (w i : ℕ) → 1 + i < most → v ≡ capped w → eqb v (1 + i) ≡ eqb w (1 + i)
number_is w i l e = ap (λ (v : ℕ). eqb v (1 + i)) e ∙ capped_is w (1 + i) l

whole_in : {m : Bool} {v : ℕ} (f : List ℕ) → m ≡ is_minus f → v ≡ capped (number_of (unsigned f)) → in32 (signed m v) ≡ in32 (whole_of f)
whole_in f minus size = (λ j. in32 (signed (minus j) (size j))) ∙ capped_32 (is_minus f) (number_of (unsigned f))

corner_is : {v : ℕ} (w : ℕ) → v ≡ capped w → is_corner v ≡ is_corner w
corner_is w e = ap is_corner e ∙ capped_corner w

-- ---- a node's line
module _ (i : ℕ) {t : List ℕ} {r : NodeLine} {rest : List ℕ} (s : NodeSeen t r rest) (small : i < 2 ^ 60) where
  abbrev node_tested : Answer
  node_tested =
      row (eqb r.number (1 + i)) 31 (2 + i) then row (in32 (signed r.x.minus r.x.size) && in32 (signed r.y.minus r.y.size) && r.h.short) 32 (2 + i)

  pub node_row : node_tested ≡ node_line_rows i (present t)
  unfolding node_line_rows
  node_row =
      (λ j.
      row (number_is (number_of (its t 0)) i (omega arith) s.number j) 31 (2 + i)
      then row (whole_in (its t 1) s.x_minus s.x_size j && whole_in (its t 2) s.y_minus s.y_size j && s.h_short j) 32 (2 + i))
      ∙ line_held 30 (2 + i) s.seen.holds

-- ---- a triangle's line
module _ (n k : ℕ) {t : List ℕ} {r : TriangleLine} {rest : List ℕ} (s : TriangleSeen t r rest) (small : 3 * k < 2 ^ 62) where
  abbrev triangle_tested : Answer
  triangle_tested = row (eqb r.number (1 + k)) 31 (2 + n + k) then row (is_corner r.first && is_corner r.second && is_corner r.third) 32 (2 + n + k)

  pub triangle_row : triangle_tested ≡ triangle_line_rows n k (present t)
  unfolding triangle_line_rows
  triangle_row =
      (λ j.
      row (number_is (number_of (its t 0)) k (omega arith) s.number j) 31 (2 + n + k)
      then row (corner_is (number_of (its t 2)) s.first j && corner_is (number_of (its t 3)) s.second j && corner_is (number_of (its t 4)) s.third j) 32
      (2 + n + k))
      ∙ line_held 30 (2 + n + k) s.seen.holds

-- ---- the second line
room_is : (x y h tri n e : ℕ) → h < 2 ^ 60 → tri < 2 ^ 62
    → (eqb x (capped n) && eqb y (capped n) && eqb h (capped n) && eqb tri (3 * capped e)) ≡ is_room (lengths x y h tri) n e
unfolding is_room
room_is x y h tri n e few small = nodes (leb most n) refl
  where
    triangles : (c : Bool) → leb most e ≡ c → eqb tri (3 * capped e) ≡ eqb tri (3 * e)
    triangles true q =
        let l = leb-true most e q in
        ne_eqb tri (3 * capped e) (λ p. absurd (omega (arith, l, p))) ∙ sym (ne_eqb tri (3 * e) (λ p. absurd (omega (arith, l, p))))
    triangles false q = ap (λ (v : ℕ). eqb tri v) (omega (arith, leb-false most e q))

    nodes : (c : Bool) → leb most n ≡ c
        → (eqb x (capped n) && eqb y (capped n) && eqb h (capped n) && eqb tri (3 * capped e)) ≡ (eqb x n && eqb y n && eqb h n && eqb tri (3 * e))
    nodes true q =
        let l = leb-true most n q in
        let a = ne_eqb h (capped n) (λ p. absurd (omega (arith, l, p))) in
        let b = ne_eqb h n (λ p. absurd (omega (arith, l, p))) in
        rw (a, b, and-false (eqb x (capped n) && eqb y (capped n)), and-false (eqb x n && eqb y n))
    nodes false q =
        let same : capped n ≡ n = omega (arith, leb-false most n q) in
        rw same (ap (λ (d : Bool). eqb x n && eqb y n && eqb h n && d) (triangles (leb most e) refl))

module _ (x y h tri : ℕ) {t : List ℕ} {r : Counts} {rest : List ℕ} (s : CountsSeen t r rest) (few : h < 2 ^ 60) (small : tri < 2 ^ 62) where
  abbrev counts_tested : Answer
  counts_tested = row (eqb x r.n && eqb y r.n && eqb h r.n && eqb tri (3 * r.e)) 33 1

  pub counts_row : counts_tested ≡ count_line_rows (lengths x y h tri) (present t)
  unfolding count_line_rows
  counts_row =
      ap (λ (b : Bool). row b 33 1)
      ((λ j. eqb x (s.n j) && eqb y (s.n j) && eqb h (s.n j) && eqb tri (3 * s.e j))
      ∙ room_is x y h tri (number_of (its t 1)) (number_of (its t 0)) few small)
      ∙ line_held 30 1 s.seen.holds
