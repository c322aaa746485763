-- What a call answers and finds, from what it has seen and what its record says.
use Prim.Native.Nat.{ℕ, ◌/◌, ◌≤◌, ◌<◌}
use mathlib.Core.Path.{◌≡◌, refl, sym, ap, subst, ◌∙◌}
use mathlib.Core.Bool.{Bool, true, false, cond}
use mathlib.Core.List.{List}
use native.Mathlib.Omega.{arith}
use borrow.Author.Tests.{le-leb, leb-true}
use lib.Dec.{ltb, leb}
use lib.IntN.{pos}
use lib.ListN.{length, get_or}
use lib.Ieee.{Float, nan}
use Rattle.std.specs.Prelude.{Option, Some, None, ok_or, Result, Ok, Err}
use Rattle.std.specs.Result.{result_and, result_unwrap_or}
use Rattle.rows.specs.declared.Answer.{Answer}
use Rattle.rows.specs.Numbers.{plus0}
use Rattle.rows.specs.declared.Refusal.{Refusal}
use Rattle.rows.specs.Scan.{accepted, refused, row, ◌then◌, scan}
use Rattle.rows.specs.Refusals.{answered}
use Rattle.rows.proofs.ScanLaws.{row_holds, row_fails, then_stop, then_first, then_rest, then_same, scan_same}
use Rattle.rows.proofs.RefusalLaws.{refuses}
use Rattle.lists.proofs.TableLaws.{get_d_table}
use Rattle.crossing.specs.Crossing.{signed}
use Rattle.location.specs.declared.Points.{Points}
use Rattle.location.specs.declared.seeking.Point.{Point}
use Rattle.location.specs.Survey.{Sightings, most, point_of}
use Rattle.keeping.specs.declared.Mark.{Mark}
use Rattle.keeping.specs.Record.{east_field, north_field, field_in, count_in, point_in, points_in, mark_in, row43}
use Rattle.keeping.specs.Keeping as Keeping
use Rattle.keeping.specs.Keeping.{number_rows, given_of}
use Rattle.keeping.proofs.RecordLaws.{count_most, if_refused, if_accepted_lem, update_same}
use Rattle.looking.specs.Lent.{Lent, lent_rows}
use Rattle.looking.specs.declared.Sight.{Sight}
use Rattle.looking.specs.Looking.{look_of, found_in, sight_of, triangle_at, level_at}
use Rattle.looking.proofs.LookLaws.{look_on, elements_length, look_answer, triangle_seen, level_seen}
use Rattle.gauges.specs.Calls.{point, given, row40, located, located_by, locate_answer, locate_of, measured, measured_by, elevation_answer, elevation_of, all_on, update_of, mark, peaked, peaked_by, peak_of}

module _ (b : Lent) (q : Point) {a : Answer} (e : a ≡ locate_answer b q) where
  pub locate_refused : (a.number ≡ 0 → ⊥) → located a 0 ≡ locate_of b q
  unfolding locate_of
  locate_refused h = λ i. located (e i) (if_refused e (triangle_at b q) 0 h i)

  pub locate_accepted : {t : ℕ} → a.number ≡ 0 → t ≡ triangle_at b q → located a t ≡ locate_of b q
  unfolding locate_of
  locate_accepted h v = λ i. located (e i) (if_accepted_lem e (triangle_at b q) 0 h v i)

module _ (b : Lent) (r : List ℕ) (g : ℕ) {a : Answer} (e : a ≡ elevation_answer b r g) where
  pub elevation_refused : (a.number ≡ 0 → ⊥) → measured a plus0 ≡ elevation_of b r g
  unfolding elevation_of
  elevation_refused h = λ i. measured (e i) (if_refused e (level_at b (point_in r g)) plus0 h i)

  pub elevation_accepted : {l : Float} → a.number ≡ 0 → l ≡ level_at b (point_in r g) → measured a l ≡ elevation_of b r g
  unfolding elevation_of
  elevation_accepted h v = λ i. measured (e i) (if_accepted_lem e (level_at b (point_in r g)) plus0 h v i)

module _ (r : List ℕ) (g : ℕ) {a : Answer} (e : a ≡ number_rows r g) where
  pub peak_refused : (a.number ≡ 0 → ⊥) → peaked a (mark 0 plus0 0) ≡ peak_of r g
  unfolding peak_of
  peak_refused h = λ i. peaked (e i) (if_refused e (mark_in r g) (mark 0 plus0 0) h i)

  pub peak_accepted : {k : Mark} → a.number ≡ 0 → k ≡ mark_in r g → peaked a k ≡ peak_of r g
  unfolding peak_of
  peak_accepted h v = λ i. peaked (e i) (if_accepted_lem e (mark_in r g) (mark 0 plus0 0) h v i)

-- ---- a refusal stands before what follows
pub halts : (x : Refusal) {a : Answer} (rest : Answer) → answered (Err x) ≡ a → answered (Err x) ≡ (a then rest)
halts x {a} rest says = says ∙ sym (then_stop a rest (refuses x says))

-- ---- row 40 of what was seen at a point
module _ (b : Lent) (q : Point) (place : ℕ) (none : Refusal) (said : answered (Err none) ≡ refused 40 place) where
  pub row_40 : (o : Option Sight) {r : Result Sight Refusal} → found_in b (Ok o) ≡ sight_of b q → r ≡ ok_or o none → answered (result_and r (Ok tt)) ≡ row40 b q place
  unfolding row40
  row_40 (Some s) e d = ap (λ (r : Result Sight Refusal). answered (result_and r (Ok tt))) d ∙ sym (row_holds 40 place (sym (look_on b q (Some s) e)))
  row_40 None e d = ap (λ (r : Result Sight Refusal). answered (result_and r (Ok tt))) d ∙ said ∙ sym (row_fails 40 place (sym (look_on b q None e)))

-- ---- what a call hands back
pub located_back : (f : Result ℕ Refusal) {t : ℕ} → t ≡ result_unwrap_or f 0 → located (answered (result_and f (Ok tt))) t ≡ located_by f
located_back (Ok v) e = ap (located accepted) e
located_back (Err x) e = ap (located (answered (Err x))) e

pub given_back : (f : Result ℕ Refusal) {g : ℕ} → g ≡ result_unwrap_or f 0 → given (answered (result_and f (Ok tt))) g ≡ given_of f
given_back (Ok v) e = ap (given accepted) e
given_back (Err x) e = ap (given (answered (Err x))) e

pub measured_back : (f : Result Float Refusal) {v : Float} → v ≡ result_unwrap_or f plus0 → measured (answered (result_and f (Ok tt))) v ≡ measured_by f
measured_back (Ok v) e = ap (measured accepted) e
measured_back (Err x) e = ap (measured (answered (Err x))) e

pub peaked_back : (f : Result Mark Refusal) {k : Mark} → k ≡ result_unwrap_or f (mark 0 plus0 0) → peaked (answered (result_and f (Ok tt))) k ≡ peaked_by f
peaked_back (Ok v) e = ap (peaked accepted) e
peaked_back (Err x) e = ap (peaked (answered (Err x))) e

-- ---- an update: what was seen at the points of a record
pub few_points : (r : List ℕ) {ps : Points} → ps ≡ points_in r → ps.count ≤ most
unfolding points_in
few_points r e = subst (λ (n : ℕ). n ≤ most) (sym (ap (λ (v : Points). v.count) e)) (go (leb (count_in r) most) refl)
  where
    go : (few : Bool) → leb (count_in r) most ≡ few → cond few (count_in r) 0 ≤ most
    go true h = leb-true (count_in r) most h
    go false h = omega arith

module _ (b : Lent) (r : List ℕ) {ps : Points} {s : Sightings} (ep : ps ≡ points_in r) (es : s ≡ look_of b ps) where
  asked : s.answer ≡ lent_rows b
  asked = look_answer b ps es

  module _ (ok : (lent_rows b).number ≡ 0) (fine : (row43 r).number ≡ 0) where
    counted : ps.count ≡ count_in r
    unfolding points_in
    counted = ap (λ (v : Points). v.count) ep ∙ ap (λ (few : Bool). cond few (count_in r) 0) (le-leb (count_in r) most (count_most r fine))

    accepts : s.answer.number ≡ 0
    accepts = ap (λ (a : Answer). a.number) asked ∙ ok

    module _ (g : ℕ) (l : g < count_in r) where
      most_gauges : g < most
      most_gauges = omega (arith, l, count_most r fine)

      its_point : point_of ps g ≡ point_in r g
      unfolding points_in point_in
      its_point =
          ap (λ (v : Points). point_of v g) ep
          ∙ (λ i. point (get_d_table most (λ k. signed (field_in r east_field k)) g (pos 0) most_gauges i)
          (get_d_table most (λ k. signed (field_in r north_field k)) g (pos 0) most_gauges i))

      its_triangle : get_or s.triangle g 0 ≡ triangle_at b (point_in r g)
      its_triangle = triangle_seen b ps es accepts g (omega (arith, l, counted)) most_gauges ∙ ap (triangle_at b) its_point

      its_level : get_or s.level g nan ≡ level_at b (point_in r g)
      its_level = level_seen b ps es accepts g (omega (arith, l, counted)) most_gauges ∙ ap (level_at b) its_point

    abbrev on_row : ℕ → Answer
    on_row g = row (ltb (get_or s.triangle g 0) (length b.tri / 2 / 3)) 40 g

    on_rows : scan on_row ps.count ≡ all_on b r
    unfolding all_on row40
    on_rows =
        ap (scan on_row) counted
        ∙ scan_same _ _ (count_in r) (λ g l. λ i. row (ltb (its_triangle g l i) (sym (elements_length 2 (λ n. n) b.tri) i / 3)) 40 g)

  module _ {also : Answer} (ea : also ≡ scan (λ g. row (ltb (get_or s.triangle g 0) (length b.tri / 2 / 3)) 40 g) ps.count) (step : ℕ) where
    answers : (s.answer then row43 r then also) ≡ (lent_rows b then row43 r then all_on b r)
    answers =
        ap (λ (a : Answer). a then row43 r then also) asked
        ∙ then_same (lent_rows b) _ _ (λ ok. then_same (row43 r) _ _ (λ fine. ea ∙ on_rows ok fine))

    pub update_seen : Keeping.update_of s.answer also (λ g. get_or s.level g nan) step r ≡ update_of b r step
    unfolding update_of
    update_seen =
        update_same _ _ _ _ _ _ step r answers
        (λ ok.
        let first = ap (λ (a : Answer). a.number) (sym asked) ∙ then_first s.answer _ ok in
        its_level first (then_first (row43 r) _ (then_rest s.answer _ ok)))
