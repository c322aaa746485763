-- The product's record of gauges has the laws of a board, so that each gauge has its first highest elevation after any sequence of calls.
use Prim.Native.Nat.{ℕ, ◌<◌}
use mathlib.Core.Path.{◌≡◌, refl, sym, ap, ◌∙◌}
use mathlib.Core.Bool.{Bool, true, false, cond}
use mathlib.Core.List.{List}
use native.Mathlib.Omega.{arith}
use borrow.Author.Tests.{ltb-true, eqb-true, eqb-false, eq-eqb}
use lib.Dec.{T}
use lib.Ieee.{Float, binary64, fits}
use Rattle.rows.specs.Scan.{row, ◌then◌, scan}
use Rattle.rows.proofs.ScanLaws.{row_passed, then_first, then_rest, scan_clean}
use Rattle.frames.specs.Bytes.{number}
use Rattle.crossing.specs.Crossing.{number_at}
use Rattle.location.specs.Survey.{most}
use Rattle.keeping.specs.declared.Mark.{Mark}
use Rattle.keeping.specs.Record.{fresh, count_in, point_in, mark_in, added, keeps, all_noted, row43, row41}
use Rattle.keeping.specs.Keeping.{AddOut, add_answer, UpdateOut}
use Rattle.keeping.specs.Keeping as Keeping
use Rattle.keeping.proofs.RecordLaws.{record_long, count_most, add_refused, update_refused}
use Rattle.boards.proofs.MarkLaws.{row_point, row_mark, added_count, added_mark, added_point, added_other, added_fine, noted_mark, mark, all_count, all_points, all_marks, all_fine}
use Rattle.looking.specs.Lent.{lent_rows}
use Rattle.looking.specs.Looking.{is_on, level_at}
use Rattle.gauges.specs.Calls.{row40, add_of, all_on, update_of}
use Rattle.peaks.specs.Peaks as Peaks
use Rattle.peaks.specs.Peaks.{Reading, marked, Added, Updated, Laws}
use Rattle.peaks.proofs.PeakLaws.{peaks, held_fine}
use Rattle.boards.specs.Gauges.{RecordKept, Asked, Handed, as_mark, board, PeaksAtGauges, OwnRecordsPass}
use Rattle.boards.proofs.LevelProof.{level_fits, level_sized}

-- ---- what a call leaves
pub record_kept : RecordKept
unfolding add_of Keeping.add_of update_of Keeping.update_of
record_kept = record {
  add = λ b r q n. ap (λ (o : AddOut). o.left) (sym (add_refused (lent_rows b) (is_on b q) q r refl n));
  update = λ b r step n. ap (λ (o : UpdateOut). o.left) (sym (update_refused (lent_rows b) (all_on b r) (λ g. level_at b (point_in r g)) step r refl n));
}

-- ---- a fresh record
fresh_count : count_in fresh ≡ 0
unfolding number_at number
fresh_count = refl

fresh_fine : (row43 fresh).number ≡ 0
unfolding row43 row scan ◌then◌ number_at number
fresh_fine = refl

-- ---- a gauge that is added
module _ (r : List ℕ) (q : Asked) (ok : (row43 r).number ≡ 0) where
  abbrev added_left : List ℕ
  added_left = (add_of q.lent r q.spot).left

  module _ (e : (add_of q.lent r q.spot).given.answer.number ≡ 0) where
    add_left : added_left ≡ added q.spot r
    unfolding add_of Keeping.add_of
    add_left = rw (eq-eqb _ _ e)

    add_room : count_in r < most
    unfolding add_of Keeping.add_of add_answer row41
    add_room = ltb-true (count_in r) most (row_passed _ 40 most (then_first _ _ (then_rest _ _ (then_rest _ _ e))))

    add_fine : (row43 added_left).number ≡ 0
    add_fine = rw add_left (added_fine q.spot r ok add_room)

    add_adds : Added board r q.spot added_left
    add_adds =
        let long = record_long r ok in
        rw add_left (record {
          count = added_count q.spot r long add_room;
          point = added_point q.spot r long add_room q.east q.north;
          mark = ap as_mark (added_mark q.spot r long add_room);
          points = λ g l. row_point (added_other q.spot r g (λ z. omega arith));
          marks = λ g l. ap as_mark (row_mark (added_other q.spot r g (λ z. omega arith)));
        })

-- ---- a state that is handed over
as_noted : (k : Mark) (x : Reading) → as_mark (noted_mark k x.level x.step) ≡ Peaks.noted (as_mark k) x
unfolding keeps Peaks.noted
as_noted k x = go (keeps k x.level)
  where
    go : (c : Bool) → as_mark (cond c k (mark 1 x.level x.step)) ≡ cond c (as_mark k) (marked x)
    go true = refl
    go false = refl

module _ (r : List ℕ) (h : Handed) (ok : (row43 r).number ≡ 0) where
  abbrev updated_left : List ℕ
  updated_left = (update_of h.lent r h.step).left

  -- the elevation at each gauge
  abbrev levels : ℕ → Float
  levels g = level_at h.lent (point_in r g)

  levels_fit : (g : ℕ) → T (fits binary64 (levels g))
  levels_fit g = level_fits h.lent (point_in r g)

  module _ (e : (update_of h.lent r h.step).answer.number ≡ 0) where
    update_left : updated_left ≡ all_noted levels h.step (count_in r) r
    unfolding update_of Keeping.update_of
    update_left = rw (eq-eqb _ _ e)

    update_rows : (lent_rows h.lent).number ≡ 0
    unfolding update_of Keeping.update_of
    update_rows = then_first _ _ e

    update_on : (g : ℕ) → g < count_in r → is_on h.lent (point_in r g) ≡ true
    unfolding update_of Keeping.update_of all_on row40
    update_on g l = row_passed _ 39 g (scan_clean _ (count_in r) (then_rest _ _ (then_rest _ _ e)) g l)

    update_fine : (row43 updated_left).number ≡ 0
    update_fine = rw update_left (all_fine levels h.step (count_in r) r ok levels_fit h.small (count_most r ok))

    update_notes : Updated board r h updated_left
    update_notes =
        rw update_left (record {
          count = all_count levels h.step r (count_in r);
          points = λ g l. all_points levels h.step r (count_in r) g;
          marks = λ g l.
              ap as_mark (all_marks levels h.step r (record_long r ok) levels_fit h.small (count_in r) g (count_most r ok) l)
              ∙ as_noted (mark_in r g) (record { level = levels g; step = h.step });
          sized = λ g l. level_sized h.lent (point_in r g) update_rows (update_on g l);
        })

-- ---- the statements
laws : Laws board
laws = record {
  Fine = λ r. (row43 r).number ≡ 0;
  fresh_fine = fresh_fine;
  fresh_count = fresh_count;
  add_accepted = λ r q ok e. let n = eqb-true _ _ e in (add_fine r q ok n, add_adds r q ok n);
  add_refused = λ r q e. record_kept.add q.lent r q.spot (eqb-false _ _ e);
  update_accepted = λ r h ok e. let n = eqb-true _ _ e in (update_fine r h ok n, update_notes r h ok n);
  update_refused = λ r h e. record_kept.update h.lent r h.step (eqb-false _ _ e);
}

pub peaks_at_gauges : PeaksAtGauges
peaks_at_gauges = peaks board laws

pub own_records_pass : OwnRecordsPass
unfolding laws
own_records_pass = held_fine board laws
