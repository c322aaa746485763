-- Document 02, #106: "It also keeps, per gauge, the highest elevation so far and the first step that had it, for at most 64 gauges. The record is 1,345
-- bytes, all zero when fresh: gauge count, then 64 rows of x, y (4 each), seen (1), peak (8), step (4)."
use Rattle.std.specs.Prelude.{ℕ, zero, suc, ◌+◌, ◌*◌, Bool, not, ◌&&◌, cond, List, eqb, leb, ltb, length, replicate, Float}
use Rattle.std.specs.Float.{binary64}
use Rattle.std.specs.Float.Ieee.{of_bits, to_bits, le}
use Rattle.rows.specs.declared.Answer.{Answer}
use Rattle.rows.specs.Numbers.{plus0}
use Rattle.rows.specs.Scan.{row, ◌then◌, scan}
use Rattle.crossing.specs.Crossing.{number_at, written_at, signed, unsigned}
use Rattle.lists.specs.Table.{table}
use Rattle.location.specs.declared.seeking.Point.{Point}
use Rattle.location.specs.declared.Points.{Points}
use Rattle.location.specs.Survey.{most}
use Rattle.keeping.specs.declared.Mark.{Mark}

-- ---- the layout, which writing and reading share: the count's byte, then the rows; a field of a row by where it starts there and how many bytes it has
pub record Field : Type 0 where
  pub offset : ℕ
  pub width : ℕ

abbrev pub field : ℕ → ℕ → Field
field offset width = record { offset = offset; width = width }

abbrev pub east_field : Field
east_field = field 0 4

abbrev pub north_field : Field
north_field = field 4 4

abbrev pub seen_field : Field
seen_field = field 8 1

abbrev pub peak_field : Field
peak_field = field 9 8

abbrev pub step_field : Field
step_field = field 17 4

abbrev pub row_bytes : ℕ
row_bytes = 21

abbrev pub record_bytes : ℕ
record_bytes = 1345

-- where a field of row g starts
abbrev pub place_of : Field → ℕ → ℕ
place_of f g = 1 + row_bytes * g + f.offset

abbrev pub field_in : List ℕ → Field → ℕ → ℕ
field_in b f g = number_at b (place_of f g) f.width

abbrev pub with_field : Field → ℕ → ℕ → List ℕ → List ℕ
with_field f g v b = written_at b (place_of f g) f.width v

-- "all zero when fresh"
abbrev pub fresh : List ℕ
fresh = replicate record_bytes 0

-- ---- what a record holds
abbrev pub count_in : List ℕ → ℕ
count_in b = number_at b 0 1

unfoldable pub point_in : List ℕ → ℕ → Point
point_in b g = record { x = signed (field_in b east_field g); y = signed (field_in b north_field g) }

-- the points of its gauges; none where the count is above 64
unfoldable pub points_in : List ℕ → Points
points_in b = record {
  count = cond (leb (count_in b) most) (count_in b) 0;
  x = table most (λ g. signed (field_in b east_field g));
  y = table most (λ g. signed (field_in b north_field g));
}

unfoldable pub mark_in : List ℕ → ℕ → Mark
mark_in b g = record { seen = field_in b seen_field g; peak = of_bits binary64 (field_in b peak_field g); step = field_in b step_field g }

-- ---- what is written into it
-- seen, and this elevation and step
unfoldable pub with_mark : ℕ → ℕ → Float → ℕ → List ℕ → List ℕ
with_mark g seen peak step b = with_field step_field g step (with_field peak_field g (to_bits binary64 peak) (with_field seen_field g seen b))

unfoldable pub with_point : ℕ → Point → List ℕ → List ℕ
with_point g q b = with_field north_field g (unsigned q.y) (with_field east_field g (unsigned q.x) b)

-- a gauge more: its row is not seen, and the count is one more
unfoldable pub added : Point → List ℕ → List ℕ
added q b = let g = count_in b in written_at (with_mark g 0 plus0 0 (with_point g q b)) 0 1 (g + 1)

-- "the highest elevation so far and the first step that had it …, and an equal elevation doesn't replace the first"
unfoldable pub keeps : Mark → Float → Bool
keeps k level = not (eqb k.seen 0) && le level k.peak

unfoldable pub noted : ℕ → Float → ℕ → List ℕ → List ℕ
noted g level step b = cond (keeps (mark_in b g) level) b (with_mark g 1 level step b)

-- "Each state handed over updates every gauge": the gauges below g have noted their elevations
unfoldable pub all_noted : (ℕ → Float) → ℕ → ℕ → List ℕ → List ℕ
all_noted level step zero b = b
all_noted level step (suc g) b = noted g (level g) step (all_noted level step g b)

-- ---- its refusals
-- "43 for a record of another length, count above 64 or seen above 1"
unfoldable pub row43 : List ℕ → Answer
row43 b = row (eqb (length b) record_bytes && leb (count_in b) most) 43 0 then scan (λ g. row (leb (field_in b seen_field g) 1) 43 g) most

-- "then 41 for a 65th gauge"
unfoldable pub row41 : List ℕ → Answer
row41 b = row (ltb (count_in b) most) 41 most

-- "then 42 for a gauge number not yet given out"
unfoldable pub row42 : List ℕ → ℕ → Answer
row42 b g = row (ltb g (count_in b)) 42 g
