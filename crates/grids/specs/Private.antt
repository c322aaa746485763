-- What is read of a text from one of its bytes on, for laws and for the contracts of private functions. No public contract cites it.
use Rattle.std.specs.Prelude.{◌≡◌, ℕ, zero, suc, ◌+◌, ◌-◌, ◌*◌, ◌^◌, ◌≤◌, min, Bool, true, false, cond, ◌&&◌, ◌||◌, List, [], ◌∷◌, length, drop, ℤ, ◌==◌, nat_lt, Result, Ok, Err, Float}
use Rattle.rows.specs.declared.Answer.{Answer}
use Rattle.rows.specs.declared.Refusal.{Refusal}
use Rattle.rows.specs.Scan.{accepted}
use Rattle.rows.specs.Refusals.{answered}
use Rattle.lists.specs.Table.{table}
use Rattle.grids.specs.Text.{line_of, fields_of, field_of, exactly}
use Rattle.grids.specs.Numbers.{is_digit, is_number, number_of, is_minus, unsigned, is_whole, before_first, after_first, is_depth, is_short, size_of}
use Rattle.grids.specs.Grid.{count_tests, node_tests, triangle_tests, x_in, y_in, h_in}
use Rattle.grids.specs.declared.scanning.Gap.{Gap}
use Rattle.grids.specs.declared.scanning.Digits.{Digits}
use Rattle.grids.specs.declared.fields.Depth.{Depth}
use Rattle.grids.specs.declared.entries.Counts.{Counts}
use Rattle.grids.specs.declared.entries.NodeLine.{NodeLine}
use Rattle.grids.specs.declared.entries.TriangleLine.{TriangleLine}

-- ---- bytes at the front of what is left
unfoldable pub unspaced : List ℕ → List ℕ
unspaced [] = []
unspaced (b ∷ t) = cond (b == 32) (unspaced t) (b ∷ t)

unfoldable pub digits_of : List ℕ → List ℕ
digits_of [] = []
digits_of (b ∷ t) = cond (is_digit b) (b ∷ digits_of t) []

-- a field ends here; the line ends here
unfoldable pub is_end : List ℕ → Bool
is_end [] = true
is_end (b ∷ t) = b == 32 || b == 10

unfoldable pub is_line_end : List ℕ → Bool
is_line_end [] = true
is_line_end (b ∷ t) = b == 10

-- ---- a number is counted up to a limit, which is above every number that is compared with it
abbrev pub most : ℕ
most = 1800000000000000000

unfoldable pub capped_from : ℕ → List ℕ → ℕ
capped_from v [] = v
capped_from v (b ∷ t) = capped_from (min (10 * v + (b - 48)) most) t

abbrev pub capped : ℕ → ℕ
capped v = min v most

-- ---- the byte that stands first: where nothing is left, a line ends as at a line feed
unfoldable pub front : List ℕ → ℕ
front [] = 10
front (b ∷ t) = b

-- ---- spaces and digits were read from a byte of a text on; the digits go on from the value v
pub record GapSeen (text : List ℕ) (from : ℕ) (r : Gap) : Type 0 where
  pub left : drop r.end text ≡ unspaced (drop from text)
  pub stop : r.stop ≡ front (drop r.end text)
  pub within : r.end ≤ length text

pub record DigitsSeen (text : List ℕ) (from v : ℕ) (r : Digits) : Type 0 where
  pub value : r.value ≡ capped_from v (digits_of (drop from text))
  pub end : r.end ≡ from + length (digits_of (drop from text))
  pub stop : r.stop ≡ front (drop r.end text)
  pub within : r.end ≤ length text

-- the digits from `first` on end as a field does, and there are some
abbrev pub closed : ℕ → Digits → Bool
closed first r = nat_lt first r.end && (r.stop == 32 || r.stop == 10)

-- ---- lines: what is left of the present line, and what stands after k lines
abbrev pub present : List ℕ → List ℕ
present t = before_first 10 t

unfoldable pub after_lines : ℕ → List ℕ → List ℕ
after_lines zero t = t
after_lines (suc k) t = after_lines k (after_first 10 t)

-- ---- a field was read: t is what was left before it, `rest` what is left after it
abbrev pub first : List ℕ → List ℕ
first t = field_of (present t) 0

pub record Seen (is : List ℕ → Bool) (t : List ℕ) (fine : Bool) (rest : List ℕ) : Type 0 where
  pub holds : fine ≡ is (first t)
  pub fields : fine ≡ true → fields_of (present t) ≡ first t ∷ fields_of (present rest)
  pub line : fine ≡ true → after_first 10 rest ≡ after_first 10 t

pub record NumberSeen (t : List ℕ) (fine : Bool) (value : ℕ) (rest : List ℕ) : Type 0 where
  pub seen : Seen is_number t fine rest
  pub value_is : fine ≡ true → value ≡ capped (number_of (first t))

pub record WholeSeen (t : List ℕ) (fine minus : Bool) (size : ℕ) (rest : List ℕ) : Type 0 where
  pub seen : Seen is_whole t fine rest
  pub minus_is : fine ≡ true → minus ≡ is_minus (first t)
  pub size_is : fine ≡ true → size ≡ capped (number_of (unsigned (first t)))

pub record DepthSeen (t : List ℕ) (r : Depth) (rest : List ℕ) : Type 0 where
  pub seen : Seen is_depth t true rest
  pub minus : r.minus ≡ is_minus (first t)
  pub short : r.short ≡ is_short (first t)
  pub size : r.short ≡ true → r.size ≡ size_of (first t)
  pub small : r.size ≤ 2 ^ 53

-- ---- what the lines from t on fill: n nodes, and the corners of triangles
pub record NodesFilled (n : ℕ) (t : List ℕ) (x y : List ℤ) (h : List Float) (rest : List ℕ) : Type 0 where
  pub its_x : x ≡ table n (x_in (line_of t))
  pub its_y : y ≡ table n (y_in (line_of t))
  pub its_h : h ≡ table n (h_in (line_of t))
  pub after : rest ≡ after_lines n t

-- ---- a line was read: t is what was left before it
abbrev pub its : List ℕ → ℕ → List ℕ
its t j = field_of (present t) j

pub record LineSeen (tests : List (List ℕ → Bool)) (t : List ℕ) (fine : Bool) (rest : List ℕ) : Type 0 where
  pub holds : fine ≡ exactly tests (fields_of (present t))
  pub after : fine ≡ true → rest ≡ after_first 10 t

-- the line does not hold what it is to hold
abbrev pub NoLine : List (List ℕ → Bool) → List ℕ → Type 0
NoLine tests t = false ≡ exactly tests (fields_of (present t))

pub record CountsSeen (t : List ℕ) (r : Counts) (rest : List ℕ) : Type 0 where
  pub seen : LineSeen count_tests t true rest
  pub e : r.e ≡ capped (number_of (its t 0))
  pub n : r.n ≡ capped (number_of (its t 1))

pub record NodeSeen (t : List ℕ) (r : NodeLine) (rest : List ℕ) : Type 0 where
  pub seen : LineSeen node_tests t true rest
  pub number : r.number ≡ capped (number_of (its t 0))
  pub x_minus : r.x.minus ≡ is_minus (its t 1)
  pub x_size : r.x.size ≡ capped (number_of (unsigned (its t 1)))
  pub y_minus : r.y.minus ≡ is_minus (its t 2)
  pub y_size : r.y.size ≡ capped (number_of (unsigned (its t 2)))
  pub h_minus : r.h.minus ≡ is_minus (its t 3)
  pub h_short : r.h.short ≡ is_short (its t 3)
  pub h_size : r.h.short ≡ true → r.h.size ≡ size_of (its t 3)
  pub h_small : r.h.size ≤ 2 ^ 53

pub record TriangleSeen (t : List ℕ) (r : TriangleLine) (rest : List ℕ) : Type 0 where
  pub seen : LineSeen triangle_tests t true rest
  pub number : r.number ≡ capped (number_of (its t 0))
  pub first : r.first ≡ capped (number_of (its t 2))
  pub second : r.second ≡ capped (number_of (its t 3))
  pub third : r.third ≡ capped (number_of (its t 4))

-- ---- lines were asked: what is answered, where an acceptance has the place at which the next line starts
abbrev pub line_answer : Result ℕ Refusal → Answer
line_answer (Ok next) = accepted
line_answer (Err r) = answered (Err r)
