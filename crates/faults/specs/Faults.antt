-- Document 01, "Refusal table": rows 20 to 22, of one line.
use Rattle.std.specs.Prelude.{ℕ, ◌+◌, ◌%◌, List, Bool, ◌&&◌, length, get_or, eqb}
use Rattle.rows.specs.declared.Answer.{Answer}
use Rattle.rows.specs.Scan.{row, ◌then◌}
use Rattle.frames.specs.Bytes.{bytes, all_digits, sum}
use Rattle.frames.specs.Frames.{Layout, line_feed}
use Rattle.frames.specs.Texts.{due, line_at}
use Rattle.frames.specs.Reading.{value}

-- the digits due, two for each byte, and then the line feed and nothing more
unfoldable pub is_framed : List ℕ → ℕ → Bool
is_framed line due = eqb (length line) (due + 1) && eqb (due % 2) 0 && eqb (get_or line due 0) line_feed

-- | 20 | line of wrong length, wrong digit, no line feed, bytes after the end | line |: of one line, so all but the last
unfoldable pub row20 : List ℕ → ℕ → ℕ → Answer
row20 line due place = row (is_framed line due && all_digits line) 20 place

-- | 21 | check byte |: "All frame bytes sum to 0 modulo 256."
unfoldable pub row21 : List ℕ → ℕ → Answer
row21 line place = row (eqb (sum (bytes line) % 256) 0) 21 place

-- | 22 | kind or sequence |
unfoldable pub row22 : List ℕ → ℕ → ℕ → ℕ → Answer
row22 line kind sequence place = row (eqb (value line 0 1) kind && eqb (value line 1 2) sequence) 22 place

-- "in each 20, 21, 22"
unfoldable pub fault : List ℕ → ℕ → ℕ → ℕ → ℕ → Answer
fault line due kind sequence place = row20 line due place then row21 line place then row22 line kind sequence place

-- of line j of a text of lines, whose sequence is its number
unfoldable pub line_fault : (ℕ → Layout) → List ℕ → ℕ → Answer
line_fault layout t j = fault (line_at layout t j) (due layout j) (layout j).kind j j
