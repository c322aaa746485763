-- Document 01, "Frames": a text of lines, one after the other. What is due at each of them is its layout; a save of either edition and a forcing are
-- such texts, and writing, reading and their laws share this.
use Rattle.std.specs.Prelude.{ℕ, zero, suc, ◌+◌, Bool, ◌&&◌, List, [], ◌++◌, length, take, drop, ◌==◌, nat_le, slice_index}
use Rattle.frames.specs.Frames.{Frame, Layout, text, digits_of}

module _ (layout : ℕ → Layout) where
  -- the digits of line j, as in "56 digits"
  abbrev pub due : ℕ → ℕ
  due j = digits_of (layout j).widths

  -- the lines before line j, as characters: where it starts
  unfoldable pub start_of : ℕ → ℕ
  start_of zero = 0
  start_of (suc j) = start_of j + (due j + 1)

  -- line j of a text, as much of it as there is: "a missing line being of wrong length"
  abbrev pub line_at : List ℕ → ℕ → List ℕ
  line_at t j = take (due j + 1) (drop (start_of j) t)

-- the first j of these lines, one after the other
unfoldable pub lines_to : (ℕ → Frame) → ℕ → List ℕ
lines_to line zero = []
lines_to line (suc j) = lines_to line j ++ text (line j)

-- a text has two characters at least, and the first two are these
abbrev pub starts : ℕ → ℕ → List ℕ → Bool
starts a b t = nat_le 2 (length t) && (slice_index t 0 == a && slice_index t 1 == b)
