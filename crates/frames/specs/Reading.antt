-- Document 01, "Frames": what is read of one line, the values of its fields and the sum of its bytes.
use Rattle.std.specs.Prelude.{ℕ, ◌%◌, cond, List, [], ◌∷◌, take, drop, from_bits, nat_le, Float}
use Rattle.std.specs.Float.{binary64}
use Rattle.frames.specs.declared.digits.Tally.{Tally}
use Rattle.frames.specs.Bytes.{bytes, all_digits, number, sum}

-- the number in the `width` bytes from byte `at` of a line on, as many as it has; 0 where a field would be wider than 8
unfoldable pub value : List ℕ → ℕ → ℕ → ℕ
value line at width = cond (nat_le width 8) (number (take width (drop at (bytes line)))) 0

-- "floats are their 8-byte patterns": the float of the 8 bytes at a frame byte. Every NaN pattern is read as NaN, of which there is one
abbrev pub float : List ℕ → ℕ → Float
float line at = from_bits binary64 (value line at 8)

-- the six fields of 8 bytes that follow kind and sequence, as in a node's line
unfoldable pub values : List ℕ → List ℕ
values line = value line 3 8 ∷ value line 11 8 ∷ value line 19 8 ∷ value line 27 8 ∷ value line 35 8 ∷ value line 43 8 ∷ []

-- what one pass over a text gives: the sum of its bytes, and whether they are made of digits
unfoldable pub tallied : List ℕ → Tally
tallied text = record { sum = sum (bytes text) % 256; right = all_digits text }
