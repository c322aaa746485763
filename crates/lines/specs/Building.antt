-- Document 01: "One line is held with its length while it is built."
use Rattle.std.specs.Prelude.{ℕ, ◌+◌, ◌-◌, List, [], ◌∷◌, ◌++◌, cond, length, take, drop, replicate, leb}
use Rattle.frames.specs.Bytes.{digits, bytes, field, check}
use Rattle.frames.specs.Frames.{Field, opening, line_feed}
use Rattle.lines.specs.declared.Line.{Line}

-- "a byte array of 72 digits plus line feed"; Document 02, #105: "node lines 06 with six values", 104 digits
abbrev pub longest : ℕ
longest = 105

-- what a line holds
unfoldable pub written : Line → List ℕ
written l = take l.len l.bytes

-- the line that holds t, and is 0 past it
unfoldable pub holding : List ℕ → Line
holding t = record { bytes = t ++ replicate (longest - length t) 0; len = length t }

-- a list with t laid over it from the place `at` on
unfoldable pub laid : List ℕ → ℕ → List ℕ → List ℕ
laid l at t = take at l ++ t ++ drop (at + length t) l

-- "appended to by value": with t after what the line holds; unchanged where there is no room
unfoldable pub appended : Line → List ℕ → Line
appended l t = cond (leb (l.len + length t) longest) (record { bytes = laid l.bytes l.len t; len = l.len + length t }) l

unfoldable pub with_fields : Line → List Field → Line
with_fields l [] = l
with_fields l (f ∷ fs) = with_fields (appended l (digits (field f.width f.value))) fs

-- begun with "kind byte, two-byte sequence"
abbrev pub begun : ℕ → ℕ → Line
begun kind sequence = with_fields (holding []) (opening kind sequence)

-- with the check byte of what is written, and the line feed
unfoldable pub sealed : Line → Line
sealed l = appended l (digits (check (bytes (written l)) ∷ []) ++ (line_feed ∷ []))

-- ---- a line put into a text
pub record Put : Type 0 where
  pub next : ℕ
  pub text : List ℕ

abbrev pub put_out : ℕ → List ℕ → Put
put_out next text = record { next = next; text = text }

-- laid over the text at a place, with the place after it; where it does not fit, nothing is written
unfoldable pub put_of : List ℕ → ℕ → Line → Put
put_of text at l =
    cond (leb (at + length (written l)) (length text)) (put_out (at + length (written l)) (laid text at (written l))) (put_out at text)
