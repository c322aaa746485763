-- Document 02, #101: the lines of a text and the fields of a line, over the bytes.
use Rattle.std.specs.Prelude.{ℕ, Bool, true, false, ◌&&◌, List, [], ◌∷◌, ◌==◌, slice_index_or}

-- a text cut at each byte `end`: a piece ends at such a byte or at the text's end, and where nothing is left there is no piece
unfoldable pub cut : Bool → ℕ → List (List ℕ) → List (List ℕ)
cut true b pieces = [] ∷ pieces
cut false b [] = (b ∷ []) ∷ []
cut false b (p ∷ pieces) = (b ∷ p) ∷ pieces

unfoldable pub pieces_of : ℕ → List ℕ → List (List ℕ)
pieces_of end [] = []
pieces_of end (b ∷ t) = cut (b == end) b (pieces_of end t)

-- "a line ends at a line feed or the text's end"
abbrev pub lines_of : List ℕ → List (List ℕ)
lines_of t = pieces_of 10 t

-- line j, from 0; one that is not there has no byte
abbrev pub line_of : List ℕ → ℕ → List ℕ
line_of t j = slice_index_or (lines_of t) j []

-- the pieces that are not empty
unfoldable pub filled : List (List ℕ) → List (List ℕ)
filled [] = []
filled ([] ∷ pieces) = filled pieces
filled ((b ∷ p) ∷ pieces) = (b ∷ p) ∷ filled pieces

-- "fields are separated by spaces, which may also lead or trail": the longest runs of bytes other than the space
abbrev pub fields_of : List ℕ → List (List ℕ)
fields_of line = filled (pieces_of 32 line)

-- field j, from 0; one that is missing has no byte
abbrev pub field_of : List ℕ → ℕ → List ℕ
field_of line j = slice_index_or (fields_of line) j []

-- "a malformed, missing or extra field": the fields are exactly as many as the tests, and each meets its own
unfoldable pub exactly : List (List ℕ → Bool) → List (List ℕ) → Bool
exactly [] [] = true
exactly [] (f ∷ fs) = false
exactly (is ∷ tests) [] = false
exactly (is ∷ tests) (f ∷ fs) = is f && exactly tests fs
