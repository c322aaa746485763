-- Document 01, "The printing program": the text of a refusal.
use Rattle.std.specs.Prelude.{ℕ, zero, suc, ◌+◌, ◌-◌, ◌/◌, ◌%◌, cond, List, [], ◌∷◌, ◌++◌, ltb, length, replicate}
use Rattle.rows.specs.declared.Answer.{Answer}
use Rattle.frames.specs.Frames.{line_feed}
use Rattle.refusals.specs.declared.Words.{Words}

-- a number in decimal, with no 0 in front: at most so many digits, and 20 for a number of 64 bits
unfoldable pub numeral_of : ℕ → ℕ → List ℕ
numeral_of zero n = []
numeral_of (suc most) n = cond (ltb n 10) [] (numeral_of most (n / 10)) ++ ((48 + n % 10) ∷ [])

unfoldable pub numeral : ℕ → List ℕ
numeral n = numeral_of 20 n

-- `refused `
abbrev pub refused_word : List ℕ
refused_word = 114 ∷ 101 ∷ 102 ∷ 117 ∷ 115 ∷ 101 ∷ 100 ∷ 32 ∷ []

-- ` at `
abbrev pub at_word : List ℕ
at_word = 32 ∷ 97 ∷ 116 ∷ 32 ∷ []

-- "`refused R at P` and a line feed, R the number and P the input line"
unfoldable pub refusal : Answer → List ℕ
refusal a = refused_word ++ numeral a.number ++ at_word ++ numeral a.place ++ (line_feed ∷ [])

-- 8 + 20 + 4 + 20 + 1 bytes are room for every refusal; what is past the text is 0
abbrev pub room_of_words : ℕ
room_of_words = 53

unfoldable pub words : List ℕ → Words
words t = record { bytes = t ++ replicate (room_of_words - length t) 0; len = length t }
