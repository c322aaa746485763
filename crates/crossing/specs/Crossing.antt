-- Document 02, #106: "State slices cross as big-endian byte patterns." What numbers the bytes of a slice are, and a slice with a number written into it.
use Rattle.std.specs.Prelude.{ℕ, suc, ◌+◌, ◌-◌, ◌*◌, ◌/◌, ◌^◌, ◌&&◌, cond, List, leb, ltb, ℤ, pos, negsuc, ◌-ℤ◌, length, take, drop, Float}
use Rattle.std.specs.Float.{binary64}
use Rattle.std.specs.Float.Ieee.{of_bits}
use Rattle.lists.specs.Table.{table}
use Rattle.frames.specs.Bytes.{number, field}
use Rattle.lines.specs.Building.{laid}

-- the number in the w bytes from place `at` on; 0 where they are not all there, or more than 8
unfoldable pub number_at : List ℕ → ℕ → ℕ → ℕ
number_at b at w = cond (leb w 8 && leb (at + w) (length b)) (number (take w (drop at b))) 0

-- b with the lowest w bytes of v from place `at` on; unchanged where they are not all there
unfoldable pub written_at : List ℕ → ℕ → ℕ → ℕ → List ℕ
written_at b at w v = cond (leb (at + w) (length b)) (laid b at (field w v)) b

-- 32-bit signed by its pattern: from 2^31 on it stands for the number that is 2^32 less
unfoldable pub signed : ℕ → ℤ
signed v = cond (ltb v (2 ^ 31)) (pos v) (pos v -ℤ pos (2 ^ 32))

-- and the pattern of one: of a number below zero, `negsuc n` being -(n + 1), it is 2^32 more
unfoldable pub unsigned : ℤ → ℕ
unsigned (pos n) = n
unsigned (negsuc n) = 2 ^ 32 - suc n

-- the elements of w bytes each that a slice is, as many whole ones as there are, and what f reads in each
unfoldable pub elements : {A : Type 0} → ℕ → (ℕ → A) → List ℕ → List A
elements w f b = table (length b / w) (λ i. f (number_at b (w * i) w))

-- "on numbers and byte slices only", of document 02, #106: of x and y 4 bytes are a number, of tri 2, and of h and the state 8, a float's pattern
abbrev pub ints_of : List ℕ → List ℤ
ints_of = elements 4 signed

abbrev pub words_of : List ℕ → List ℕ
words_of = elements 2 (λ v. v)

abbrev pub floats_of : List ℕ → List Float
floats_of = elements 8 (of_bits binary64)
