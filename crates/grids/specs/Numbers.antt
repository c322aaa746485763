-- Document 02, #101: "Numbers are digits, after an optional minus in x, y and depth; depth's point, if any, has digits on both sides."
use Rattle.std.specs.Prelude.{ℕ, ◌+◌, ◌-◌, ◌*◌, ◌^◌, Bool, true, false, cond, not, ◌&&◌, ◌||◌, List, [], ◌∷◌, length, ℤ, pos, neg_ℤ, ◌==◌, int_le, nat_le, nat_lt, Float}
use Rattle.std.specs.Float.{binary64}
use Rattle.std.specs.Float.Ieee.{of_int}
use Rattle.rows.specs.Numbers.{decimal}
use Rattle.quantities.specs.Operations.{◌⊘◌}

-- ---- a number
abbrev pub is_digit : ℕ → Bool
is_digit b = nat_le 48 b && nat_le b 57

unfoldable pub only_digits : List ℕ → Bool
only_digits [] = true
only_digits (b ∷ t) = is_digit b && only_digits t

-- one digit or more
unfoldable pub is_number : List ℕ → Bool
is_number f = nat_lt 0 (length f) && only_digits f

-- its value, whatever its length: the digits that follow a value v, and those that follow none
unfoldable pub number_from : ℕ → List ℕ → ℕ
number_from v [] = v
number_from v (b ∷ t) = number_from (10 * v + (b - 48)) t

abbrev pub number_of : List ℕ → ℕ
number_of f = number_from 0 f

-- ---- "after an optional minus"
-- whether a field starts with this byte, and the field without it
unfoldable pub starts_with : ℕ → List ℕ → Bool
starts_with mark [] = false
starts_with mark (b ∷ t) = b == mark

unfoldable pub without : ℕ → List ℕ → List ℕ
without mark [] = []
without mark (b ∷ t) = cond (b == mark) t (b ∷ t)

abbrev pub is_minus : List ℕ → Bool
is_minus f = starts_with 45 f

abbrev pub unsigned : List ℕ → List ℕ
unsigned f = without 45 f

abbrev pub signed : Bool → ℕ → ℤ
signed true v = neg_ℤ (pos v)
signed false v = pos v

-- ---- "x and y are whole metres"
abbrev pub is_whole : List ℕ → Bool
is_whole f = is_number (unsigned f)

abbrev pub whole_of : List ℕ → ℤ
whole_of f = signed (is_minus f) (number_of (unsigned f))

-- in 32 bits signed
unfoldable pub in32 : ℤ → Bool
in32 z = int_le (neg_ℤ (pos 2147483648)) z && int_le z (pos 2147483647)

-- ---- "depth has at most three decimals and is its thousandths divided by 1000"
-- what stands before the first byte `end`, what stands after it, and whether there is one
unfoldable pub before_first : ℕ → List ℕ → List ℕ
before_first end [] = []
before_first end (b ∷ t) = cond (b == end) [] (b ∷ before_first end t)

unfoldable pub after_first : ℕ → List ℕ → List ℕ
after_first end [] = []
after_first end (b ∷ t) = cond (b == end) t (after_first end t)

unfoldable pub has : ℕ → List ℕ → Bool
has end [] = false
has end (b ∷ t) = b == end || has end t

-- the digits before the point, and the decimals after it
abbrev pub whole_digits : List ℕ → List ℕ
whole_digits f = before_first 46 (unsigned f)

abbrev pub decimals : List ℕ → List ℕ
decimals f = after_first 46 (unsigned f)

-- "depth's point, if any, has digits on both sides"
unfoldable pub is_depth : List ℕ → Bool
is_depth f = is_number (whole_digits f) && (not (has 46 (unsigned f)) || is_number (decimals f))

-- "a depth with more than three decimals or nine whole digits" is none of these
unfoldable pub is_short : List ℕ → Bool
is_short f = nat_le (length (whole_digits f)) 9 && nat_le (length (decimals f)) 3

-- its thousandths, in size and with the sign: the decimals count tenths, hundredths and thousandths
unfoldable pub size_of : List ℕ → ℕ
size_of f = number_of (whole_digits f) * 1000 + number_of (decimals f) * 10 ^ (3 - length (decimals f))

unfoldable pub thousandths_of : List ℕ → ℤ
thousandths_of f = signed (is_minus f) (size_of f)

unfoldable pub depth_of : List ℕ → Float
depth_of f = of_int binary64 (thousandths_of f) ⊘ decimal 1000 1
