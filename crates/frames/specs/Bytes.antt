-- Document 01, "Frames": digits, bytes, numbers and the check byte.
use Rattle.std.specs.Prelude.{ℕ, zero, suc, ◌+◌, ◌-◌, ◌*◌, ◌/◌, ◌%◌, ◌^◌, Bool, true, cond, ◌&&◌, List, [], ◌∷◌, ◌++◌, length, nat_le, nat_lt}

-- "Upper-case hexadecimal": 0 to 9 are the characters 48 to 57, A to F the characters 65 to 70. Document 02, #104: "We still write upper case."
unfoldable pub digit : ℕ → ℕ
digit n = cond (nat_lt n 10) (48 + n) (55 + n)

-- Document 02, #104: "A digit now means the same in either case": what a character is worth as a digit, a to f, the characters 97 to 102, as A to F; and
-- 16 where it is no digit
unfoldable pub worth : ℕ → ℕ
worth d = cond (nat_le 48 d && nat_le d 57) (d - 48) (cond (nat_le 65 d && nat_le d 70) (d - 55) (cond (nat_le 97 d && nat_le d 102) (d - 87) 16))

abbrev pub is_digit : ℕ → Bool
is_digit d = nat_lt (worth d) 16

-- two digits for each byte
unfoldable pub digits : List ℕ → List ℕ
digits [] = []
digits (b ∷ bs) = digit (b / 16) ∷ digit (b % 16) ∷ digits bs

-- the byte of two digits; what is no digit counts as 0
unfoldable pub byte : ℕ → ℕ → ℕ
byte high low = worth high % 16 * 16 + worth low % 16

-- the bytes that the characters of a text make, two by two; one that is left over, as a line feed, makes none
unfoldable pub bytes : List ℕ → List ℕ
bytes [] = []
bytes (a ∷ []) = []
bytes (a ∷ b ∷ t) = byte a b ∷ bytes t

-- each of the characters that these bytes are made of is a digit
unfoldable pub all_digits : List ℕ → Bool
all_digits [] = true
all_digits (a ∷ []) = true
all_digits (a ∷ b ∷ t) = is_digit a && is_digit b && all_digits t

-- "Numbers are big-endian": a field is the lowest `width` bytes of a value
unfoldable pub field : ℕ → ℕ → List ℕ
field zero value = []
field (suc width) value = field width (value / 256) ++ (value % 256 ∷ [])

-- the number that bytes make
unfoldable pub number : List ℕ → ℕ
number [] = 0
number (b ∷ bs) = b * 256 ^ length bs + number bs

unfoldable pub sum : List ℕ → ℕ
sum [] = 0
sum (b ∷ bs) = b + sum bs

-- "All frame bytes sum to 0 modulo 256": the check byte that follows these bytes
unfoldable pub check : List ℕ → ℕ
check bs = (256 - sum bs % 256) % 256
