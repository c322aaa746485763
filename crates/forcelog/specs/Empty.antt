-- Document 01: "Empty input prints five lines … Kind, sequence, counts and check byte stand as shown, every other digit is 0, and the frame rules decide how
-- many zeros there are". Document 02, #105: "01's example 12 becomes 442, which is also what the printing program gives on empty input, in six lines": of
-- 24, 88, 104, 104, 104 and 12 digits.
use Rattle.std.specs.Prelude.{ℕ, List, [], ◌∷◌, ◌++◌, replicate}

-- ---- the head and the end that document 01 shows, of edition 1, which its examples 8 to 10 change
-- "010000000300010000000000000000000000000000000000000000FB", the head, with these last two digits, and the line feed
abbrev pub head_with : ℕ → ℕ → List ℕ
head_with high low = 48 ∷ 49 ∷ replicate 7 48 ++ (51 ∷ 48 ∷ 48 ∷ 48 ∷ 49 ∷ []) ++ replicate 40 48 ++ (high ∷ low ∷ 10 ∷ [])

-- "0300040003F6", the end, with this last digit of its sequence and this of its check byte, and the line feed; edition 2 has it too
abbrev pub end_with : ℕ → ℕ → List ℕ
end_with sequence check = 48 ∷ 51 ∷ 48 ∷ 48 ∷ 48 ∷ sequence ∷ 48 ∷ 48 ∷ 48 ∷ 51 ∷ 70 ∷ check ∷ 10 ∷ []

-- ---- the six lines of edition 2
-- "0400000003000100000000F8", the head, with these last two digits, and the line feed
abbrev pub head2_with : ℕ → ℕ → List ℕ
head2_with high low = 48 ∷ 52 ∷ replicate 7 48 ++ (51 ∷ 48 ∷ 48 ∷ 48 ∷ 49 ∷ []) ++ replicate 8 48 ++ (high ∷ low ∷ 10 ∷ [])

-- 050001, dt 1 as 3FF0000000000000, tau, K and f as 00..00, the sum of all D as 0000000000002710, and the check byte's digits
abbrev pub run2_with : ℕ → ℕ → List ℕ
run2_with high low =
    48 ∷ 53 ∷ 48 ∷ 48 ∷ 48 ∷ 49 ∷ 51 ∷ 70 ∷ 70 ∷ replicate 13 48 ++ replicate 48 48 ++ replicate 12 48 ++ (50 ∷ 55 ∷ 49 ∷ 48 ∷ high ∷ low ∷ 10 ∷ [])

-- 0600 and the two digits of the sequence, of which the last is given, 00..00, F and the last digit of the check byte
abbrev node2_with : ℕ → ℕ → List ℕ
node2_with sequence check = 48 ∷ 54 ∷ 48 ∷ 48 ∷ 48 ∷ sequence ∷ replicate 96 48 ++ (70 ∷ check ∷ 10 ∷ [])

-- check bytes F8 and 94; sequences 2, 3, 4 and check bytes F8, F7, F6; sequence 5 and check byte F5
unfoldable pub six_lines : List ℕ
six_lines = head2_with 70 56 ++ run2_with 57 52 ++ node2_with 50 56 ++ node2_with 51 55 ++ node2_with 52 54 ++ end_with 53 53
