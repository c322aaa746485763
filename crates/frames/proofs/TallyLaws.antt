-- Laws of a text's bytes and digits, one character at a time.
use Rattle.std.proofs.Common.{◌≡◌, ℕ, zero, suc, ◌+◌, ◌*◌, ◌/◌, ◌%◌, ◌<◌, ◌≤◌, Bool, true, ◌&&◌, List, [], ◌∷◌, length, get_or, drop, refl, add-one, arith, drop-cons}
use mathlib.Core.Bool.{and_assoc}
use Rattle.frames.specs.Bytes.{worth, is_digit, byte, bytes, all_digits, sum}
use Rattle.frames.proofs.ByteLaws.{digits_none}

-- what a character adds to the sum: at 0 it is the high digit of its byte, else the low one
unfoldable pub part : ℕ → ℕ → ℕ
part zero d = worth d % 16 * 16
part (suc _) d = worth d % 16

-- the sum of what is left of a text, where at 0 a byte starts, and else its low digit comes first
unfoldable pub rest : ℕ → List ℕ → ℕ
rest zero l = sum (bytes l)
rest (suc _) [] = 0
rest (suc _) (d ∷ l) = worth d % 16 + sum (bytes l)

-- and whether it is made of digits
unfoldable pub rest_digits : ℕ → List ℕ → Bool
rest_digits zero l = all_digits l
rest_digits (suc _) [] = true
rest_digits (suc _) (d ∷ l) = is_digit d && all_digits l

-- one character more
sum_high : (a b : ℕ) (l : List ℕ) → rest 0 (a ∷ b ∷ l) ≡ part 0 a + rest 1 (b ∷ l)
unfolding rest part bytes byte sum
sum_high a b l = omega arith

digits_high : (a b : ℕ) (l : List ℕ) → rest_digits 0 (a ∷ b ∷ l) ≡ (is_digit a && rest_digits 1 (b ∷ l))
unfolding rest_digits all_digits
digits_high a b l = and_assoc (is_digit a) (is_digit b) (all_digits l)

sum_by : (o : ℕ) (s : List ℕ) (c : ℕ) → c % 2 ≡ o → c < length s / 2 * 2 → rest o (drop c s) ≡ part o (get_or s c 0) + rest ((c + 1) % 2) (drop (c + 1) s)
unfolding rest part
sum_by zero s c e h =
    let f : (c + 1) % 2 ≡ 1 = omega arith in
    rw (f, drop-cons s c 0 (omega arith), add-one, drop-cons s (suc c) 0 (omega arith)) (sum_high _ _ _)
sum_by (suc o) s c e h =
    let f : (c + 1) % 2 ≡ 0 = omega arith in
    rw (f, drop-cons s c 0 (omega arith), add-one)

digits_by : (o : ℕ) (s : List ℕ) (c : ℕ) → c % 2 ≡ o → c < length s / 2 * 2 → rest_digits o (drop c s) ≡ (is_digit (get_or s c 0) && rest_digits ((c + 1) % 2) (drop (c + 1) s))
unfolding rest_digits
digits_by zero s c e h =
    let f : (c + 1) % 2 ≡ 1 = omega arith in
    rw (f, drop-cons s c 0 (omega arith), add-one, drop-cons s (suc c) 0 (omega arith)) (digits_high _ _ _)
digits_by (suc o) s c e h =
    let f : (c + 1) % 2 ≡ 0 = omega arith in
    rw (f, drop-cons s c 0 (omega arith), add-one)

pub sum_next : (s : List ℕ) (c : ℕ) → c < length s / 2 * 2 → rest (c % 2) (drop c s) ≡ part (c % 2) (get_or s c 0) + rest ((c + 1) % 2) (drop (c + 1) s)
sum_next s c h = sum_by (c % 2) s c refl h

pub digits_next : (s : List ℕ) (c : ℕ) → c < length s / 2 * 2 → rest_digits (c % 2) (drop c s) ≡ (is_digit (get_or s c 0) && rest_digits ((c + 1) % 2) (drop (c + 1) s))
digits_next s c h = digits_by (c % 2) s c refl h

pub part_high : (o d : ℕ) → o ≡ 0 → part o d ≡ worth d % 16 * 16
unfolding part
part_high o d e = rw e

pub part_low : (o d : ℕ) → o ≡ 1 → part o d ≡ worth d % 16
unfolding part
part_low o d e = rw e

-- the sum so far, one byte, with what a character adds
pub sum_adds : (a b r : ℕ) → ((a + b) % 256 + r) % 256 ≡ (a + (b + r)) % 256
sum_adds a b r = omega arith

-- after the last character that has a byte
pub sum_none : (l : List ℕ) → length l ≤ 1 → rest 0 l ≡ 0
unfolding rest bytes sum
sum_none [] h = refl
sum_none (a ∷ []) h = refl
sum_none (a ∷ b ∷ l) h = absurd (omega arith)

pub digits_end : (l : List ℕ) → length l ≤ 1 → rest_digits 0 l ≡ true
unfolding rest_digits
digits_end l h = digits_none l h
