-- Laws of numbers as they are written: a numeral, a sign, and a depth with three decimals.
use Prim.Native.Nat.{ℕ, zero, suc, ◌+◌, ◌-◌, ◌*◌, ◌/◌, ◌%◌, ◌^◌, ◌≤◌, ◌<◌}
use mathlib.Core.Path.{◌≡◌, refl}
use mathlib.Core.Bool.{Bool, true, false, cond}
use mathlib.Core.List.{List, [], ◌∷◌, ◌++◌}
use native.Mathlib.Nat.{pow-suc, div-div-eq-div-mul}
use native.Mathlib.Omega.{arith}
use borrow.Author.Tests.{eq-eqb, ne_eqb, lt-ltb, le-leb, ltb-true, leb-true}
use lib.Dec.{ltb, leb}
use lib.IntN.{ℤ, pos, negsuc, nat_abs}
use lib.ListN.{length, length-append}
use lib.Ieee.{binary64, of_int}
use Rattle.rows.specs.Numbers.{decimal}
use Rattle.rows.proofs.ScanLaws.{both_left}
use Rattle.quantities.specs.Operations.{◌⊘◌}
use Rattle.grids.specs.Numbers.{only_digits, is_number, number_from, number_of, starts_with, without, is_minus, unsigned, signed, is_whole, whole_of, in32}
use Rattle.grids.specs.Numbers.{before_first, after_first, has, whole_digits, decimals, is_depth, is_short, size_of, thousandths_of, depth_of}
use Rattle.refusals.specs.Refusals.{numeral_of, numeral}
use Rattle.gridtext.specs.Written.{size_text, signed_text, whole_text, depth_text}
use Rattle.gridtext.proofs.PieceLaws.{All, all_join, all_so, Above, Word, word_less}

-- ---- digits
abbrev Digits : List ℕ → Type 0
Digits l = All (λ b. (47 < b) × (b < 58)) l

digits_only : (l : List ℕ) → Digits l → only_digits l ≡ true
unfolding only_digits
digits_only [] p = refl
digits_only (b ∷ l) p = rw (le-leb 48 b (omega arith), le-leb b 57 (omega arith)) (digits_only l p.1)

digits_above : (k : ℕ) (l : List ℕ) → k ≤ 47 → Digits l → Above k l
digits_above k l h p = all_so (λ b. (47 < b) × (b < 58)) (λ b. k < b) l (λ b q. omega (arith, q)) p

-- ---- a numeral is one digit, or a numeral and a digit more: its digits, its length and its value
by_last : (P : List ℕ → Type 0) (most n : ℕ) → (n < 10 → P ((48 + n % 10) ∷ [])) → P (numeral_of most (n / 10) ++ ((48 + n % 10) ∷ []))
    → P (numeral_of (suc most) n)
unfolding numeral_of
by_last P most n one more = go (ltb n 10) refl
  where
    go : (b : Bool) → ltb n 10 ≡ b → P (cond b [] (numeral_of most (n / 10)) ++ ((48 + n % 10) ∷ []))
    go true e = one (ltb-true n 10 e)
    go false e = more

numeral_digits : (most n : ℕ) → Digits (numeral_of most n)
unfolding numeral_of
numeral_digits zero n = tt
numeral_digits (suc most) n =
    by_last Digits most n (λ _. omega arith) (all_join _ (numeral_of most (n / 10)) (_ ∷ []) (numeral_digits most (n / 10)) (omega arith))

numeral_short : (most k n : ℕ) → n < 10 ^ suc k → length (numeral_of most n) ≤ suc k
unfolding numeral_of
numeral_short zero k n h = omega arith
numeral_short (suc most) zero n h = rw (lt-ltb n 10 h) (omega arith)
numeral_short (suc most) (suc k) n h =
    let less : n < 10 ^ suc k * 10 = rw pow-suc at h in
    let e = numeral_short most k (n / 10) (omega arith) in
    by_last (λ l. length l ≤ suc (suc k)) most n (λ _. omega arith) (rw length-append (omega arith))

number_last : (v : ℕ) (l : List ℕ) (b : ℕ) → number_from v (l ++ (b ∷ [])) ≡ 10 * number_from v l + (b - 48)
unfolding number_from
number_last v [] b = refl
number_last v (a ∷ l) b = number_last (10 * v + (a - 48)) l b

numeral_value : (most n : ℕ) → n < 10 ^ most → number_of (numeral_of most n) ≡ n
unfolding numeral_of number_from
numeral_value zero n h = omega arith
numeral_value (suc most) n h =
    let less : n < 10 ^ most * 10 = rw pow-suc at h in
    let e = numeral_value most (n / 10) (omega arith) in
    by_last (λ l. number_of l ≡ n) most n (λ t. omega (arith, t)) (rw number_last (omega arith))

pub numeral_word : (n : ℕ) → Word 45 (numeral n)
unfolding numeral numeral_of
numeral_word n = (rw length-append (omega arith), digits_above 45 (numeral n) (omega arith) (numeral_digits 20 n))

pub is_number_lem : (n : ℕ) → is_number (numeral n) ≡ true
unfolding is_number numeral
is_number_lem n = rw (lt-ltb 0 (length (numeral n)) (numeral_word n).0) (digits_only (numeral n) (numeral_digits 20 n))

pub number_back : (n : ℕ) → n < 10 ^ 20 → number_of (numeral n) ≡ n
unfolding numeral
number_back n h = numeral_value 20 n h

-- ---- a sign, before a text that has none
no_minus : (f : List ℕ) → Above 45 f → (unsigned f ≡ f) × (is_minus f ≡ false)
unfolding without starts_with
no_minus [] p = (refl, refl)
no_minus (b ∷ f) p = let e = ne_eqb b 45 (omega arith) in (rw e, e)

module _ (text : ℕ → List ℕ) (word : (n : ℕ) → Word 45 (text n)) where
  pub signed_word : (z : ℤ) → Word 32 (signed_text text z)
  unfolding signed_text
  signed_word (pos n) = word_less 32 45 (text n) (omega arith) (word n)
  signed_word (negsuc n) = (omega arith, (omega arith, (word_less 32 45 (text (suc n)) (omega arith) (word (suc n))).1))

  size_back : (z : ℤ) → unsigned (signed_text text z) ≡ text (nat_abs z)
  unfolding signed_text without
  size_back (pos n) = (no_minus (text n) (word n).1).0
  size_back (negsuc n) = refl

  sign_back : (z : ℤ) → signed (is_minus (signed_text text z)) (nat_abs z) ≡ z
  unfolding signed_text starts_with
  sign_back (pos n) = rw (no_minus (text n) (word n).1).1
  sign_back (negsuc n) = refl

-- ---- a whole number, of 32 bits
size_32 : (z : ℤ) → in32 z ≡ true → nat_abs z < 10 ^ 20
unfolding in32
size_32 (pos n) h = omega (arith, leb-true n 2147483647 h)
size_32 (negsuc n) h = omega (arith, leb-true n 2147483647 (both_left (leb n 2147483647) true h))

pub is_whole_lem : (z : ℤ) → is_whole (whole_text z) ≡ true
is_whole_lem z = rw (size_back numeral numeral_word z) (is_number_lem (nat_abs z))

pub whole_back : (z : ℤ) → in32 z ≡ true → whole_of (whole_text z) ≡ z
whole_back z h = rw (size_back numeral numeral_word z, number_back (nat_abs z) (size_32 z h)) (sign_back numeral numeral_word z)

-- ---- a depth: its whole digits, and its three decimals after the first point
at_first : (end : ℕ) (l t : List ℕ) → Above end l
    → (before_first end (l ++ end ∷ t) ≡ l) × (after_first end (l ++ end ∷ t) ≡ t) × (has end (l ++ end ∷ t) ≡ true)
unfolding before_first after_first has
at_first end [] t p = let e = eq-eqb end end refl in (rw e, rw e, rw e)
at_first end (b ∷ l) t p =
    let e = ne_eqb b end (omega arith) in
    let q = at_first end l t p.1 in
    (rw (e, q.0), rw e q.1, rw e q.2)

abbrev three : ℕ → List ℕ
three d = (48 + d / 100 % 10) ∷ (48 + d / 10 % 10) ∷ (48 + d % 10) ∷ []

pub size_word : (d : ℕ) → Word 45 (size_text d)
unfolding size_text
size_word d = (rw length-append (omega arith), all_join _ (numeral (d / 1000)) (46 ∷ three d) (numeral_word (d / 1000)).1 (omega arith))

module _ (z : ℤ) where
  abbrev size : ℕ
  size = nat_abs z

  parts : (whole_digits (depth_text z) ≡ numeral (size / 1000)) × (decimals (depth_text z) ≡ three size) × (has 46 (unsigned (depth_text z)) ≡ true)
  unfolding size_text numeral
  parts =
      let n = size / 1000 in
      rw (size_back size_text size_word z) (at_first 46 (numeral n) (three size) (digits_above 46 (numeral n) (omega arith) (numeral_digits 20 n)))

  pub is_depth_lem : is_depth (depth_text z) ≡ true
  unfolding is_depth is_number
  is_depth_lem = rw (parts.0, parts.1, parts.2, is_number_lem (size / 1000)) (digits_only (three size) (omega arith))

  pub is_short_lem : size < 10 ^ 12 → is_short (depth_text z) ≡ true
  unfolding is_short numeral
  is_short_lem h = rw (parts.0, parts.1, le-leb (length (numeral (size / 1000))) 9 (numeral_short 20 8 (size / 1000) (omega arith)))

  pub depth_back : size < 10 ^ 12 → depth_of (depth_text z) ≡ of_int binary64 z ⊘ decimal 1000 1
  unfolding depth_of thousandths_of size_of number_from
  depth_back h =
      let tens = div-div-eq-div-mul size in
      let e : size / 1000 * 1000 + number_of (three size) * 1 ≡ size = omega (arith, tens 10 10, tens 100 10) in
      rw (parts.0, parts.1, number_back (size / 1000) (omega arith), e, sign_back size_text size_word z)
