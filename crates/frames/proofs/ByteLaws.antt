-- Laws of digits, bytes and the numbers that they make, over texts of any length.
use Rattle.std.proofs.Common.{◌≡◌, ℕ, zero, suc, ◌+◌, ◌*◌, ◌/◌, ◌%◌, ◌^◌, ◌<◌, ◌≤◌, Bool, true, false, eqb, ltb, ◌⊎◌, List, [], ◌∷◌, ◌++◌, length, get_or, take, drop, sym, refl, ap, ◌∙◌, inr, ⊎_elim, lt_of_lt_of_le, mod-lt, mul_assoc, div-lt_iff_lt-mul, add-mul, pow-suc, div-add-mod', zero-mul, add-one, arith, lit<, length-append, length-drop, get_or-drop, take_all, take-suc, take-take, pow-add, ltb-false, ltb-true, lt-ltb, eqb-true}
use native.Mathlib.Nat.{pow-zero, pow-le-pow_right}
use Rattle.rows.specs.Scan.{row, ◌then◌, scan}
use Rattle.rows.proofs.ScanLaws.{row_passed, scan_clean}
use Rattle.frames.specs.Bytes.{digit, worth, is_digit, digits, byte, bytes, all_digits, field, number, sum}

-- ---- a test that holds of each number below n, by computation
pub each_below : (test : ℕ → Bool) (n : ℕ) → (scan (λ (k : ℕ). row (test k) 1 0) n).number ≡ 0 → (d : ℕ) → d < n → test d ≡ true
each_below test n all d h = row_passed _ 0 0 (scan_clean (λ (k : ℕ). row (test k) 1 0) n all d h)

-- a digit is worth what it was written for: each of the sixteen
worth_digit : (n : ℕ) → n < 16 → worth (digit n) ≡ n
unfolding worth digit scan ◌then◌ row
worth_digit n h = eqb-true _ _ (each_below (λ (k : ℕ). eqb (worth (digit k)) k) 16 refl n h)

digit_right : (n : ℕ) → n < 16 → is_digit (digit n) ≡ true
digit_right n h = rw (worth_digit n h) (lt-ltb n 16 h)

-- ---- bytes: numbers below 256
abbrev pub Bytes : List ℕ → Type 0
Bytes [] = Unit
Bytes (b ∷ bs) = (b < 256) × Bytes bs

pub bytes_join : (a b : List ℕ) → Bytes a → Bytes b → Bytes (a ++ b)
bytes_join [] b p q = q
bytes_join (x ∷ a) b p q = (p.0, bytes_join a b p.1 q)

pub field_bytes_lem : (w v : ℕ) → Bytes (field w v)
unfolding field
field_bytes_lem zero v = tt
field_bytes_lem (suc w) v = bytes_join (field w _) (_ ∷ []) (field_bytes_lem w _) (mod-lt _ (lit< tt), tt)

-- ---- what is read from the digits of bytes, and what follows them
pub bytes_back : (bs t : List ℕ) → Bytes bs → bytes (digits bs ++ t) ≡ bs ++ bytes t
unfolding bytes digits byte
bytes_back [] t p = refl
bytes_back (b ∷ bs) t p =
    let h = p.0 in
    let e : b / 16 % 16 * 16 + b % 16 % 16 ≡ b = omega arith in
    rw (worth_digit (b / 16) (omega arith), worth_digit (b % 16) (omega arith), e, bytes_back bs t p.1)

pub digits_right : (bs t : List ℕ) → Bytes bs → all_digits (digits bs ++ t) ≡ all_digits t
unfolding all_digits digits
digits_right [] t p = refl
digits_right (b ∷ bs) t p =
    let h = p.0 in
    rw (digit_right (b / 16) (omega arith), digit_right (b % 16) (omega arith)) (digits_right bs t p.1)

pub digits_join : (a b : List ℕ) → digits (a ++ b) ≡ digits a ++ digits b
unfolding digits
digits_join [] b = refl
digits_join (x ∷ a) b = rw (digits_join a b)

pub digits_length : (bs : List ℕ) → length (digits bs) ≡ 2 * length bs
unfolding digits
digits_length [] = refl
digits_length (b ∷ bs) = let e = digits_length bs in omega arith

pub field_length : (w v : ℕ) → length (field w v) ≡ w
unfolding field
field_length zero v = refl
field_length (suc w) v = rw (length-append, field_length w (v / 256), add-one)

pub digits_none : (l : List ℕ) → length l ≤ 1 → all_digits l ≡ true
unfolding all_digits
digits_none [] h = refl
digits_none (a ∷ []) h = refl
digits_none (a ∷ b ∷ l) h = absurd (omega arith)

pub bytes_length : (s : List ℕ) → length (bytes s) ≡ length s / 2
unfolding bytes
bytes_length [] = refl
bytes_length (a ∷ []) = refl
bytes_length (a ∷ b ∷ s) = let e = bytes_length s in omega arith

pub bytes_at : (s : List ℕ) (k : ℕ) → 2 * k + 1 < length s → get_or (bytes s) k 0 ≡ byte (get_or s (2 * k) 0) (get_or s (2 * k + 1) 0)
unfolding bytes
bytes_at [] k h = absurd (omega arith)
bytes_at (a ∷ []) k h = absurd (omega arith)
bytes_at (a ∷ b ∷ s) zero h = refl
bytes_at (a ∷ b ∷ s) (suc k) h =
    let e : 2 * suc k ≡ suc (suc (2 * k)) = omega arith in
    let g : 2 * suc k + 1 ≡ suc (suc (2 * k + 1)) = omega arith in
    rw (g, e) (bytes_at s k (omega arith))

pub bytes_small : (s : List ℕ) (k : ℕ) → get_or (bytes s) k 0 < 256
unfolding bytes byte
bytes_small [] k = lit< tt
bytes_small (a ∷ []) k = lit< tt
bytes_small (a ∷ b ∷ s) zero = omega arith
bytes_small (a ∷ b ∷ s) (suc k) = bytes_small s k

-- ---- numbers, by the bytes that stand behind
pub number_join : (a b : List ℕ) → number (a ++ b) ≡ number a * 256 ^ length b + number b
unfolding number
number_join [] b = rw zero-mul (omega arith)
number_join (x ∷ a) b =
    let e = number_join a b in
    let m = 256 ^ length a in
    let n = 256 ^ length b in
    rw (length-append a b, pow-add 256 (length a) (length b), add-mul (x * m) (number a) n, mul_assoc x m n) (omega arith)

number_last : (bs : List ℕ) (b : ℕ) → number (bs ++ (b ∷ [])) ≡ number bs * 256 + b
unfolding number
number_last bs b = number_join bs (b ∷ []) ∙ omega arith

-- one byte more of a field
pub number_more : (bs : List ℕ) (at k : ℕ) → at + k < length bs
    → number (take (k + 1) (drop at bs)) ≡ number (take k (drop at bs)) * 256 + get_or bs (at + k) 0
number_more bs at k h =
    let l : k < length (drop at bs) = rw length-drop (omega arith) in
    rw (add-one, take-suc (drop at bs) k 0 l, number_last, get_or-drop)

-- which fits eight bytes where it is at most the eighth
pub number_room : (v k : ℕ) → v < 256 ^ k → k < 8 → v < 256 ^ 7
number_room v k h l = lt_of_lt_of_le h (pow-le-pow_right {n = 256} (lit< tt) {i = k} {j = 7} (omega arith))

pub number_grows : (v b k : ℕ) → v < 256 ^ k → b < 256 → v * 256 + b < 256 ^ (k + 1)
number_grows v b k h l = rw (add-one, pow-suc) (omega arith)

-- as many bytes as there are
pub number_ends : (bs : List ℕ) (at k w : ℕ) → k ≤ w → (k ≡ w) ⊎ (length bs ≤ at + k) → number (take k (drop at bs)) ≡ number (take w (drop at bs))
number_ends bs at k w h e =
    ⊎_elim (λ p. ap (λ (n : ℕ). number (take n (drop at bs))) p) (λ p. ap number (all k p ∙ sym (all w (omega (arith, p))))) e
  where
    all : (n : ℕ) → length bs ≤ at + n → take n (drop at bs) ≡ drop at bs
    all n p = take_all n (drop at bs) (rw length-drop (omega arith))

-- a part that stands within the first n places
pub part_within : (at w n : ℕ) (l : List ℕ) → at + w ≤ n → take w (drop at (take n l)) ≡ take w (drop at l)
part_within zero w n l h = take-take w n l (omega arith)
part_within (suc at) w zero l h = absurd (omega arith)
part_within (suc at) w (suc n) [] h = refl
part_within (suc at) w (suc n) (x ∷ l) h = part_within at w n l (omega arith)

-- the number of k bytes that are read
pub number_small : (s : List ℕ) (at k : ℕ) → number (take k (drop at (bytes s))) < 256 ^ k
unfolding number
number_small s at zero = lit< tt
number_small s at (suc k) = rw (← add-one k) (go (number_small s at k) (ltb (at + k) (length (bytes s))) refl)
  where
    go : number (take k (drop at (bytes s))) < 256 ^ k → (b : Bool) → ltb (at + k) (length (bytes s)) ≡ b → number (take (k + 1) (drop at (bytes s))) < 256 ^ (k + 1)
    go h true e = rw (number_more (bytes s) at k (ltb-true _ _ e)) (number_grows _ _ _ h (bytes_small s (at + k)))
    go h false e =
        rw (← number_ends (bytes s) at k (k + 1) (omega arith) (inr (ltb-false _ _ e)))
        (lt_of_lt_of_le h (pow-le-pow_right {n = 256} (lit< tt) {i = k} {j = k + 1} (omega arith)))

-- a value that fits its field is the field's number
pub number_back : (w v : ℕ) → v < 256 ^ w → number (field w v) ≡ v
unfolding field number
number_back zero v h = let k : v < 1 = rw pow-zero at h in omega arith
number_back (suc w) v h =
    let k : v < 256 ^ w * 256 = rw pow-suc at h in
    number_last (field w (v / 256)) (v % 256)
    ∙ rw (number_back w (v / 256) ((div-lt_iff_lt-mul {k = 256} {x = v} {y = 256 ^ w} (lit< tt)).1 k)) (div-add-mod' v 256)

-- ---- sums
pub sum_join : (a b : List ℕ) → sum (a ++ b) ≡ sum a + sum b
unfolding sum
sum_join [] b = omega arith
sum_join (x ∷ a) b = let e = sum_join a b in omega arith
