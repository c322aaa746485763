-- Laws of the text of a refusal: numerals, and a room that is written part by part.
use Prim.Native.Nat.{ℕ, zero, suc, ◌+◌, ◌-◌, ◌*◌, ◌/◌, ◌%◌, ◌^◌, ◌<◌, ◌≤◌}
use mathlib.Core.Path.{◌≡◌, refl, ap, ◌∙◌}
use mathlib.Core.List.{List, [], ◌∷◌, ◌++◌}
use mathlib.Core.Bool.{Bool, true, false, cond}
use native.Mathlib.Nat.{pow-suc, one-le-pow, pow-le-pow_right}
use native.Mathlib.Omega.{arith}
use borrow.Author.Tests.{lt-ltb, le-ltb, le-leb, leb-true, leb-false}
use lib.Dec.{lit<, lit≤, leb, ltb}
use lib.ListN.{length, take, drop, replicate, length-append}
use lib.Seq.{take-append_seam, drop-append-add}
use Rattle.io.specs.Digits.{last_digits, IsDigitCount}
use Rattle.rows.specs.declared.Answer.{Answer}
use Rattle.frames.specs.Frames.{line_feed}
use Rattle.lines.specs.Building.{laid}
use Rattle.refusals.specs.declared.Words.{Words}
use Rattle.refusals.specs.Refusals.{numeral_of, numeral, refused_word, at_word, refusal, room_of_words, words}
use Rattle.refusals.specs.Private.{joined}

-- ---- the fewest digits that hold a number are its numeral
digits_numeral : (most k n : ℕ) → k ≤ most → IsDigitCount 10 1 n k → last_digits 10 k n ≡ numeral_of most n
unfolding numeral_of
digits_numeral most zero n h f = absurd (omega (arith, f.0))
digits_numeral zero (suc k) n h f = absurd (omega (arith, h))
digits_numeral (suc most) (suc zero) n h f =
    let small : n < 10 = f.1 in
    rw (lt-ltb n 10 small, lt-ltb (n % 10) 10 (omega arith))
digits_numeral (suc most) (suc (suc k)) n h f =
    let most_of_it : n < 10 ^ suc k * 10 = rw pow-suc at f.1 in
    let one_less : suc (suc k) - 1 ≡ suc k = omega arith in
    let large : 10 ^ k * 10 ≤ n = rw (one_less, pow-suc) at (f.2 (omega arith)) in
    let next : suc k - 1 ≡ k = omega arith in
    let some : 1 ≤ 10 ^ k = one-le-pow k 10 (lit< tt) in
    let front : last_digits 10 (suc k) (n / 10) ≡ numeral_of most (n / 10) =
    digits_numeral most (suc k) (n / 10) (omega arith) (omega arith, omega arith, λ j. rw next (omega arith)) in
    rw (le-ltb n 10 (omega arith), lt-ltb (n % 10) 10 (omega arith)) (ap (λ (l : List ℕ). l ++ ((48 + n % 10) ∷ [])) front)

-- 20 digits hold a number of 64 bits
few_digits : (n k : ℕ) → n < 18446744073709551616 → IsDigitCount 10 1 n k → k ≤ 20
few_digits n k h f = go (leb k 20) refl
  where
    go : (b : Bool) → leb k 20 ≡ b → k ≤ 20
    go true e = leb-true k 20 e
    go false e =
        let more : 20 < k = leb-false k 20 e in
        let large : 10 ^ (k - 1) ≤ n = f.2 (omega arith) in
        let grows : 10 ^ 20 ≤ 10 ^ (k - 1) = pow-le-pow_right {n = 10} (lit< tt) {i = 20} {j = k - 1} (omega arith) in
        absurd (omega arith)

pub is_numeral : (text : List ℕ) {k n : ℕ} → n < 18446744073709551616 → IsDigitCount 10 1 n k → take k text ≡ last_digits 10 k n → take k text ≡ numeral n
unfolding numeral
is_numeral text {k} {n} h f e = e ∙ digits_numeral 20 k n (few_digits n k h f) f

-- ---- the room holds every refusal
numeral_short : (most n : ℕ) → length (numeral_of most n) ≤ most
unfolding numeral_of
numeral_short zero n = omega arith
numeral_short (suc most) n = rw length-append (go (ltb n 10) (numeral_short most (n / 10)))
  where
    go : (b : Bool) → length (numeral_of most (n / 10)) ≤ most → length (cond b [] (numeral_of most (n / 10))) + 1 ≤ suc most
    go true h = omega arith
    go false h = omega arith

refusal_short : (a : Answer) → length (refusal a) ≤ room_of_words
unfolding refusal numeral
refusal_short a = simp length-append (omega (arith, numeral_short 20 a.number, numeral_short 20 a.place))

-- ---- a text written part by part
zeros_left : (k n : ℕ) → drop {A = ℕ} k (replicate n 0) ≡ replicate (n - k) 0
zeros_left zero n = let e : n - 0 ≡ n = omega arith in rw e
zeros_left (suc k) zero = let e : 0 - suc k ≡ 0 = omega arith in rw e
zeros_left (suc k) (suc n) = let e : suc n - suc k ≡ n - k = omega arith in rw e (zeros_left k n)

joined_words : (t u : List ℕ) → length t + length u ≤ room_of_words → joined (words t) u ≡ words (t ++ u)
unfolding joined words laid
joined_words t u h =
    let left : room_of_words - length t - length u ≡ room_of_words - (length t + length u) = omega arith in
    rw (le-leb (length t + length u) room_of_words h, length-append t u, take-append_seam t (replicate (room_of_words - length t) 0))
    (rw (drop-append-add t (replicate (room_of_words - length t) 0) (length u), zeros_left, left))

pub refusal_joined : (a : Answer) {r p : List ℕ} → r ≡ numeral a.number → p ≡ numeral a.place
    → joined (joined (joined (joined (joined (words []) refused_word) r) at_word) p) (line_feed ∷ []) ≡ words (refusal a)
unfolding refusal
refusal_joined a u v =
    let x = numeral a.number in
    let y = numeral a.place in
    let short = simp length-append at (refusal_short a) in
    let n = length-append refused_word x in
    let m = length-append (refused_word ++ x) at_word in
    let l = length-append (refused_word ++ x ++ at_word) y in
    rw (u, v, joined_words [] refused_word (lit≤ tt), joined_words refused_word x (omega arith), joined_words (refused_word ++ x) at_word (omega arith))
    (rw (joined_words (refused_word ++ x ++ at_word) y (omega arith), joined_words (refused_word ++ x ++ at_word ++ y) (line_feed ∷ []) (omega arith)))

-- what a caller learns: its bytes are as many as its length says, or more
pub words_fit : (a : Answer) (w : Words) → w ≡ words (refusal a) → w.len ≤ length w.bytes
unfolding words
words_fit a w e = rw e (rw length-append (omega arith))
