-- Document 02, #104: a text is read as the same text in upper case is, character by character and line by line.
use Rattle.std.proofs.Common.{◌≡◌, ℕ, zero, suc, ◌+◌, ◌-◌, ◌*◌, ◌/◌, ◌%◌, ◌<◌, ◌≤◌, Bool, true, false, cond, not, ◌&&◌, ◌||◌, eqb, ltb, leb, List, [], ◌∷◌, ◌++◌, length, get_or, take, drop, sym, refl, ap, ◌∙◌, arith, lit<, ltb-false, ltb-true, ne_eqb, eqb-true, le-leb, leb-true}
use borrow.Author.Tests.{lt-leb}
use lib.ListN.{length-map, get_or-map}
use Rattle.rows.specs.Scan.{row, ◌then◌, scan}
use Rattle.rows.proofs.ScanLaws.{both_left, both_right}
use Rattle.frames.specs.Bytes.{digit, worth, is_digit, digits, byte, bytes, all_digits}
use Rattle.frames.specs.Frames.{Layout, line_feed}
use Rattle.frames.specs.Texts.{due, start_of, line_at, starts}
use Rattle.frames.specs.Spelling.{upper, in_upper, Spells}
use Rattle.frames.specs.Reading.{value}
use Rattle.frames.proofs.ByteLaws.{each_below}

-- ---- one character: those below 103, one by one; from there on none is a digit, and none has another case
module _ (d : ℕ) (h : 103 ≤ d) where
  large : upper d ≡ d
  unfolding upper
  large = rw (le-leb 97 d (omega arith), lt-leb d 102 (omega arith))

  none : worth d ≡ 16
  unfolding worth
  none =
      rw (le-leb 48 d (omega arith), lt-leb d 57 (omega arith), le-leb 65 d (omega arith), lt-leb d 70 (omega arith), le-leb 97 d (omega arith), lt-leb d 102 (omega arith))

-- what a test says, which holds of each character below 103, and what holds of all from there on
each : (P : ℕ → Type 0) (test : ℕ → Bool) → ((d : ℕ) → test d ≡ true → P d) → (scan (λ (k : ℕ). row (test k) 1 0) 103).number ≡ 0 → ((d : ℕ) → 103 ≤ d → P d)
    → (d : ℕ) → P d
each P test says below above d = go (ltb d 103) refl
  where
    go : (b : Bool) → ltb d 103 ≡ b → P d
    go true e = says d (each_below test 103 below d (ltb-true d 103 e))
    go false e = above d (ltb-false d 103 e)

worth_upper : (d : ℕ) → worth (upper d) ≡ worth d
unfolding worth upper scan ◌then◌ row
worth_upper = each (λ (d : ℕ). worth (upper d) ≡ worth d) (λ (d : ℕ). eqb (worth (upper d)) (worth d)) (λ d. eqb-true _ _) refl (λ d h. ap worth (large d h))

-- a digit is written as its upper case
digit_worth : (d : ℕ) → is_digit d ≡ true → digit (worth d) ≡ upper d
unfolding worth upper digit scan ◌then◌ row
digit_worth =
    each (λ (d : ℕ). is_digit d ≡ true → digit (worth d) ≡ upper d) (λ (d : ℕ). not (is_digit d) || eqb (digit (worth d)) (upper d)) (λ d. said d) refl
    (λ d h r. absurd (omega (arith, none d h, ltb-true (worth d) 16 r)))
  where
    said : (d : ℕ) → (not (is_digit d) || eqb (digit (worth d)) (upper d)) ≡ true → is_digit d ≡ true → digit (worth d) ≡ upper d
    said d t r = eqb-true _ _ (rw r at t)

-- a character before A, as a line feed or one of 0 to 9, and nothing else, is that one in upper case
below_upper : (a : ℕ) → a < 65 → (d : ℕ) → eqb (upper d) a ≡ eqb d a
unfolding upper
below_upper a h d = go (leb 97 d && leb d 102) refl
  where
    go : (b : Bool) → (leb 97 d && leb d 102) ≡ b → eqb (cond b (d - 32) d) a ≡ eqb d a
    go true e =
        let l : 97 ≤ d = leb-true _ _ (both_left _ _ e) in
        ne_eqb (d - 32) a (λ q. omega arith) ∙ sym (ne_eqb d a (λ q. omega arith))
    go false e = refl

pub feed_upper : (d : ℕ) → eqb (upper d) line_feed ≡ eqb d line_feed
feed_upper = below_upper line_feed (lit< tt)

-- ---- texts
pub bytes_upper : (t : List ℕ) → bytes (in_upper t) ≡ bytes t
unfolding bytes byte
bytes_upper [] = refl
bytes_upper (a ∷ []) = refl
bytes_upper (a ∷ b ∷ t) = rw (worth_upper a, worth_upper b, bytes_upper t)

pub right_upper : (t : List ℕ) → all_digits (in_upper t) ≡ all_digits t
unfolding all_digits
right_upper [] = refl
right_upper (a ∷ []) = refl
right_upper (a ∷ b ∷ t) = rw (worth_upper a, worth_upper b, right_upper t)

at_upper : (a : ℕ) → a < 65 → (t : List ℕ) (k : ℕ) → eqb (get_or (in_upper t) k 0) a ≡ eqb (get_or t k 0) a
unfolding upper
at_upper a h t k = ap (λ (c : ℕ). eqb c a) (get_or-map upper t k 0) ∙ below_upper a h (get_or t k 0)

pub feed_at_upper : (t : List ℕ) (k : ℕ) → eqb (get_or (in_upper t) k 0) line_feed ≡ eqb (get_or t k 0) line_feed
feed_at_upper = at_upper line_feed (lit< tt)

-- how a text starts, where that is with two of 0 to 9
pub starts_upper : (a b : ℕ) → a < 65 → b < 65 → (t : List ℕ) → starts a b (in_upper t) ≡ starts a b t
starts_upper a b ha hb t = rw (length-map t upper, at_upper a ha t 0, at_upper b hb t 1)

pub value_upper : (t : List ℕ) (at width : ℕ) → value (in_upper t) at width ≡ value t at width
unfolding value
value_upper t at width = rw (bytes_upper t)

-- a part of a text, in upper case
pub take_upper : (n : ℕ) (t : List ℕ) → take n (in_upper t) ≡ in_upper (take n t)
take_upper zero t = refl
take_upper (suc n) [] = refl
take_upper (suc n) (d ∷ t) = ap (λ (r : List ℕ). upper d ∷ r) (take_upper n t)

pub drop_upper : (n : ℕ) (t : List ℕ) → drop n (in_upper t) ≡ in_upper (drop n t)
drop_upper zero t = refl
drop_upper (suc n) [] = refl
drop_upper (suc n) (d ∷ t) = drop_upper n t

pub line_at_upper : (layout : ℕ → Layout) (t : List ℕ) (j : ℕ) → line_at layout (in_upper t) j ≡ in_upper (line_at layout t j)
line_at_upper layout t j = rw (drop_upper (start_of layout j) t) (take_upper (due layout j + 1) (drop (start_of layout j) t))

-- ---- a line that is read is, in upper case, the line that its bytes are written as
feed_self : upper line_feed ≡ line_feed
unfolding upper
feed_self = refl

pub line_upper : (k : ℕ) (line : List ℕ) → length line ≡ 2 * k + 1 → all_digits line ≡ true → get_or line (2 * k) 0 ≡ line_feed
    → in_upper line ≡ digits (bytes line) ++ (line_feed ∷ [])
unfolding all_digits digits bytes byte
line_upper k [] l r e = absurd (omega arith)
line_upper zero (a ∷ []) l r e = ap (λ (c : ℕ). c ∷ []) (ap upper e ∙ feed_self)
line_upper (suc k) (a ∷ []) l r e = absurd (omega arith)
line_upper zero (a ∷ b ∷ t) l r e = absurd (omega arith)
line_upper (suc k) (a ∷ b ∷ t) l r e =
    let both = both_left (is_digit a && is_digit b) (all_digits t) r in
    let place : 2 * suc k ≡ suc (suc (2 * k)) = omega arith in
    let rest = line_upper k t (omega arith) (both_right (is_digit a && is_digit b) (all_digits t) r) (rw place at e) in
    let ra = both_left (is_digit a) (is_digit b) both in
    let rb = both_right (is_digit a) (is_digit b) both in
    let ha : worth a < 16 = ltb-true _ _ ra in
    let hb : worth b < 16 = ltb-true _ _ rb in
    let high : (worth a % 16 * 16 + worth b % 16) / 16 ≡ worth a = omega arith in
    let low : (worth a % 16 * 16 + worth b % 16) % 16 ≡ worth b = omega arith in
    rw (high, low, digit_worth a ra, digit_worth b rb, rest)

-- ---- what takes a text as the text in upper case takes all spellings of it alike
pub alike : {A : Type 0} (f : List ℕ → A) → ((t : List ℕ) → f (in_upper t) ≡ f t) → (s t : List ℕ) → Spells s t → f s ≡ f t
alike f same s t spelled = sym (same s) ∙ ap f spelled ∙ same t
